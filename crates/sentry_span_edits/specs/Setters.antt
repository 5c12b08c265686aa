-- The calls that change a transaction or a span, each by one edit.
use Rattle.std.specs.Prelude.{◌≡◌, ℕ, true, Option, Some, None, [], is_ok, Err}
use Rattle.sentry_plain.specs.Texts.{Bytes}
use Rattle.sentry_plain.specs.declared.value.Value.{Value}
use Rattle.sentry_base.specs.declared.protocol.context.SpanStatus.{SpanStatus}
use Rattle.sentry_base.specs.declared.protocol.keys.TransactionKey.{TransactionKey}
use Rattle.sentry_base.specs.declared.protocol.keys.TransactionOrSpanKey.{TransactionOrSpanKey}
use Rattle.sentry_base.specs.declared.protocol.keys.TransactionOrSpanKey.TheVariants.{Transaction, Span}
use Rattle.sentry_base.specs.declared.protocol.refusal.Refusal.TheVariants.{Stale}
use Rattle.sentry_base.specs.declared.protocol.request.Request.{Request}
use Rattle.sentry_span_edits.specs.Edits.{edit_span_record, edit_transaction}
use Rattle.sentry_span_edits.specs.declared.edit.SpanEdit.{SpanEdit}
use Rattle.sentry_span_edits.specs.declared.edit.SpanEdit.TheVariants as edit
use Rattle.sentry_span_table.specs.SpanLists.{TransactionHistory}
use Rattle.sentry_state.specs.Outcomes.{Outcome, stored_transaction_at, reply_with, require_some, span_at, transaction_at}
use Rattle.sentry_state.specs.SpanChanges.{with_span, with_transaction}
use Rattle.sentry_state.specs.Worlds.{World}

module _ {P C : Type 0} where
  -- the world in which a transaction that was found is edited
  abbrev pub with_found_edited : SpanEdit → ℕ → Option TransactionHistory → World P C → World P C
  with_found_edited change number None world = world
  with_found_edited change number (Some state) world = with_transaction number (edit_transaction change state) world

  -- the world in which a transaction is edited, if it is held
  abbrev pub with_edited : SpanEdit → TransactionKey → World P C → World P C
  with_edited change key world = with_found_edited change key.number (transaction_at world key) world

  -- a call that edits a transaction or a span
  unfoldable pub change : SpanEdit → TransactionOrSpanKey → World P C → Outcome P C (Unit {0})
  change by (Transaction key) world =
      require_some Stale world (stored_transaction_at world key) (λ held.
      reply_with tt [] (with_edited by key world))
  change by (Span key) world =
      require_some Stale world (span_at world key) (λ held.
      reply_with tt [] (with_span key.number (edit_span_record by held) world))

  -- each edit of it has a reply
  abbrev pub IsEditable : TransactionOrSpanKey → World P C → Type 0
  IsEditable span world = (by : SpanEdit) → is_ok (change by span world).answer ≡ true

  -- each edit of it is refused, since it isn't held
  abbrev pub IsStale : TransactionOrSpanKey → World P C → Type 0
  IsStale span world = (by : SpanEdit) → (change by span world).answer ≡ Err Stale

  -- ---- calls

  abbrev pub set_data : TransactionOrSpanKey → Bytes → Value → World P C → Outcome P C (Unit {0})
  set_data span key value = change (edit.Data key value) span

  abbrev pub set_tag : TransactionOrSpanKey → Bytes → Bytes → World P C → Outcome P C (Unit {0})
  set_tag span key value = change (edit.Tag key value) span

  abbrev pub set_extra : TransactionKey → Bytes → Value → World P C → Outcome P C (Unit {0})
  set_extra transaction key value = change (edit.Extra key value) (Transaction transaction)

  abbrev pub set_status : TransactionOrSpanKey → SpanStatus → World P C → Outcome P C (Unit {0})
  set_status span status = change (edit.Status status) span

  abbrev pub set_op : TransactionOrSpanKey → Bytes → World P C → Outcome P C (Unit {0})
  set_op span op = change (edit.Op op) span

  -- the name of a transaction, and the description of a span, which may be empty
  abbrev pub set_name : TransactionOrSpanKey → Bytes → World P C → Outcome P C (Unit {0})
  set_name span name = change (edit.Name name) span

  abbrev pub set_request : TransactionOrSpanKey → Request → World P C → Outcome P C (Unit {0})
  set_request span request = change (edit.Request request) span

  abbrev pub set_origin : TransactionKey → Bytes → World P C → Outcome P C (Unit {0})
  set_origin transaction origin = change (edit.Origin origin) (Transaction transaction)
