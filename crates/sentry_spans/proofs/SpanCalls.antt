-- What a call on transactions and spans finds in an engine.
use Rattle.std.proofs.Common.{◌≡◌, ap, ◌∙◌}
use Rattle.std.specs.Prelude.{Some, None}
use Rattle.sentry_base.specs.declared.protocol.keys.ClientKey.{ClientKey}
use Rattle.sentry_base.specs.declared.protocol.keys.TransactionKey.{TransactionKey}
use Rattle.sentry_base.specs.declared.protocol.span.Span.{Span}
use Rattle.sentry_span_table.specs.SpanLists.{TransactionHistory, fate_of, with_span_finished}
use Rattle.sentry_span_table.specs.declared.table.records.SpanFate.{SpanFate}
use Rattle.sentry_span_table.specs.declared.table.records.SpanFate.TheVariants.{Lost, Gone}
use Rattle.sentry_span_table.proofs.SpanListLemmas.{finished_lost, finished_gone}
use Rattle.sentry_spans.specs.Spans.{with_fate, with_span_in}
use Rattle.sentry_state.specs.Outcomes.{transaction_at}
use Rattle.sentry_state.specs.SpanChanges.{with_transaction}
use Rattle.sentry_state.proofs.SpanKeeping.{transaction_in_table, transaction_unchanged}
use Rattle.sentry_state.specs.declared.state.State.{State}
use Rattle.sentry_state.specs.Worlds.{World, Stands}

module _ {P C : Type 0} where
  -- what becomes of the world when a span finishes in a transaction that is not held, or that is
  pub joins_none : (world after : World P C) (key : TransactionKey) (span : Span) → transaction_at world key ≡ None
      → with_span_in key span (transaction_at world key) after ≡ after
  joins_none world after key span none = ap (λ o. with_span_in key span o after) none

  pub joins : (world after : World P C) (key : TransactionKey) (span : Span) (state : TransactionHistory) (fate : SpanFate)
      → transaction_at world key ≡ Some state → fate_of state ≡ fate
      → with_span_in key span (transaction_at world key) after
      ≡ with_fate fate (with_transaction key.number (with_span_finished span state) after)
  joins world after key span state fate at is =
      ap (λ o. with_span_in key span o after) at
      ∙ ap (λ f. with_fate f (with_transaction key.number (with_span_finished span state) after)) is

  -- a span that is lost, or gone, changes nothing of what an engine has of its transaction
  pub stands_without : (engine : State P C) (world : World P C) → Stands engine world → (key : TransactionKey)
      (span : Span) (state : TransactionHistory) (client : ClientKey) → transaction_at world key ≡ Some state
      → fate_of state ≡ Lost client → Stands engine (with_transaction key.number (with_span_finished span state) world)
  stands_without engine world s key span state client at lost =
      transaction_unchanged engine world s key.number state (with_span_finished span state)
      (transaction_in_table engine world s key state at) (finished_lost state span client lost)

  pub stands_gone : (engine : State P C) (world : World P C) → Stands engine world → (key : TransactionKey)
      (span : Span) (state : TransactionHistory) → transaction_at world key ≡ Some state
      → fate_of state ≡ Gone → Stands engine (with_transaction key.number (with_span_finished span state) world)
  stands_gone engine world s key span state at gone =
      transaction_unchanged engine world s key.number state (with_span_finished span state)
      (transaction_in_table engine world s key state at) (finished_gone state span gone)
