-- The call by which a transaction or a span is forgotten.
use Rattle.std.specs.Prelude.{ℕ, Bool, not, List, []}
use Rattle.sentry_plain.specs.Tables.{without}
use Rattle.sentry_base.specs.declared.protocol.keys.TransactionOrSpanKey.{TransactionOrSpanKey}
use Rattle.sentry_base.specs.declared.protocol.keys.TransactionOrSpanKey.TheVariants.{Transaction, Span}
use Rattle.sentry_base.specs.declared.protocol.refusal.Refusal.TheVariants.{Stale, StillNamed}
use Rattle.sentry_hub_table.specs.Hubs.{is_span_named, is_transaction_named}
use Rattle.sentry_hub_table.specs.declared.hub.HubState.{HubState}
use Rattle.sentry_span_table.specs.SpanTables.{has_span_of}
use Rattle.sentry_state.specs.Outcomes.{Outcome, stored_transaction_at, reply_with, require, require_some, span_at}
use Rattle.sentry_state.specs.Worlds.{World, span_table}

-- the scope of a layer of a hub names it
abbrev pub is_active_on : {P : Type 0} → TransactionOrSpanKey → List (ℕ × HubState P) → Bool
is_active_on (Transaction key) hubs = is_transaction_named key hubs
is_active_on (Span key) hubs = is_span_named key hubs

module _ {P C : Type 0} where
  -- a transaction or a span is forgotten, if no layer names it and no span that is held belongs to it; nothing is lost
  unfoldable pub discard : TransactionOrSpanKey → World P C → Outcome P C (Unit {0})
  discard (Transaction key) world =
      require_some Stale world (stored_transaction_at world key) (λ held.
      require StillNamed world (not (is_active_on (Transaction key) world.hubs))
      (require StillNamed world (not (has_span_of (span_table world) key))
      (reply_with tt [] (record world { transactions = without world.transactions key.number }))))
  discard (Span key) world =
      require_some Stale world (span_at world key) (λ held.
      require StillNamed world (not (is_active_on (Span key) world.hubs))
      (reply_with tt [] (record world { spans = without world.spans key.number })))
