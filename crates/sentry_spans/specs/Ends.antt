-- The calls by which a transaction or a span finishes and is then forgotten, at once.
use Rattle.std.specs.Prelude.{ℕ, Result, Ok, Err, List}
use Rattle.sentry_base.specs.declared.protocol.envelope.Envelope.{Envelope}
use Rattle.sentry_base.specs.declared.protocol.keys.ClientKey.{ClientKey}
use Rattle.sentry_base.specs.declared.protocol.keys.HubKey.{HubKey}
use Rattle.sentry_base.specs.declared.protocol.keys.SpanKey.{SpanKey}
use Rattle.sentry_base.specs.declared.protocol.keys.TransactionKey.{TransactionKey}
use Rattle.sentry_base.specs.declared.protocol.keys.TransactionOrSpanKey.TheVariants as key_of
use Rattle.sentry_base.specs.declared.protocol.refusal.Refusal.{Refusal}
use Rattle.sentry_spans.specs.Discards.{discard}
use Rattle.sentry_spans.specs.Spans.{finish_span, finish_transaction}
use Rattle.sentry_state.specs.declared.state.Out.{Out}
use Rattle.sentry_state.specs.Outcomes.{Outcome, refuse, reply_with}
use Rattle.sentry_state.specs.Worlds.{World}

-- the answer of a discard, which hands out nothing
abbrev pub discard_answer : Result (Out (Unit {0})) Refusal → Result (Unit {0}) Refusal
discard_answer (Ok out) = Ok tt
discard_answer (Err refusal) = Err refusal

module _ {P C : Type 0} where
  -- what a finish handed out, and what the discard after it answered: as a reply, since the finish stays done where the
  -- discard is refused
  abbrev pub discarded : List (ClientKey × Envelope) → Outcome P C (Unit {0}) → Outcome P C (Result (Unit {0}) Refusal)
  discarded sent outcome = reply_with (discard_answer outcome.answer) sent outcome.after

  -- the discard after a finish that answered this
  abbrev pub discard_after : Result (Out (Unit {0})) Refusal → World P C → (World P C → Outcome P C (Unit {0}))
      → Outcome P C (Result (Unit {0}) Refusal)
  discard_after (Ok out) world go = discarded out.sent (go world)
  discard_after (Err refusal) world go = refuse refusal world

  -- a finish, and then a discard of what finished, unless the finish was refused
  abbrev pub then_discard : Outcome P C (Unit {0}) → (World P C → Outcome P C (Unit {0}))
      → Outcome P C (Result (Unit {0}) Refusal)
  then_discard finish go = discard_after finish.answer finish.after go

  -- a span finishes at a moment, and is then forgotten
  abbrev pub end_span : SpanKey → ℕ → World P C → Outcome P C (Result (Unit {0}) Refusal)
  end_span key moment world = then_discard (finish_span key moment world) (discard (key_of.Span key))

  -- a transaction finishes at a moment, under the top scope of a hub, and is then forgotten
  abbrev pub end_transaction : TransactionKey → HubKey → ℕ → World P C → Outcome P C (Result (Unit {0}) Refusal)
  end_transaction key hub moment world =
      then_discard (finish_transaction key hub moment world) (discard (key_of.Transaction key))
