-- A call whose reply is put into the one type of replies.
use Rattle.std.proofs.Common.{◌≡◌, true, ap, subst, sym}
use Rattle.std.specs.Prelude.{Result, Ok, Err, is_ok}
use Rattle.sentry_base.specs.declared.protocol.refusal.Refusal.{Refusal}
use Rattle.sentry_base.specs.declared.protocol.refusal.Refusal.TheVariants.{OutOfMemory, Stale, OutOfOrder, StillNamed, ScopesOpen, InvalidDsn, InvalidRate, ForeignLosses, Full}
use Rattle.sentry_state.specs.declared.state.Out.{Out}
use Rattle.sentry_state.specs.declared.state.State.{State}
use Rattle.sentry_calls.specs.declared.call.Reply.{Reply}
use Rattle.sentry_state.specs.Worlds.{World}
use Rattle.sentry_state.specs.Outcomes.{Outcome, Need, memory, nothing, IsAnswer, DoesWith}
use Rattle.sentry_calls.specs.Replies.{map_answer, map_reply}

module _ {P C T : Type 0} where
  is_ok-map_answer : (f : T → Reply P C) (answer : Result (Out T) Refusal) → is_ok answer ≡ true → is_ok (map_answer f answer) ≡ true
  is_ok-map_answer f (Ok out) e = e
  is_ok-map_answer f (Err refusal) e = e

  IsAnswer-map_answer : (need : Need) (f : T → Reply P C) (expected answer : Result (Out T) Refusal)
      → IsAnswer expected answer need → IsAnswer (map_answer f expected) (map_answer f answer) need
  IsAnswer-map_answer need f expected (Ok out) h = ap (map_answer f) h
  IsAnswer-map_answer memory f expected (Err OutOfMemory) h = is_ok-map_answer f expected h
  IsAnswer-map_answer nothing f expected (Err OutOfMemory) h = h
  IsAnswer-map_answer need f expected (Err Stale) h = ap (map_answer f) h
  IsAnswer-map_answer need f expected (Err OutOfOrder) h = ap (map_answer f) h
  IsAnswer-map_answer need f expected (Err StillNamed) h = ap (map_answer f) h
  IsAnswer-map_answer need f expected (Err ScopesOpen) h = ap (map_answer f) h
  IsAnswer-map_answer need f expected (Err (InvalidDsn cause)) h = ap (map_answer f) h
  IsAnswer-map_answer need f expected (Err InvalidRate) h = ap (map_answer f) h
  IsAnswer-map_answer need f expected (Err ForeignLosses) h = ap (map_answer f) h
  IsAnswer-map_answer need f expected (Err Full) h = ap (map_answer f) h

  does_mapped : (need : Need) (f : T → Reply P C) (old new : State P C) (answer : Result (Out T) Refusal)
      (outcome : World P C → Outcome P C T) → DoesWith need old new answer outcome
      → DoesWith need old new (map_answer f answer) (λ world. map_reply f (outcome world))
  does_mapped need f old new (Ok out) outcome d =
      λ world s. (IsAnswer-map_answer need f (outcome world).answer (Ok out) (d world s).0, (d world s).1)
  does_mapped need f old new (Err refusal) outcome d =
      (d.0, λ world s. IsAnswer-map_answer need f (outcome world).answer (Err refusal) (d.1 world s))

  -- a call did the same with its reply put into the one type of replies
  pub does_replying : (need : Need) (f : T → Reply P C) (old new : State P C) (answer : Result (Out T) Refusal)
      (result : Result (Out (Reply P C)) Refusal) (outcome : World P C → Outcome P C T)
      → DoesWith need old new answer outcome → result ≡ map_answer f answer
      → DoesWith need old new result (λ world. map_reply f (outcome world))
  does_replying need f old new answer result outcome d is =
      subst (λ r. DoesWith need old new r (λ world. map_reply f (outcome world))) (sym is)
      (does_mapped need f old new answer outcome d)
