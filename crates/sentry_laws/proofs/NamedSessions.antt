-- Each session that is held is named by a layer of some hub.
use Rattle.std.proofs.Common.{◌≡◌, ℕ, List, Bool, true, false}
use Rattle.std.specs.Prelude.{Some, None, Result, Ok, if◌then◌else◌, ◌==◌}
use Rattle.sentry_base.specs.Callbacks.{Partial}
use Rattle.sentry_base.specs.declared.protocol.refusal.Refusal.{Refusal}
use Rattle.sentry_options.specs.Meanings.{Meanings}
use Rattle.sentry_state.specs.declared.state.Out.{Out}
use Rattle.sentry_state.specs.Worlds.{World, SessionHistory, starting_world}
use Rattle.sentry_calls.specs.Runs.{StepsTo, Run}
use Rattle.sentry_calls.specs.declared.call.Call.{Call}
use Rattle.sentry_calls.specs.declared.call.Reply.{Reply}
use Rattle.sentry_laws.specs.Reachable.{SessionsAreNamed}
use Rattle.sentry_laws.proofs.Keeping.{trail_of, kept_by_calls}
use Rattle.sentry_laws.proofs.Numbered.{IsNumbered, numbered_changes, none_numbered}

none_held : (own : Bool) (session : SessionHistory) → (if own then None else None) ≡ Some session → ⊥
none_held true session h = absurd cc
none_held false session h = absurd cc

module _ {P C : Type 0} where
  record NamesSessions (world : World P C) : Type 0 where
    numbers : IsNumbered world
    named : SessionsAreNamed world

  first_named : (tag start : ℕ) → NamesSessions (starting_world {P = P} {C = C} tag start)
  first_named tag start = record {
    numbers = none_numbered tag start;
    named = λ key session at. absurd (none_held (key.tag == tag) session at);
  }

module _ {P C : Type 0} (gives : P → Partial) (meanings : C → Meanings) where
  named_next : (call : Call P C) (out : Out (Reply P C)) (world next : World P C)
      → StepsTo gives meanings world call (Ok out) next → NamesSessions world → NamesSessions next
  named_next call out world next may h =
      let trail = trail_of gives meanings call out world next may in
      record {
        numbers = numbered_changes meanings trail.changes h.numbers;
        named = trail.names h.numbers h.named;
      }

  pub sessions_named : (tag start : ℕ) (calls : List (Call P C)) (answers : List (Result (Out (Reply P C)) Refusal))
      (last : World P C)
      → Run gives meanings (starting_world tag start) calls answers last → SessionsAreNamed last
  sessions_named tag start calls answers last run =
      (kept_by_calls gives meanings NamesSessions named_next calls answers (starting_world tag start) last run
      (first_named tag start)).named
