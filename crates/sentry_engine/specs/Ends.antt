-- What holds where a run ends.
use Rattle.std.specs.Prelude.{ℕ, List, Result}
use Rattle.sentry_base.specs.Callbacks.{Partial}
use Rattle.sentry_base.specs.declared.protocol.refusal.Refusal.{Refusal}
use Rattle.sentry_options.specs.Meanings.{Meanings}
use Rattle.sentry_state.specs.declared.state.Out.{Out}
use Rattle.sentry_state.specs.Worlds.{World, first_world}
use Rattle.sentry_calls.specs.declared.call.Call.{Call}
use Rattle.sentry_calls.specs.declared.call.Reply.{Reply}
use Rattle.sentry_calls.specs.Runs.{Run}

module _ {P C : Type 0} (gives : P → Partial) (meanings : C → Meanings) (tag : ℕ) (calls : List (Call P C))
    (answers : List (Result (Out (Reply P C)) Refusal)) where
  -- the calls with these answers lead from the first world to this one
  abbrev pub EndsIn : World P C → Type 0
  EndsIn last = Run gives meanings (first_world tag) calls answers last

  -- the world to which they lead is so
  abbrev pub AtEnd : ((last : World P C) → EndsIn last → Type 0) → Type 0
  AtEnd IsSo = (last : World P C) (run : EndsIn last) → IsSo last run
