-- Runs taken apart.
use Rattle.std.specs.Prelude.{◌≡◌, Bool, true, false, List, [], ◌∷◌, ◌++◌, length, Result}
use Rattle.sentry_base.specs.Callbacks.{Partial}
use Rattle.sentry_base.specs.declared.protocol.refusal.Refusal.{Refusal}
use Rattle.sentry_options.specs.Meanings.{Meanings}
use Rattle.sentry_state.specs.declared.state.Out.{Out}
use Rattle.sentry_state.specs.Worlds.{World}
use Rattle.sentry_calls.specs.declared.call.Call.{Call}
use Rattle.sentry_calls.specs.declared.call.Reply.{Reply}
use Rattle.sentry_calls.specs.Runs.{Run}

-- the first where the test holds, the second where it doesn't
abbrev pub IfElse : Bool → Type 0 → Type 0 → Type 0
IfElse true first second = first
IfElse false first second = second

module _ {P C : Type 0} (gives : P → Partial) (meanings : C → Meanings) where
  -- what is said of a run: of the world where it begins, its calls, their answers, and the world where it ends
  abbrev pub OfRun : Type 1
  OfRun =
      (world : World P C) (calls : List (Call P C)) (answers : List (Result (Out (Reply P C)) Refusal))
      (last : World P C) → Run gives meanings world calls answers last → Type 0

  -- it is so of the run, and of what is left of it after each call
  abbrev pub FromEachCall : OfRun → (world : World P C) (calls : List (Call P C))
      (answers : List (Result (Out (Reply P C)) Refusal)) (last : World P C)
      → Run gives meanings world calls answers last → Type 0
  FromEachCall IsSo world (call ∷ calls) (answer ∷ answers) last run =
      IsSo world (call ∷ calls) (answer ∷ answers) last run × FromEachCall IsSo run.0 calls answers last run.2
  FromEachCall IsSo world [] answers last run = Unit {0}
  FromEachCall IsSo world (call ∷ calls) [] last run = Unit {0}

  -- a run of some calls and then of others goes through a world where the first end and the others begin
  abbrev pub RunsSplit : Type 0
  RunsSplit =
      (world last : World P C) (calls others : List (Call P C))
      (answers more : List (Result (Out (Reply P C)) Refusal))
      → length calls ≡ length answers → Run gives meanings world (calls ++ others) (answers ++ more) last
      → (middle : World P C) × Run gives meanings world calls answers middle
      × Run gives meanings middle others more last
