-- Runs taken apart, and what holds from each call of a run on.
use Rattle.std.proofs.Common.{refl, List, [], ◌∷◌, arith}
use Rattle.std.specs.Prelude.{Result}
use Rattle.sentry_base.specs.Callbacks.{Partial}
use Rattle.sentry_base.specs.declared.protocol.refusal.Refusal.{Refusal}
use Rattle.sentry_options.specs.Meanings.{Meanings}
use Rattle.sentry_state.specs.declared.state.Out.{Out}
use Rattle.sentry_state.specs.Worlds.{World}
use Rattle.sentry_calls.specs.declared.call.Call.{Call}
use Rattle.sentry_calls.specs.declared.call.Reply.{Reply}
use Rattle.sentry_calls.specs.Runs.{StepsTo, Run}
use Rattle.sentry_laws.specs.PartsOfRuns.{OfRun, FromEachCall, RunsSplit}

module _ {P C : Type 0} (gives : P → Partial) (meanings : C → Meanings) where
  pub runs_split : RunsSplit gives meanings
  runs_split world last [] others [] more same run = (world, refl, run)
  runs_split world last [] others (answer ∷ answers) more same run = absurd (omega (arith, same))
  runs_split world last (call ∷ calls) others [] more same run = absurd (omega (arith, same))
  runs_split world last (call ∷ calls) others (answer ∷ answers) more same run =
      let parts = runs_split run.0 last calls others answers more (omega (arith, same)) run.2 in
      (parts.0, (run.0, run.1, parts.1), parts.2)

  -- what holds of each run from a world of some kind holds from each call on, where calls lead to such worlds
  module _ (IsSo : OfRun gives meanings) (Holds : World P C → Type 0)
      (kept : (call : Call P C) (answer : Result (Out (Reply P C)) Refusal) (world next : World P C)
      → StepsTo gives meanings world call answer next → Holds world → Holds next)
      (so : (world : World P C) (calls : List (Call P C)) (answers : List (Result (Out (Reply P C)) Refusal))
      (last : World P C) (run : Run gives meanings world calls answers last) → Holds world
      → IsSo world calls answers last run) where
    pub from_each_call : (calls : List (Call P C)) (answers : List (Result (Out (Reply P C)) Refusal))
        (world last : World P C) (run : Run gives meanings world calls answers last) → Holds world
        → FromEachCall gives meanings IsSo world calls answers last run
    from_each_call [] answers world last run h = tt
    from_each_call (call ∷ calls) [] world last run h = tt
    from_each_call (call ∷ calls) (answer ∷ answers) world last run h = (
      so world (call ∷ calls) (answer ∷ answers) last run h,
      from_each_call calls answers run.0 last run.2 (kept call answer world run.0 run.1 h),
    )
