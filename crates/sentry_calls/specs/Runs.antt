-- A list of calls.
use Rattle.std.specs.Prelude.{◌≡◌, Result, Ok, Err, List, [], ◌∷◌}
use Rattle.sentry_base.specs.declared.protocol.refusal.Refusal.{Refusal}
use Rattle.sentry_base.specs.Callbacks.{Partial}
use Rattle.sentry_options.specs.Meanings.{Meanings}
use Rattle.sentry_state.specs.declared.state.Out.{Out}
use Rattle.sentry_calls.specs.declared.call.Call.{Call}
use Rattle.sentry_calls.specs.declared.call.Reply.{Reply}
use Rattle.sentry_calls.specs.Steps.{step, needs}
use Rattle.sentry_state.specs.Worlds.{World}
use Rattle.sentry_state.specs.Outcomes.{IsAnswer}

module _ {P C : Type 0} (gives : P → Partial) (meanings : C → Meanings) where
  -- the call may be answered so, and lead on to the next world, which a refusal leaves as it was
  abbrev pub StepsTo : World P C → Call P C → Result (Out (Reply P C)) Refusal → World P C → Type 0
  StepsTo world call (Ok out) next =
      IsAnswer (step gives meanings call world).answer (Ok out) (needs call)
      × (next ≡ (step gives meanings call world).after)
  StepsTo world call (Err refusal) next =
      IsAnswer (step gives meanings call world).answer (Err refusal) (needs call) × (next ≡ world)

  -- the answers are those of the definition, one call after another, up to the last world
  abbrev pub Run : World P C → List (Call P C) → List (Result (Out (Reply P C)) Refusal) → World P C → Type 0
  Run world [] [] last = last ≡ world
  Run world (call ∷ calls) (answer ∷ answers) last =
      (next : World P C) × StepsTo world call answer next × Run next calls answers last
  Run world [] (answer ∷ answers) last = ⊥
  Run world (call ∷ calls) [] last = ⊥
