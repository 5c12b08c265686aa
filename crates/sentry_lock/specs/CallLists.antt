-- Lists of calls that are made in one hold of the lock.
use Rattle.std.specs.Prelude.{◌≡◌, ◌⊎◌, List, [], ◌∷◌, Ok}
use Rattle.sentry_base.specs.Callbacks.{Partial}
use Rattle.sentry_base.specs.declared.protocol.refusal.Refusal.{Refusal}
use Rattle.sentry_options.specs.Meanings.{Meanings}
use Rattle.sentry_state.specs.declared.state.Out.{Out}
use Rattle.sentry_state.specs.declared.state.State.{State}
use Rattle.sentry_state.specs.Outcomes.{DoesWith}
use Rattle.sentry_calls.specs.declared.call.Call.{Call}
use Rattle.sentry_calls.specs.declared.call.Reply.{Reply}
use Rattle.sentry_calls.specs.Steps.{needs, step}
use Rattle.sentry_lock.specs.declared.locked.Core.{Core}
use Rattle.sentry_lock.specs.Answers.{MakesNot}
use Rattle.sentry_lock.specs.Locked.{DrainsFor, ForgetsDropped}
use Rattle.sentry_lock.specs.ValueCalls.{can_hand_out}
use Rattle.sentry_lock.specs.Words.{Drainers}

module _ {P C : Type 0} (T : Type 0) (gives : P → Partial) (meanings : C → Meanings) where
  -- the engine made the call, after all labels were drained, or none
  abbrev pub MakesCall : Core P C T → Core P C T → Call P C → Type 0
  MakesCall old new call =
      (out : Out (Reply P C)) × (between : State P C) × (drained : Drainers)
      × DrainsFor (can_hand_out call) old.tag old.engine between old.drainers drained
      × DoesWith (needs call) between new.engine (Ok out) (step gives meanings call)
      × ForgetsDropped call between new.engine drained new.drainers

  -- it made each call of the list, one after the other
  abbrev pub MakesEach : Core P C T → Core P C T → List (Call P C) → Type 0
  MakesEach old new [] = new ≡ old
  MakesEach old new (call ∷ calls) =
      (next : Core P C T) × MakesCall old next call × MakesEach next new calls

  -- it made the calls of the list that stand before one, and refused that
  abbrev pub RefusesOne : Core P C T → List (Call P C) → Refusal → Type 0
  RefusesOne core [] refusal = ⊥
  RefusesOne core (call ∷ calls) refusal =
      MakesNot core (can_hand_out call) (needs call) refusal (step gives meanings call)
      ⊎ ((next : Core P C T) × MakesCall core next call × RefusesOne next calls refusal)

  -- a core that the lock held made each call of the list
  abbrev pub LockMakesEach : List (Call P C) → Type 0
  LockMakesEach calls = (old : Core P C T) × (new : Core P C T) × MakesEach old new calls

  -- a core that the lock held made those before one, and refused that
  abbrev pub LockRefusesOne : List (Call P C) → Refusal → Type 0
  LockRefusesOne calls refusal = (core : Core P C T) × RefusesOne core calls refusal
