-- A run goes on by one call.
use Rattle.std.proofs.Common.{refl, sym, subst, List, [], ◌∷◌, ◌++◌, append_assoc}
use Rattle.std.proofs.lemmas.List.{append-nil}
use Rattle.std.specs.Prelude.{Result, Ok, Err}
use Rattle.sentry_base.specs.declared.protocol.refusal.Refusal.{Refusal}
use Rattle.sentry_state.specs.declared.state.Out.{Out}
use Rattle.sentry_state.specs.declared.state.State.{State}
use Rattle.sentry_calls.specs.declared.call.Call.{Call}
use Rattle.sentry_calls.specs.declared.call.Reply.{Reply}
use Rattle.sentry_base.specs.Callbacks.{Partial}
use Rattle.sentry_options.specs.Meanings.{Meanings}
use Rattle.sentry_state.specs.Worlds.{World, Stands}
use Rattle.sentry_state.specs.Outcomes.{DoesWith}
use Rattle.sentry_calls.specs.Runs.{StepsTo, Run}
use Rattle.sentry_calls.specs.Steps.{step, needs}

module _ {P C : Type 0} (gives : P → Partial) (meanings : C → Meanings) where
  -- what a call did is a step that the definition allows, to a world that the engine stands for
  pub may_from_does : (old new : State P C) (call : Call P C) (answer : Result (Out (Reply P C)) Refusal)
      → DoesWith (needs call) old new answer (step gives meanings call) → (world : World P C) → Stands old world
      → (next : World P C) × StepsTo gives meanings world call answer next × Stands new next
  may_from_does old new call (Ok out) d world s = ((step gives meanings call world).after, ((d world s).0, refl), (d world s).1)
  may_from_does old new call (Err refusal) d world s = (world, (d.1 world s, refl), subst (λ e. Stands e world) (sym d.0) s)

  -- the engine stands for a world from which any run of the calls that are left completes the whole run
  pub record Reaches (first : World P C) (calls : List (Call P C)) (engine : State P C) (answers : List (Result (Out (Reply P C)) Refusal)) (left : List (Call P C)) : Type 0 where
    pub now : World P C
    pub stands : Stands engine now
    pub goes_on : (more : List (Result (Out (Reply P C)) Refusal)) (last : World P C) → Run gives meanings now left more last → Run gives meanings first calls (answers ++ more) last

  pub reaches_more : (first : World P C) (calls : List (Call P C)) (old new : State P C) (answers : List (Result (Out (Reply P C)) Refusal)) (call : Call P C) (left : List (Call P C)) (answer : Result (Out (Reply P C)) Refusal)
      → Reaches first calls old answers (call ∷ left) → DoesWith (needs call) old new answer (step gives meanings call) → Reaches first calls new (answers ++ answer ∷ []) left
  reaches_more first calls old new answers call left answer r d =
      let m = may_from_does old new call answer d r.now r.stands in
      record {
        now = m.0;
        stands = m.2;
        goes_on = λ more last run. subst (λ all. Run gives meanings first calls all last) (sym (append_assoc answers (answer ∷ []) more)) (r.goes_on (answer ∷ more) last (m.0, m.1, run));
      }

  pub reaches_end : (first : World P C) (calls : List (Call P C)) (engine : State P C) (answers : List (Result (Out (Reply P C)) Refusal)) → Reaches first calls engine answers [] → (last : World P C) × Stands engine last × Run gives meanings first calls answers last
  reaches_end first calls engine answers r = (r.now, r.stands, subst (λ all. Run gives meanings first calls all r.now) (append-nil answers) (r.goes_on [] r.now refl))
