-- A list of calls goes on by one call.
use Rattle.std.proofs.Common.{◌≡◌, subst, List, ◌∷◌, inl, inr}
use Rattle.std.specs.Prelude.{Result, Ok, Err, OnOk, IfErr}
use Rattle.sentry_base.specs.Callbacks.{Partial}
use Rattle.sentry_base.specs.declared.protocol.refusal.Refusal.{Refusal}
use Rattle.sentry_options.specs.Meanings.{Meanings}
use Rattle.sentry_calls.specs.declared.call.Call.{Call}
use Rattle.sentry_calls.specs.Steps.{needs, step}
use Rattle.sentry_lock.specs.Answers.{MakesNot}
use Rattle.sentry_lock.specs.CallLists.{LockMakesEach, LockRefusesOne, MakesCall, MakesEach, RefusesOne}
use Rattle.sentry_lock.specs.ValueCalls.{can_hand_out}
use Rattle.sentry_lock.specs.declared.locked.Core.{Core}

module _ {P C : Type 0} (T : Type 0) (gives : P → Partial) (meanings : C → Meanings) (calls : List (Call P C))
    (start : Core P C T) where
  -- what is left leads to the whole
  pub record Leads (core : Core P C T) (left : List (Call P C)) : Type 0 where
    pub made : (new : Core P C T) → MakesEach T gives meanings core new left → MakesEach T gives meanings start new calls
    pub refused : (refusal : Refusal) → RefusesOne T gives meanings core left refusal
        → RefusesOne T gives meanings start calls refusal

  pub leads_on : (core next : Core P C T) (call : Call P C) (all left : List (Call P C)) → all ≡ call ∷ left
      → Leads core all → MakesCall T gives meanings core next call → Leads next left
  leads_on core next call all left is before one =
      let leads : Leads core (call ∷ left) = subst (Leads core) is before in
      record {
        made = λ new rest. leads.made new (next, one, rest);
        refused = λ refusal rest. leads.refused refusal (inr (next, one, rest));
      }

  pub leads_refused : (core : Core P C T) (call : Call P C) (all left : List (Call P C)) (refusal : Refusal)
      → all ≡ call ∷ left → Leads core all
      → MakesNot core (can_hand_out call) (needs call) refusal (step gives meanings call)
      → RefusesOne T gives meanings start calls refusal
  leads_refused core call all left refusal is before not =
      let leads : Leads core (call ∷ left) = subst (Leads core) is before in leads.refused refusal (inl not)

  -- by a method of the core
  pub lock_makes_each : {A E : Type 0} (new : Core P C T) (r : Result A E)
      → OnOk r (MakesEach T gives meanings start new calls) → OnOk r (LockMakesEach T gives meanings calls)
  lock_makes_each new (Ok a) did = (start, new, did)
  lock_makes_each new (Err e) did = did

  pub lock_refuses_one : {A : Type 0} (r : Result A Refusal)
      → IfErr r (λ refusal. RefusesOne T gives meanings start calls refusal)
      → IfErr r (λ refusal. LockRefusesOne T gives meanings calls refusal)
  lock_refuses_one (Ok a) did = did
  lock_refuses_one (Err refusal) did = (start, did)
