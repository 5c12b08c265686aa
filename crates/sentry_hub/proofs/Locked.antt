-- What was answered by a core that the lock held.
use Rattle.std.proofs.Common.{◌≡◌, subst, sym}
use Rattle.std.specs.Prelude.{Result, Ok, Err, IfOk, IfErr}
use Rattle.sentry_base.specs.declared.protocol.refusal.Refusal.{Refusal}
use Rattle.sentry_lock.specs.Answers.{AnswersWith, DrainsAndAnswers, LockDrainsAndAnswers, RefusesWith}
use Rattle.sentry_lock.specs.declared.locked.Core.{Core}
use Rattle.sentry_state.specs.Outcomes.{Outcome, Need}
use Rattle.sentry_state.specs.Worlds.{World}

module _ {P C T A : Type 0} (held : Core P C T) where
  pub locked_answers : (need : Need) (outcome : World P C → Outcome P C A) (r : Result A Refusal)
      → IfOk r (λ reply. AnswersWith need held reply outcome)
      → IfOk r (λ reply. (core : Core P C T) × AnswersWith need core reply outcome)
  locked_answers need outcome (Ok reply) did = (held, did)
  locked_answers need outcome (Err refusal) did = did

  pub locked_refuses : (need : Need) (outcome : World P C → Outcome P C A) (r : Result A Refusal)
      → IfErr r (λ refusal. RefusesWith need held refusal outcome)
      → IfErr r (λ refusal. (core : Core P C T) × RefusesWith need core refusal outcome)
  locked_refuses need outcome (Ok reply) did = did
  locked_refuses need outcome (Err refusal) did = (held, did)

  pub locked_drains : (outcome : World P C → Outcome P C A) (r : Result A Refusal)
      → IfOk r (λ reply. DrainsAndAnswers held reply outcome)
      → IfOk r (λ reply. LockDrainsAndAnswers P C T reply outcome)
  locked_drains outcome (Ok reply) did = (held, did)
  locked_drains outcome (Err refusal) did = did

-- the same of a call on what is equal
pub refuses_same : {P C T A K : Type 0} (held : Core P C T) (outcome : K → World P C → Outcome P C A) (one other : K)
    → one ≡ other → (need : Need) (r : Result A Refusal)
    → IfErr r (λ refusal. RefusesWith need held refusal (outcome one))
    → IfErr r (λ refusal. (core : Core P C T) × RefusesWith need core refusal (outcome other))
refuses_same {P} {C} {T} {A} {K} held outcome one other same need r did =
    subst (λ (key : K). IfErr r (λ refusal. (core : Core P C T) × RefusesWith need core refusal (outcome key))) same
    (locked_refuses held need (outcome one) r did)

-- what holds of a value holds of the same as an answer
pub same_as : {X E : Type 0} (Q : X → Type 0) (x : X) → Q x → (r : Result X E) → IfOk r (λ same. same ≡ x) → IfOk r Q
same_as Q x holds (Ok same) is = subst Q (sym is) holds
same_as Q x holds (Err e) is = is
