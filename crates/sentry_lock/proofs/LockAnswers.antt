-- What was answered by what the lock held.
use Rattle.std.proofs.Common.{◌≡◌, ◌∙◌, ap, refl, subst, sym, inl, inr}
use Rattle.std.specs.Prelude.{◌⊎◌, Bool, true, false, Option, Result, Ok, Err, IfOk, IfErr}
use Rattle.sentry_base.specs.declared.protocol.keys.ClientKey.{ClientKey}
use Rattle.sentry_base.specs.declared.protocol.keys.Label.{Label}
use Rattle.sentry_base.specs.declared.protocol.losses.Losses.{Losses}
use Rattle.sentry_base.specs.declared.protocol.refusal.Refusal.{Refusal}
use Rattle.sentry_base.specs.declared.protocol.refusal.Refusal.TheVariants.{OutOfMemory}
use Rattle.sentry_state.specs.declared.state.Out.{Out}
use Rattle.sentry_state.specs.declared.state.State.{State}
use Rattle.sentry_state.specs.Outcomes.{Outcome, DoesWith, Need}
use Rattle.sentry_state.specs.Worlds.{World}
use Rattle.sentry_lock.specs.Answers.{RepliesWith, AnswersWith, RefusesWith, AddsNot, DrainsAndAnswers, DrainsLabel, EndsLabel, IsForeign, LockAddsNot, LockAnswers, LockDrainsAndAnswers, LockDrainsLabel, LockEndsLabel, LockGivesLabel, LockIsForeign, LockMakes, LockRefuses, MakesNot}
use Rattle.sentry_lock.specs.declared.locked.Core.{Core}
use Rattle.sentry_lock.specs.Locked.{DrainsAndDoes, DrainsFor, EndsAndAbsorbs, FindsNoWords, IsHeld}
use Rattle.sentry_lock.specs.Words.{Drainers, HasOpenWords}

module _ {P C T A : Type 0} (held : Core P C T) where
  -- by a method of the core
  pub lock_answers : (need : Need) (new : State P C) (outcome : World P C → Outcome P C A) (r : Result A Refusal)
      → IfOk r (λ reply. RepliesWith need held.engine new reply outcome)
      → IfOk r (λ reply. (core : Core P C T) × AnswersWith need core reply outcome)
  lock_answers need new outcome (Ok reply) did = (held, (new, did))
  lock_answers need new outcome (Err refusal) did = did

  pub lock_refuses : (need : Need) (new : State P C) (outcome : World P C → Outcome P C A) (r : Result A Refusal)
      → IfOk r (λ reply. RepliesWith need held.engine new reply outcome)
      → IfErr r (λ refusal. DoesWith need held.engine new (Err refusal) outcome)
      → IfErr r (λ refusal. (core : Core P C T) × RefusesWith need core refusal outcome)
  lock_refuses need new outcome (Ok reply) done did = did
  lock_refuses need new outcome (Err refusal) done did = (held, (refl, did.1))

  -- by a call of the engine that leaves it
  pub lock_reads : (need : Need) (read : State P C) → read ≡ held.engine → (outcome : World P C → Outcome P C A)
      (r : Result (Out A) Refusal) (answer : Result A Refusal) → IfOk r (λ out. answer ≡ Ok out.reply)
      → IfErr r (λ refusal. answer ≡ Err refusal) → DoesWith need read read r outcome
      → IfOk answer (λ reply. (core : Core P C T) × AnswersWith need core reply outcome)
  lock_reads need read same outcome (Ok out) answer ok err did =
      subst (λ (a : Result A Refusal). IfOk a (λ reply. (core : Core P C T) × AnswersWith need core reply outcome)) (sym ok)
      (held, (held.engine, (out.sent, subst (λ (e : State P C). DoesWith need e e (Ok out) outcome) same did)))
  lock_reads need read same outcome (Err refusal) answer ok err did =
      subst (λ (a : Result A Refusal). IfOk a (λ reply. (core : Core P C T) × AnswersWith need core reply outcome)) (sym err) tt

  pub lock_read_refused : (need : Need) (read : State P C) → read ≡ held.engine
      → (outcome : World P C → Outcome P C A) (r : Result (Out A) Refusal) (answer : Result A Refusal)
      → IfOk r (λ out. answer ≡ Ok out.reply) → IfErr r (λ refusal. answer ≡ Err refusal)
      → DoesWith need read read r outcome
      → IfErr answer (λ refusal. (core : Core P C T) × RefusesWith need core refusal outcome)
  lock_read_refused need read same outcome (Ok out) answer ok err did =
      subst (λ (a : Result A Refusal). IfErr a (λ refusal. (core : Core P C T) × RefusesWith need core refusal outcome))
      (sym ok) tt
  lock_read_refused need read same outcome (Err refusal) answer ok err did =
      subst (λ (a : Result A Refusal). IfErr a (λ refusal. (core : Core P C T) × RefusesWith need core refusal outcome))
      (sym err) (held, subst (λ (e : State P C). DoesWith need e e (Err refusal) outcome) same did)

  pub lock_did : (need : Need) (new : State P C) (outcome : World P C → Outcome P C A) (out : Out A)
      → DoesWith need held.engine new (Ok out) outcome → (core : Core P C T) × AnswersWith need core out.reply outcome
  lock_did need new outcome out did = (held, (new, (out.sent, did)))

  -- by a call that can hand out envelopes
  pub lock_drains : (new : State P C) (drained : Drainers) (outcome : World P C → Outcome P C A) (out : Out A) (reply : A)
      → reply ≡ out.reply → DrainsAndDoes held.tag held.engine new held.drainers drained (Ok out) outcome
      → LockDrainsAndAnswers P C T reply outcome
  lock_drains new drained outcome out reply same did = (
    held,
    (
      new,
      drained,
      out.sent,
      subst (λ (r : A).
          DrainsAndDoes held.tag held.engine new held.drainers drained (Ok (record { reply = r; sent = out.sent })) outcome)
          (sym same) did,
    ),
  )

  -- by a call as a value
  pub lock_makes : (drains : Bool) (need : Need) (between new : State P C) (drained : Drainers)
      (outcome : World P C → Outcome P C A) (out : Out A)
      → DrainsFor drains held.tag held.engine between held.drainers drained
      → DoesWith need between new (Ok out) outcome → LockMakes T drains need out.reply outcome
  lock_makes drains need between new drained outcome out first did =
      (held, between, new, drained, first, (out.sent, did))

  pub makes_not : (drains : Bool) (need : Need) (between : State P C) (drained : Drainers)
      (outcome : World P C → Outcome P C A) (refusal : Refusal)
      → DrainsFor drains held.tag held.engine between held.drainers drained
      → (refusal ≡ OutOfMemory) ⊎ DoesWith need between between (Err refusal) outcome
      → MakesNot held drains need refusal outcome
  makes_not drains need between drained outcome refusal first (inl out) = inl out
  makes_not drains need between drained outcome refusal first (inr did) = inr (between, drained, first, did)

  -- the same where the core is the one that the lock held when the call began
  module _ (core : Core P C T) (is : held ≡ core) where
    pub answers : (need : Need) (new : State P C) (outcome : World P C → Outcome P C A) (r : Result A Refusal)
        → IfOk r (λ reply. RepliesWith need held.engine new reply outcome)
        → IfOk r (λ reply. AnswersWith need core reply outcome)
    answers need new outcome (Ok reply) did =
        (new, subst (λ (c : Core P C T). RepliesWith need c.engine new reply outcome) is did)
    answers need new outcome (Err refusal) did = did

    pub refuses : (need : Need) (new : State P C) (outcome : World P C → Outcome P C A) (r : Result A Refusal)
        → IfOk r (λ reply. RepliesWith need held.engine new reply outcome)
        → IfErr r (λ refusal. DoesWith need held.engine new (Err refusal) outcome)
        → IfErr r (λ refusal. RefusesWith need core refusal outcome)
    refuses need new outcome (Ok reply) done did = did
    refuses need new outcome (Err refusal) done did =
        subst (λ (c : Core P C T). RefusesWith need c refusal outcome) is (refl, did.1)

    pub reads : (need : Need) (read : State P C) → read ≡ held.engine → (outcome : World P C → Outcome P C A)
        (r : Result (Out A) Refusal) (answer : Result A Refusal) → IfOk r (λ out. answer ≡ Ok out.reply)
        → IfErr r (λ refusal. answer ≡ Err refusal) → DoesWith need read read r outcome
        → IfOk answer (λ reply. AnswersWith need core reply outcome)
    reads need read same outcome (Ok out) answer ok err did =
        subst (λ (a : Result A Refusal). IfOk a (λ reply. AnswersWith need core reply outcome)) (sym ok)
        (subst (λ (c : Core P C T). AnswersWith need c out.reply outcome) is
        (held.engine, (out.sent, subst (λ (e : State P C). DoesWith need e e (Ok out) outcome) same did)))
    reads need read same outcome (Err refusal) answer ok err did =
        subst (λ (a : Result A Refusal). IfOk a (λ reply. AnswersWith need core reply outcome)) (sym err) tt

    pub read_refused : (need : Need) (read : State P C) → read ≡ held.engine
        → (outcome : World P C → Outcome P C A) (r : Result (Out A) Refusal) (answer : Result A Refusal)
        → IfOk r (λ out. answer ≡ Ok out.reply) → IfErr r (λ refusal. answer ≡ Err refusal)
        → DoesWith need read read r outcome → IfErr answer (λ refusal. RefusesWith need core refusal outcome)
    read_refused need read same outcome (Ok out) answer ok err did =
        subst (λ (a : Result A Refusal). IfErr a (λ refusal. RefusesWith need core refusal outcome)) (sym ok) tt
    read_refused need read same outcome (Err refusal) answer ok err did =
        subst (λ (a : Result A Refusal). IfErr a (λ refusal. RefusesWith need core refusal outcome)) (sym err)
        (subst (λ (c : Core P C T). RefusesWith need c refusal outcome) is
        (subst (λ (e : State P C). DoesWith need e e (Err refusal) outcome) same did))

    pub drains : (new : State P C) (drained : Drainers) (outcome : World P C → Outcome P C A) (out : Out A) (reply : A)
        → reply ≡ out.reply → DrainsAndDoes held.tag held.engine new held.drainers drained (Ok out) outcome
        → DrainsAndAnswers core reply outcome
    drains new drained outcome out reply same did =
        subst (λ (c : Core P C T). DrainsAndAnswers c reply outcome) is (
          new,
          drained,
          out.sent,
          subst (λ (r : A).
              DrainsAndDoes held.tag held.engine new held.drainers drained (Ok (record { reply = r; sent = out.sent })) outcome)
              (sym same) did,
        )

-- a call of two parts, of which the second is refused or not
module _ {P C T B : Type 0} (outcome : World P C → Outcome P C (Result B Refusal)) where
  pub if_answered : (r : Result B Refusal) → LockAnswers P C T r outcome
      → IfOk r (λ reply. LockAnswers P C T (Ok reply) outcome)
  if_answered (Ok reply) did = did
  if_answered (Err refusal) did = tt

  pub if_drained : (r : Result B Refusal) → LockDrainsAndAnswers P C T r outcome
      → IfOk r (λ reply. LockDrainsAndAnswers P C T (Ok reply) outcome)
  if_drained (Ok reply) did = did
  if_drained (Err refusal) did = tt

  -- either part was refused
  pub if_refused : (r : Result B Refusal) → LockAnswers P C T r outcome
      → IfErr r (λ refusal. LockRefuses P C T refusal outcome ⊎ LockAnswers P C T (Err refusal) outcome)
  if_refused (Ok reply) did = tt
  if_refused (Err refusal) did = inr did

-- by a call on the losses of a label
module _ {P C T : Type 0} (old new : Core P C T) (label : Label) where
  pub drains_label : (r : Result (Option Losses) Refusal) → IfOk r (λ drained. DrainsLabel old new label drained)
      → IfOk r (λ drained. LockDrainsLabel P C T label drained)
  drains_label (Ok drained) did = (old, new, did)
  drains_label (Err refusal) did = did

  pub label_ended : (r : Result Bool Refusal) → IfOk r (λ _. IsHeld true label old.engine)
      → IfOk r (λ ended. ended ≡ true → FindsNoWords label old.engine new.engine old.drainers new.drainers
      ⊎ EndsAndAbsorbs label old.engine new.engine old.drainers new.drainers)
      → IfOk r (λ ended. ended ≡ false → HasOpenWords old.drainers label.number × (new.engine ≡ old.engine)
      × (new.drainers ≡ old.drainers))
      → IfOk r (λ ended. EndsLabel old new label ended)
  label_ended (Ok true) named ended stay = (named, ended refl)
  label_ended (Ok false) named ended stay = let kept = stay refl in (named, kept.0, kept.1, kept.2)
  label_ended (Err refusal) named ended stay = named

  pub ends_label : (r : Result Bool Refusal) → IfOk r (λ ended. EndsLabel old new label ended)
      → IfOk r (λ ended. LockEndsLabel P C T label ended)
  ends_label (Ok ended) did = (old, new, did)
  ends_label (Err refusal) did = did

  pub is_foreign : {A : Type 0} (r : Result A Refusal) → IfErr r (λ refusal. IsForeign old new label refusal)
      → IfErr r (λ refusal. LockIsForeign P C T label refusal)
  is_foreign (Ok reply) did = did
  is_foreign (Err refusal) did = (old, new, did)

-- by what refuses a client
pub adds_not : {P C T : Type 0} (held : Core P C T) (label : Label) (refusal : Refusal)
    (outcome : World P C → Outcome P C ClientKey) → (refusal ≡ OutOfMemory) ⊎ AddsNot held label refusal outcome
    → (refusal ≡ OutOfMemory) ⊎ LockAddsNot P C T label refusal outcome
adds_not held label refusal outcome (inl out) = inl out
adds_not held label refusal outcome (inr not) = inr (held, not)

-- the same of a client with what is the same
pub adds_neither : {P C T X : Type 0} (label : Label) (refusal : Refusal) (outcome : X → World P C → Outcome P C ClientKey)
    (one other : X) → one ≡ other → (refusal ≡ OutOfMemory) ⊎ LockAddsNot P C T label refusal (outcome one)
    → (refusal ≡ OutOfMemory) ⊎ LockAddsNot P C T label refusal (outcome other)
adds_neither {P} {C} {T} {X} label refusal outcome one other same not =
    subst (λ (x : X). (refusal ≡ OutOfMemory) ⊎ LockAddsNot P C T label refusal (outcome x)) same not

-- by what gives a label
pub gives_label : {P C T X E : Type 0} (of : X → Label) (label : Label) (core : Core P C T) → label.tag ≡ core.tag
    → label.number ≡ core.next_label → (r : Result X E) → IfOk r (λ x. of x ≡ label)
    → IfOk r (λ x. LockGivesLabel P C T (of x))
gives_label of label core tag number (Ok x) is =
    (core, (ap (λ (l : Label). l.tag) is ∙ tag, ap (λ (l : Label). l.number) is ∙ number))
gives_label of label core tag number (Err e) is = is

-- what holds from one core to another holds from the core that is the first
pub from_core : {P C T : Type 0} (Q : Core P C T → Type 0) (held core : Core P C T) → held ≡ core → Q held → Q core
from_core {P} {C} {T} Q held core is holds = subst Q is holds
