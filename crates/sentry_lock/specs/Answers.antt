-- What calls that take the lock answer, by the core that the lock held.
use Rattle.std.specs.Prelude.{◌≡◌, ◌⊎◌, ◌-◌, ◌^◌, Bool, true, false, List, Option, Ok, Err, MatchOption}
use Rattle.sentry_base.specs.declared.protocol.envelope.Envelope.{Envelope}
use Rattle.sentry_base.specs.declared.protocol.keys.ClientKey.{ClientKey}
use Rattle.sentry_base.specs.declared.protocol.keys.Label.{Label}
use Rattle.sentry_base.specs.declared.protocol.losses.Losses.{Losses}
use Rattle.sentry_base.specs.declared.protocol.refusal.Refusal.{Refusal}
use Rattle.sentry_base.specs.declared.protocol.refusal.Refusal.TheVariants.{ForeignLosses, Full, OutOfMemory}
use Rattle.sentry_engine.specs.declared.engine.facts.Held.{Held}
use Rattle.sentry_state.specs.declared.state.State.{State}
use Rattle.sentry_state.specs.Outcomes.{Outcome, DoesWith, Need, memory, nothing}
use Rattle.sentry_state.specs.Worlds.{World}
use Rattle.sentry_lock.specs.declared.locked.Core.{Core}
use Rattle.sentry_lock.specs.Locked.{DrainsAndAbsorbs, DrainsAndDoes, DrainsFor, EndsAndAbsorbs, FindsNoWords, HasNoNumber, IsCountOf, IsHeld}
use Rattle.sentry_lock.specs.Words.{Drainers, HasOpenWords}

module _ {P C : Type 0} where
  -- the call did what its definition says, and this is its reply
  abbrev pub RepliesWith : {A : Type 0} → Need → State P C → State P C → A → (World P C → Outcome P C A) → Type 0
  RepliesWith need old new reply outcome =
      (sent : List (ClientKey × Envelope))
      × DoesWith need old new (Ok (record { reply = reply; sent = sent })) outcome

module _ {P C T : Type 0} where
  -- the engine of the core gave this reply, as the call's definition says, and became what that says
  abbrev pub AnswersWith : {A : Type 0} → Need → Core P C T → A → (World P C → Outcome P C A) → Type 0
  AnswersWith need core reply outcome = (new : State P C) × RepliesWith need core.engine new reply outcome

  abbrev pub Answers : {A : Type 0} → Core P C T → A → (World P C → Outcome P C A) → Type 0
  Answers core reply outcome = AnswersWith memory core reply outcome

  -- the same of a call that takes no memory
  abbrev pub AnswersWithoutMemory : {A : Type 0} → Core P C T → A → (World P C → Outcome P C A) → Type 0
  AnswersWithoutMemory core reply outcome = AnswersWith nothing core reply outcome

  -- the same after all labels were drained
  abbrev pub DrainsAndAnswers : {A : Type 0} → Core P C T → A → (World P C → Outcome P C A) → Type 0
  DrainsAndAnswers core reply outcome =
      (new : State P C) × (drained : Drainers) × (sent : List (ClientKey × Envelope))
      × DrainsAndDoes core.tag core.engine new core.drainers drained (Ok (record { reply = reply; sent = sent }))
      outcome

  -- the engine of the core refused the call, as its definition says, or as out of memory in place of a reply
  abbrev pub RefusesWith : {A : Type 0} → Need → Core P C T → Refusal → (World P C → Outcome P C A) → Type 0
  RefusesWith need core refusal outcome = DoesWith need core.engine core.engine (Err refusal) outcome

  abbrev pub Refuses : {A : Type 0} → Core P C T → Refusal → (World P C → Outcome P C A) → Type 0
  Refuses core refusal outcome = RefusesWith memory core refusal outcome

  -- the same of a call that takes no memory
  abbrev pub RefusesWithoutMemory : {A : Type 0} → Core P C T → Refusal → (World P C → Outcome P C A) → Type 0
  RefusesWithoutMemory core refusal outcome = RefusesWith nothing core refusal outcome

  -- the engine of the core refused the call, after all labels were drained, or none; or memory ran out before it
  abbrev pub MakesNot : {A : Type 0} → Core P C T → Bool → Need → Refusal → (World P C → Outcome P C A) → Type 0
  MakesNot core drains need refusal outcome =
      (refusal ≡ OutOfMemory)
      ⊎ ((between : State P C) × (drained : Drainers)
      × DrainsFor drains core.tag core.engine between core.drainers drained
      × DoesWith need between between (Err refusal) outcome)

  -- the words of a label were drained once and its book absorbed what that gave; or none of them were open
  abbrev pub DrainsLabel : Core P C T → Core P C T → Label → Option Losses → Type 0
  DrainsLabel old new label drained =
      IsHeld true label old.engine
      × MatchOption drained (FindsNoWords label old.engine new.engine old.drainers new.drainers)
      (λ losses. DrainsAndAbsorbs label losses.quantities old.engine new.engine old.drainers new.drainers)

  -- the words of a label were ended and its book absorbed what stood in them, or none of them were open; or they stay
  -- open, and nothing changed
  abbrev pub EndsLabel : Core P C T → Core P C T → Label → Bool → Type 0
  EndsLabel old new label true =
      IsHeld true label old.engine
      × (FindsNoWords label old.engine new.engine old.drainers new.drainers
      ⊎ EndsAndAbsorbs label old.engine new.engine old.drainers new.drainers)
  EndsLabel old new label false =
      IsHeld true label old.engine × HasOpenWords old.drainers label.number × (new.engine ≡ old.engine)
      × (new.drainers ≡ old.drainers)

  -- no client that is held names the label, and nothing changed
  abbrev pub IsForeign : Core P C T → Core P C T → Label → Refusal → Type 0
  IsForeign old new label refusal =
      (refusal ≡ ForeignLosses) × IsHeld false label old.engine × (new.engine ≡ old.engine)
      × (new.drainers ≡ old.drainers)

  -- the label is the next one that the core gives
  abbrev pub IsNextLabel : Core P C T → Label → Type 0
  IsNextLabel core label = (label.tag ≡ core.tag) × (label.number ≡ core.next_label)

  -- the core has no label left
  abbrev pub HasNoLabel : Core P C T → Refusal → Type 0
  HasNoLabel core refusal = (refusal ≡ Full) × (core.next_label ≡ 2 ^ 64 - 1)

  -- no client was added: the label has another tag, or a client that is held names it; or no number is left; or the
  -- engine refused it
  abbrev pub AddsNot : Core P C T → Label → Refusal → (World P C → Outcome P C ClientKey) → Type 0
  AddsNot core label refusal outcome =
      ((refusal ≡ ForeignLosses) × ((label.tag ≡ core.tag → ⊥) ⊎ IsHeld true label core.engine))
      ⊎ ((refusal ≡ Full) × HasNoNumber core.engine) ⊎ Refuses core refusal outcome

-- a core that the lock held gave a reply, after all labels were drained, or none
module _ {P C : Type 0} (T : Type 0) where
  abbrev pub LockMakes : {A : Type 0} → Bool → Need → A → (World P C → Outcome P C A) → Type 0
  LockMakes drains need reply outcome =
      (core : Core P C T) × (between : State P C) × (new : State P C) × (drained : Drainers)
      × DrainsFor drains core.tag core.engine between core.drainers drained
      × RepliesWith need between new reply outcome

  -- a core that the lock held refused the call, after all labels were drained, or none; or memory ran out before it
  abbrev pub LockMakesNot : {A : Type 0} → Bool → Need → Refusal → (World P C → Outcome P C A) → Type 0
  LockMakesNot drains need refusal outcome = (core : Core P C T) × MakesNot core drains need refusal outcome

-- What a call answers by a core that the lock held at some moment of it.
module _ (P C T : Type 0) where
  abbrev pub LockAnswers : {A : Type 0} → A → (World P C → Outcome P C A) → Type 0
  LockAnswers reply outcome = (core : Core P C T) × Answers core reply outcome

  abbrev pub LockAnswersWithoutMemory : {A : Type 0} → A → (World P C → Outcome P C A) → Type 0
  LockAnswersWithoutMemory reply outcome = (core : Core P C T) × AnswersWithoutMemory core reply outcome

  abbrev pub LockDrainsAndAnswers : {A : Type 0} → A → (World P C → Outcome P C A) → Type 0
  LockDrainsAndAnswers reply outcome = (core : Core P C T) × DrainsAndAnswers core reply outcome

  abbrev pub LockRefuses : {A : Type 0} → Refusal → (World P C → Outcome P C A) → Type 0
  LockRefuses refusal outcome = (core : Core P C T) × Refuses core refusal outcome

  abbrev pub LockRefusesWithoutMemory : {A : Type 0} → Refusal → (World P C → Outcome P C A) → Type 0
  LockRefusesWithoutMemory refusal outcome = (core : Core P C T) × RefusesWithoutMemory core refusal outcome

  abbrev pub LockDrainsLabel : Label → Option Losses → Type 0
  LockDrainsLabel label drained = (old : Core P C T) × (new : Core P C T) × DrainsLabel old new label drained

  abbrev pub LockEndsLabel : Label → Bool → Type 0
  LockEndsLabel label ended = (old : Core P C T) × (new : Core P C T) × EndsLabel old new label ended

  abbrev pub LockIsForeign : Label → Refusal → Type 0
  LockIsForeign label refusal = (old : Core P C T) × (new : Core P C T) × IsForeign old new label refusal

  abbrev pub LockAddsNot : Label → Refusal → (World P C → Outcome P C ClientKey) → Type 0
  LockAddsNot label refusal outcome = (core : Core P C T) × AddsNot core label refusal outcome

  abbrev pub LockGivesLabel : Label → Type 0
  LockGivesLabel label = (core : Core P C T) × IsNextLabel core label

  abbrev pub LockHasNoLabel : Refusal → Type 0
  LockHasNoLabel refusal = (core : Core P C T) × HasNoLabel core refusal

  abbrev pub LockHolds : Held → Type 0
  LockHolds held = (core : Core P C T) × IsCountOf core.engine held
