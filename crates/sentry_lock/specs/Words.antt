-- The words of labels, as the lock keeps them: by the number of their label, a drainer with all that it took, or none
-- where the words were ended.
use Rattle.std.specs.Prelude.{◌≡◌, ◌<◌, ℕ, List, Option, Some, None, slice_index}
use Rattle.sentry_plain.specs.Tables.{value_at, put, replace_at}
use Rattle.sentry_base.specs.Losses.{plus}
use Rattle.sentry_base.specs.declared.protocol.losses.TheConstants.{LOSS_QUANTITIES}
use Rattle.sentry_client_reports.specs.LossCounts.{CountedPart}
use Rattle.sentry_client_reports.specs.LossWords.{IsClosed, IsDrain, the_flags, view_of}

abbrev pub Drainers : Type 0
Drainers = List (ℕ × Option CountedPart)

-- nothing is lost
abbrev pub AreZero : List ℕ → Type 0
AreZero quantities = (i : ℕ) → i < LOSS_QUANTITIES → slice_index quantities i ≡ 0

-- each drainer stands under the number of its label, which has this tag
abbrev pub AreLabelled : ℕ → Drainers → Type 0
AreLabelled tag drainers =
    (n : ℕ) (drainer : CountedPart) → value_at drainers n ≡ Some (Some drainer)
    → drainer.part.label ≡ record { tag = tag; number = n }

-- no words are open under the number
abbrev pub HasNoOpenWords : Drainers → ℕ → Type 0
HasNoOpenWords drainers n = (drainer : CountedPart) → value_at drainers n ≡ Some (Some drainer) → ⊥

-- words are open under the number
pub record HasOpenWords (drainers : Drainers) (n : ℕ) : Type 0 where
  pub drainer : CountedPart
  pub found : value_at drainers n ≡ Some (Some drainer)

-- the drainer of this number took one drain, which gave these quantities and counts them
pub record DrainsOne (old new : Drainers) (n : ℕ) (quantities : List ℕ) : Type 0 where
  pub before : CountedPart
  pub after : CountedPart
  pub found : value_at old n ≡ Some (Some before)
  pub others : new ≡ replace_at old n (Some after)
  pub words : after.part.words ≡ before.part.words
  pub label : after.part.label ≡ before.part.label
  pub steps : IsDrain the_flags before.part.steps after.part.steps quantities
  pub taken : after.taken ≡ plus before.taken quantities

-- a place was made under this number, and the drainer put there
abbrev pub AddsDrainer : Drainers → Drainers → ℕ → CountedPart → Type 0
AddsDrainer old new n drainer = new ≡ replace_at (put old n None) n (Some drainer)

-- the words of this number were ended, with these quantities in their counters
pub record EndsWords (old new : Drainers) (n : ℕ) (quantities : List ℕ) : Type 0 where
  pub before : CountedPart
  pub found : value_at old n ≡ Some (Some before)
  pub others : new ≡ replace_at old n None
  pub closed : IsClosed (view_of before.part.steps before.part.share) quantities
