-- Limits that are moved one after another.
use Rattle.std.proofs.Common.{◌≡◌, ◌≢◌, ℕ, ◌+◌, ◌<◌, ◌≤◌, ltb, max, true, false, None, List, length, get_or, set, replicate, refl, sym, ap, subst, ◌∙◌, arith, get_or-set_same, get_or-set_other}
use mathlib.Core.Logic.{dite}
use native.Mathlib.Decide.{ℕ_discrete}
use Rattle.std.proofs.lemmas.Bool.Decides.{nat_tests}
use Rattle.std.specs.Prelude.{if◌then◌else◌}
use Rattle.sentry_base.specs.declared.protocol.losses.Category.{Category}
use Rattle.sentry_base.specs.declared.protocol.losses.Category.TheVariants.{Error, Transaction, Span, Session, Attachment, LogItem, Metric}
use Rattle.sentry_base.specs.Losses.{category_index}
use Rattle.sentry_transport.specs.QueueSteps.{AreLimited}

-- the first n limits are moved
abbrev pub AreMoved : ℕ → ℕ → List ℕ → List ℕ → Type 0
AreMoved n until old new = (k : ℕ) → get_or new k 0 ≡ (if ltb k n then max (get_or old k 0) until else get_or old k 0)

not_yet : (n : ℕ) → ltb n n ≡ false
not_yet n = grind (arith, nat_tests)

last_one : (n : ℕ) → ltb n (n + 1) ≡ true
last_one n = grind (arith, nat_tests)

another : (k n : ℕ) → k ≢ n → ltb k n ≡ ltb k (n + 1)
another k n apart = grind (arith, nat_tests)

before : (k n : ℕ) → k < n → ltb k n ≡ true
before k n less = grind (arith, nat_tests)

pub none_below : (k : ℕ) → ltb k 0 ≡ false
none_below k = grind (arith, nat_tests)

pub moved_none : (until : ℕ) (old : List ℕ) → AreMoved 0 until old old
moved_none until old k = sym (ap (λ b. if b then max (get_or old k 0) until else get_or old k 0) (none_below k))

pub moved_more : (n until : ℕ) (old new : List ℕ) → n < length new → AreMoved n until old new
    → AreMoved (n + 1) until old (set new n (max (get_or new n 0) until))
moved_more n until old new inside moved k =
    let moved_to : ℕ = max (get_or new n 0) until in
    dite (ℕ_discrete k n)
    (λ same. subst (λ j. get_or (set new n moved_to) j 0 ≡ (if ltb j (n + 1) then max (get_or old j 0) until else get_or old j 0)) (sym same)
    (get_or-set_same new n moved_to 0 inside
    ∙ ap (λ m. max m until) (moved n ∙ ap (λ b. if b then max (get_or old n 0) until else get_or old n 0) (not_yet n))
    ∙ sym (ap (λ b. if b then max (get_or old n 0) until else get_or old n 0) (last_one n))))
    (λ apart. get_or-set_other new n k moved_to 0 apart ∙ moved k
    ∙ ap (λ b. if b then max (get_or old k 0) until else get_or old k 0) (another k n apart))

category_below : (category : Category) → category_index category < 7
category_below Error = omega arith
category_below Transaction = omega arith
category_below Span = omega arith
category_below Session = omega arith
category_below Attachment = omega arith
category_below LogItem = omega arith
category_below Metric = omega arith

abbrev zeros : List ℕ
zeros = replicate 7 0

-- no category is limited
pub none_limited : (category : Category) → get_or zeros (category_index category) 0 ≡ 0
none_limited Error = refl
none_limited Transaction = refl
none_limited Span = refl
none_limited Session = refl
none_limited Attachment = refl
none_limited LogItem = refl
none_limited Metric = refl

pub moved_all : (n until : ℕ) (old new : List ℕ) → 7 ≤ n → AreMoved n until old new → AreLimited None until old new
moved_all n until old new all moved category =
    let k : ℕ = category_index category in
    let below = category_below category in
    moved k ∙ ap (λ b. if b then max (get_or old k 0) until else get_or old k 0) (before k n (omega arith))
