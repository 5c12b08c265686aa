-- Books of losses balance.
use Rattle.std.proofs.Common.{◌≡◌, ◌<◌, ◌≤◌, ◌+◌, ◌/◌, ◌%◌, ◌^◌, refl, ap, ◌∙◌, sym, subst, ℕ, zero, suc, List, [], ◌∷◌, Bool, true, false, cond, length, get_or, arith}
use Rattle.std.proofs.lemmas.Bool.Decides.{nat_tests}
use Rattle.std.proofs.lemmas.List.Sums.{sum_by-cons, sum_by-append}
use Rattle.std.specs.Prelude.{◌==◌, slice_index, sum_by}
use Rattle.sentry_plain.proofs.NumberLemmas.{same_number}
use Rattle.sentry_base.specs.Losses.{category_at, reason_at, loss_index, loss_of}
use Rattle.sentry_base.proofs.ByIndex.{at_index, length_by_index}
use Rattle.sentry_base.specs.declared.protocol.client_report.ClientReportItem.{ClientReportItem}
use Rattle.sentry_client_reports.specs.LossBooks.{LossEntry, engine_losses, drained_losses, report_point, losses_since_report, pending_losses, report_item, report_items_at, report_items_from, report_items, report_of}
use Rattle.sentry_laws.specs.Losses.{told_by, reported, came_in, BooksBalance}

-- the place of the losses that an item tells

are_placed : ℕ → Bool
are_placed zero = true
are_placed (suc n) = cond (loss_index (category_at (n / 9)) (reason_at (n % 9)) == n) (are_placed n) false

placed-at : (b : Bool) (rest : Bool) → cond b rest false ≡ true → b ≡ true
placed-at true rest h = refl
placed-at false rest h = h

placed-rest : (b : Bool) (rest : Bool) → cond b rest false ≡ true → rest ≡ true
placed-rest true rest h = h
placed-rest false rest h = absurd cc

all_placed : are_placed 63 ≡ true
unfolding are_placed
all_placed = refl

other_place : (j n : ℕ) → (j == n) ≡ false → j < suc n → j < n
other_place j n e h = grind (arith, nat_tests)

index_of_place : ℕ → ℕ
index_of_place j = loss_index (category_at (j / 9)) (reason_at (j % 9))

placed-by : (b : Bool) (n j : ℕ) → (j == n) ≡ b → j < suc n → index_of_place n ≡ n → (j < n → index_of_place j ≡ j)
    → index_of_place j ≡ j
placed-by true n j e h here rest = let same = same_number j n e in subst (λ k. index_of_place k ≡ k) (sym same) here
placed-by false n j e h here rest = rest (other_place j n e h)

placed : (n j : ℕ) → are_placed n ≡ true → j < n → index_of_place j ≡ j
unfolding index_of_place are_placed
placed zero j all h = absurd (omega arith)
placed (suc n) j all h = placed-by (j == n) n j refl h (same_number _ n (placed-at _ (are_placed n) all))
    (λ k. placed n j (placed-rest _ (are_placed n) all) k)

place_of : (j : ℕ) → j < 63 → index_of_place j ≡ j
place_of j h = placed 63 j all_placed h

-- what the items tell at an index
abbrev told_at : ℕ → List ClientReportItem → ℕ
told_at i items = sum_by (λ (item : ClientReportItem). slice_index (loss_of item.category item.reason item.quantity) i)
    items

both_none : (b : Bool) (q none : ℕ) → q ≡ none → cond b q none ≡ none
both_none true q none h = h
both_none false q none h = refl

empty_item : (i j q : ℕ) → q ≡ 0 → told_at i [] ≡ cond (i == j) q 0
empty_item i j q none = sym (both_none (i == j) q 0 none)

one_item : (i j q : ℕ) → i < 63 → j < 63 → told_at i (report_item j q ∷ []) ≡ cond (i == j) q 0
unfolding index_of_place
one_item i j q h k =
    sum_by-cons (λ (item : ClientReportItem). slice_index (loss_of item.category item.reason item.quantity) i)
    (report_item j q) []
    ∙ (plus_none (slice_index (loss_of (category_at (j / 9)) (reason_at (j % 9)) q) i)
    ∙ (at_index (λ i. cond (i == loss_index (category_at (j / 9)) (reason_at (j % 9))) q 0) i h
    ∙ ap (λ (n : ℕ). cond (i == n) q 0) (place_of j k)))
  where
    plus_none : (n : ℕ) → n + 0 ≡ n
    plus_none n = omega arith

item_at-by : (b : Bool) (i j q : ℕ) → (q == 0) ≡ b → i < 63 → j < 63 → told_at i (cond b [] (report_item j q ∷ []))
    ≡ cond (i == j) q 0
item_at-by true i j q e h k = empty_item i j q (same_number q 0 e)
item_at-by false i j q e h k = one_item i j q h k

item_at : (i j q : ℕ) → i < 63 → j < 63 → told_at i (report_items_at j q) ≡ cond (i == j) q 0
item_at i j q h k = item_at-by (q == 0) i j q refl h k

-- the quantity at an index, of quantities from the first index on
abbrev quantity_at : ℕ → List ℕ → ℕ → ℕ
quantity_at j [] i = 0
quantity_at j (q ∷ qs) i = cond (i == j) q 0 + quantity_at (j + 1) qs i

told_from : (i j : ℕ) (qs : List ℕ) → i < 63 → j + length qs ≤ 63 → told_at i (report_items_from j qs)
    ≡ quantity_at j qs i
told_from i j [] h k = refl
told_from i j (q ∷ qs) h k =
    sum_by-append (λ (item : ClientReportItem). slice_index (loss_of item.category item.reason item.quantity) i)
    (report_items_at j q) (report_items_from (j + 1) qs)
    ∙ (ap (λ n. n + told_at i (report_items_from (j + 1) qs)) (item_at i j q h (omega arith))
    ∙ ap (λ n. cond (i == j) q 0 + n) (told_from i (j + 1) qs h (omega arith)))

apart_place : (i j : ℕ) → i < j → (i == j) ≡ false
apart_place i j h = grind (arith, nat_tests)

own_place : (j : ℕ) → (j + 0 == j) ≡ true
own_place j = grind (arith, nat_tests)

later_place : (j k : ℕ) → (j + suc k == j) ≡ false
later_place j k = grind (arith, nat_tests)

quantity_before : (i j : ℕ) (qs : List ℕ) → i < j → quantity_at j qs i ≡ 0
quantity_before i j [] h = refl
quantity_before i j (q ∷ qs) h =
    let rest = quantity_before i (j + 1) qs (omega arith) in
    ap (λ b. cond b q 0 + quantity_at (j + 1) qs i) (apart_place i j h) ∙ omega (arith, rest)

quantity_is : (j k : ℕ) (qs : List ℕ) → quantity_at j qs (j + k) ≡ get_or qs k 0
quantity_is j k [] = refl
quantity_is j zero (q ∷ qs) =
    let rest = quantity_before (j + 0) (j + 1) qs (omega arith) in
    ap (λ b. cond b q 0 + quantity_at (j + 1) qs (j + 0)) (own_place j) ∙ omega (arith, rest)
quantity_is j (suc k) (q ∷ qs) =
    let same : j + suc k ≡ (j + 1) + k = omega arith in
    let rest : quantity_at (j + 1) qs (j + suc k) ≡ get_or qs k 0 = ap (quantity_at (j + 1) qs) same
    ∙ quantity_is (j + 1) k qs in
    ap (λ b. cond b q 0 + quantity_at (j + 1) qs (j + suc k)) (later_place j k) ∙ omega (arith, rest)

small_rest : (n : ℕ) → n < 2 ^ 64 → n % 2 ^ 64 ≡ n
small_rest n h = omega arith

told_all : (items : List ClientReportItem) (i : ℕ) → i < 63 → told_at i items < 2 ^ 64
    → slice_index (told_by (report_of items)) i ≡ told_at i items
told_all [] i h small = at_index (λ i. 0) i h
told_all (item ∷ items) i h small = at_index (λ i. told_at i (item ∷ items) % 2 ^ 64) i h
    ∙ small_rest (told_at i (item ∷ items)) small

-- a report tells the quantities that it was made of
report_tells : (quantities : List ℕ) (i : ℕ) → i < 63 → length quantities ≡ 63 → slice_index quantities i < 2 ^ 64
    → slice_index (told_by (report_of (report_items quantities))) i ≡ slice_index quantities i
report_tells quantities i h long small =
    let zero_is : 0 + i ≡ i = omega arith in
    let is : told_at i (report_items quantities) ≡ slice_index quantities i =
    told_from i 0 quantities h (omega (arith, long))
    ∙ (ap (quantity_at 0 quantities) (sym zero_is) ∙ quantity_is 0 i quantities) in
    told_all (report_items quantities) i h (subst (λ n. n < 2 ^ 64) (sym is) small) ∙ is

-- the sum at an index since the last report
abbrev waiting_at : ℕ → List LossEntry → ℕ
waiting_at i history = sum_by (λ (losses : List ℕ). slice_index losses i) (losses_since_report history)

pending_at : (history : List LossEntry) (i : ℕ) → i < 63 → slice_index (pending_losses history)
    i ≡ waiting_at i history % 2 ^ 64
pending_at history i h = at_index (λ i. waiting_at i history % 2 ^ 64) i h

more_in : (r s c l : ℕ) → (r + s % 2 ^ 64) % 2 ^ 64 ≡ c % 2 ^ 64 → (r + (l + s) % 2 ^ 64) % 2 ^ 64 ≡ (c + l) % 2 ^ 64
more_in r s c l e = omega arith

point_in : (r s c : ℕ) → (r + s % 2 ^ 64) % 2 ^ 64 ≡ c % 2 ^ 64 → ((r + s % 2 ^ 64) + 0 % 2 ^ 64) % 2 ^ 64 ≡ c % 2 ^ 64
point_in r s c e = omega arith

small_pending : (n : ℕ) → n % 2 ^ 64 < 2 ^ 64
small_pending n = omega arith

arrived : (i : ℕ) (losses : List ℕ) (history : List LossEntry) (r c : ℕ) → (r + waiting_at i history % 2 ^ 64)
    % 2 ^ 64 ≡ c % 2 ^ 64
    → (r + sum_by (λ (l : List ℕ). slice_index l i) (losses ∷ losses_since_report history) % 2 ^ 64) % 2 ^ 64 ≡
    (c + slice_index losses i) % 2 ^ 64
arrived i losses history r c e =
    ap (λ n. (r + n % 2 ^ 64) % 2 ^ 64) (sum_by-cons (λ (l : List ℕ). slice_index l i) losses
    (losses_since_report history)) ∙ more_in r (waiting_at i history) c (slice_index losses i) e

balance : (history : List LossEntry) (i : ℕ) → i < 63 → (reported history i + waiting_at i history % 2 ^ 64)
    % 2 ^ 64 ≡ came_in history i % 2 ^ 64
balance [] i h = refl
balance (engine_losses losses ∷ history) i h = arrived i losses history (reported history i) (came_in history i)
    (balance history i h)
balance (drained_losses losses ∷ history) i h = arrived i losses history (reported history i) (came_in history i)
    (balance history i h)
balance (report_point ∷ history) i h =
    let p = pending_at history i h in
    let told : slice_index (told_by (report_of (report_items (pending_losses history))))
    i ≡ waiting_at i history % 2 ^ 64 =
    report_tells (pending_losses history) i h (length_by_index _)
    (subst (λ n. n < 2 ^ 64) (sym p) (small_pending (waiting_at i history))) ∙ p in
    ap (λ n. ((reported history i + n) + 0 % 2 ^ 64) % 2 ^ 64) told
    ∙ point_in (reported history i) (waiting_at i history) (came_in history i) (balance history i h)

pub books_balance : BooksBalance
books_balance history i h = ap (λ n. (reported history i + n) % 2 ^ 64) (pending_at history i h) ∙ balance history i h
