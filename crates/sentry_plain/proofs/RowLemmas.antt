-- The entries of a table: the rows that have a value.
use Rattle.std.proofs.Common.{◌≡◌, ℕ, zero, suc, ◌+◌, ◌<◌, ◌≤◌, length, get_or, set, take, drop, insert, cond, is_eq, Some, None, List, [], ◌∷◌, ◌++◌, refl, sym, ap, ◌∙◌, subst, Ordering, Less, Equal, Greater, arith, IfOk, IfErr, Result, Ok, Err}
use Rattle.std.proofs.lemmas.Cmp.{nat_cmp_total, tied_itself, ranked}
use Rattle.std.specs.Cmp.{nat_cmp_is}
use Rattle.std.specs.List.{AllByRecursion}
use Rattle.std.specs.List.Sorted.{IsStrictlySortedBy, IsBinarySearchResult, IsSearchInRange, IsNonDecreasingBy}
use Rattle.std.specs.Map.{keys_of}
use Rattle.std.specs.Ordering.{match_ordering, nat_cmp, ordering_index, ordering_reverse}
use Rattle.sentry_plain.proofs.SortedLemmas.{rises_by}
use Rattle.sentry_plain.specs.Rows.{number_of, value_of, with_row, live_rows, numbers, IsRowOf, IsRowGap}
use Rattle.sentry_plain.specs.Tables.{value_at, put, without, replace_at}
use Rattle.sentry_plain.specs.declared.table.rows.Row.{Row}
use Rattle.sentry_plain.specs.declared.table.rows.Row.TheVariants.{Empty, Full}

abbrev pub AllBelow : ℕ → List ℕ → Type 0
AllBelow n ks = AllByRecursion (λ m. nat_cmp m n ≡ Less) ks

abbrev pub AllAbove : ℕ → List ℕ → Type 0
AllAbove n ks = AllByRecursion (λ m. nat_cmp n m ≡ Less) ks

pub flip : (x y : ℕ) (o : Ordering) → nat_cmp x y ≡ o → nat_cmp y x ≡ ordering_reverse o
flip x y o h = nat_cmp_total.antisymm y x ∙ ap ordering_reverse h

module _ {X : Type 0} where
  -- ---- entries above a number
  none_above : (n : ℕ) (l : List (ℕ × X)) → AllAbove n (keys_of l) → value_at l n ≡ None
  none_above n [] h = refl
  none_above n (e ∷ es) h = ap (λ o. cond (is_eq o) (Some e.1) (value_at es n)) h.0 ∙ none_above n es h.1

  put_above : (n : ℕ) (x : X) (l : List (ℕ × X)) → AllAbove n (keys_of l) → put l n x ≡ (n, x) ∷ l
  put_above n x [] h = refl
  put_above n x (e ∷ es) h = ap (λ o. match_ordering o ((n, x) ∷ e ∷ es) ((e.0, x) ∷ es) (e ∷ put es n x)) h.0

  without_above : (n : ℕ) (l : List (ℕ × X)) → AllAbove n (keys_of l) → without l n ≡ l
  without_above n [] h = refl
  without_above n (e ∷ es) h =
      ap (λ o. cond (is_eq o) es (e ∷ without es n)) h.0
      ∙ ap (λ (rest : List (ℕ × X)). e ∷ rest) (without_above n es h.1)

  -- ---- entries below the number of a row, then the row, then entries above it
  value_cut : (pre : List (ℕ × X)) (r : Row X) (post : List (ℕ × X)) → AllBelow (number_of r) (keys_of pre) → AllAbove (number_of r) (keys_of post)
      → value_at (pre ++ with_row r post) (number_of r) ≡ value_of r
  value_cut [] (Empty n) post below above = none_above n post above
  value_cut [] (Full n x) post below above = ap (λ o. cond (is_eq o) (Some x) (value_at post n)) (tied_itself nat_cmp_total n)
  value_cut (e ∷ pre) r post below above =
      ap (λ o. cond (is_eq o) (Some e.1) (value_at (pre ++ with_row r post) (number_of r))) (flip e.0 (number_of r) Less below.0)
      ∙ value_cut pre r post below.1 above

  pub put_cut : (pre : List (ℕ × X)) (r : Row X) (post : List (ℕ × X)) (x : X) → AllBelow (number_of r) (keys_of pre) → AllAbove (number_of r) (keys_of post)
      → put (pre ++ with_row r post) (number_of r) x ≡ pre ++ (number_of r, x) ∷ post
  put_cut [] (Empty n) post x below above = put_above n x post above
  put_cut [] (Full n y) post x below above = ap (λ o. match_ordering o ((n, x) ∷ (n, y) ∷ post) ((n, x) ∷ post) ((n, y) ∷ put post n x)) (tied_itself nat_cmp_total n)
  put_cut (e ∷ pre) r post x below above =
      let k : ℕ = number_of r in
      let rest : List (ℕ × X) = pre ++ with_row r post in
      ap (λ o. match_ordering o ((k, x) ∷ e ∷ rest) ((e.0, x) ∷ rest) (e ∷ put rest k x)) (flip e.0 k Less below.0)
      ∙ ap (λ (l : List (ℕ × X)). e ∷ l) (put_cut pre r post x below.1 above)

  without_cut : (pre : List (ℕ × X)) (r : Row X) (post : List (ℕ × X)) → AllBelow (number_of r) (keys_of pre) → AllAbove (number_of r) (keys_of post)
      → without (pre ++ with_row r post) (number_of r) ≡ pre ++ post
  without_cut [] (Empty n) post below above = without_above n post above
  without_cut [] (Full n y) post below above = ap (λ o. cond (is_eq o) post ((n, y) ∷ without post n)) (tied_itself nat_cmp_total n)
  without_cut (e ∷ pre) r post below above =
      let k : ℕ = number_of r in
      let rest : List (ℕ × X) = pre ++ with_row r post in
      ap (λ o. cond (is_eq o) rest (e ∷ without rest k)) (flip e.0 k Less below.0)
      ∙ ap (λ (l : List (ℕ × X)). e ∷ l) (without_cut pre r post below.1 above)

  replace_cut : (pre : List (ℕ × X)) (n : ℕ) (y x : X) (post : List (ℕ × X)) → AllBelow n (keys_of pre)
      → replace_at (pre ++ (n, y) ∷ post) n x ≡ pre ++ (n, x) ∷ post
  replace_cut [] n y x post below = ap (λ o. cond (is_eq o) ((n, x) ∷ post) ((n, y) ∷ replace_at post n x)) (tied_itself nat_cmp_total n)
  replace_cut (e ∷ pre) n y x post below =
      let rest : List (ℕ × X) = pre ++ (n, y) ∷ post in
      ap (λ o. cond (is_eq o) ((e.0, x) ∷ rest) (e ∷ replace_at rest n x)) (flip e.0 n Less below.0)
      ∙ ap (λ (l : List (ℕ × X)). e ∷ l) (replace_cut pre n y x post below.1)

  pub length_cut : (pre : List (ℕ × X)) (e : ℕ × X) (post : List (ℕ × X)) → length (pre ++ e ∷ post) ≡ suc (length (pre ++ post))
  length_cut [] e post = refl
  length_cut (p ∷ pre) e post = ap suc (length_cut pre e post)

  -- ---- rows
  with_row-append : (r : Row X) (a b : List (ℕ × X)) → with_row r (a ++ b) ≡ with_row r a ++ b
  with_row-append (Empty n) a b = refl
  with_row-append (Full n x) a b = refl

  pub live_split : (rows : List (Row X)) (i : ℕ) (d : Row X) → i < length rows
      → live_rows rows ≡ live_rows (take i rows) ++ with_row (get_or rows i d) (live_rows (drop (suc i) rows))
  live_split [] i d lt = absurd (omega arith)
  live_split (r ∷ rows) zero d lt = refl
  live_split (r ∷ rows) (suc i) d lt =
      ap (with_row r) (live_split rows i d (omega arith))
      ∙ with_row-append r (live_rows (take i rows)) (with_row (get_or rows i d) (live_rows (drop (suc i) rows)))

  pub live_set : (rows : List (Row X)) (i : ℕ) (q : Row X) → i < length rows
      → live_rows (set rows i q) ≡ live_rows (take i rows) ++ with_row q (live_rows (drop (suc i) rows))
  live_set [] i q lt = absurd (omega arith)
  live_set (r ∷ rows) zero q lt = refl
  live_set (r ∷ rows) (suc i) q lt =
      ap (with_row r) (live_set rows i q (omega arith))
      ∙ with_row-append r (live_rows (take i rows)) (with_row q (live_rows (drop (suc i) rows)))

  pub live_push : (rows : List (Row X)) (q : Row X) → live_rows (rows ++ q ∷ []) ≡ live_rows rows ++ with_row q []
  live_push [] q = refl
  live_push (r ∷ rows) q = ap (with_row r) (live_push rows q) ∙ with_row-append r (live_rows rows) (with_row q [])

  length-with_row : (r : Row X) (l : List (ℕ × X)) (k : ℕ) → length l ≤ k → length (with_row r l) ≤ suc k
  length-with_row (Empty n) l k h = omega arith
  length-with_row (Full n x) l k h = omega arith

  pub length-live : (rows : List (Row X)) → length (live_rows rows) ≤ length rows
  length-live [] = omega arith
  length-live (r ∷ rows) = length-with_row r (live_rows rows) (length rows) (length-live rows)

  numbers-set : (rows : List (Row X)) (i : ℕ) (q : Row X) → i < length rows → number_of (get_or rows i q) ≡ number_of q → numbers (set rows i q) ≡ numbers rows
  numbers-set [] i q lt e = absurd (omega arith)
  numbers-set (r ∷ rows) zero q lt e = ap (λ (n : ℕ). n ∷ numbers rows) (sym e)
  numbers-set (r ∷ rows) (suc i) q lt e = ap (λ (ns : List ℕ). number_of r ∷ ns) (numbers-set rows i q (omega arith) e)

  pub same_place : (rows : List (Row X)) (i : ℕ) (d q : Row X) → i < length rows → get_or rows i d ≡ get_or rows i q
  same_place [] i d q lt = absurd (omega arith)
  same_place (r ∷ rows) zero d q lt = refl
  same_place (r ∷ rows) (suc i) d q lt = same_place rows i d q (omega arith)

  all_at : (P : ℕ → Type 0) (rows : List (Row X)) (i : ℕ) (d : Row X) → AllByRecursion P (numbers rows) → i < length rows → P (number_of (get_or rows i d))
  all_at P [] i d h lt = absurd (omega arith)
  all_at P (r ∷ rows) zero d h lt = h.0
  all_at P (r ∷ rows) (suc i) d h lt = all_at P rows i d h.1 (omega arith)

  pub below_row : (n : ℕ) (r : Row X) (l : List (ℕ × X)) → nat_cmp (number_of r) n ≡ Less → AllBelow n (keys_of l) → AllBelow n (keys_of (with_row r l))
  below_row n (Empty m) l less h = h
  below_row n (Full m x) l less h = (less, h)

  above_row : (n : ℕ) (r : Row X) (l : List (ℕ × X)) → nat_cmp n (number_of r) ≡ Less → AllAbove n (keys_of l) → AllAbove n (keys_of (with_row r l))
  above_row n (Empty m) l less h = h
  above_row n (Full m x) l less h = (less, h)

  live_above : (n : ℕ) (rows : List (Row X)) → AllAbove n (numbers rows) → AllAbove n (keys_of (live_rows rows))
  live_above n [] h = tt
  live_above n (r ∷ rows) h = above_row n r (live_rows rows) h.0 (live_above n rows h.1)

  pub live_below : (n : ℕ) (rows : List (Row X)) → AllBelow n (numbers rows) → AllBelow n (keys_of (live_rows rows))
  live_below n [] h = tt
  live_below n (r ∷ rows) h = below_row n r (live_rows rows) h.0 (live_below n rows h.1)

  pub before_below : (rows : List (Row X)) (i : ℕ) (d : Row X) → IsStrictlySortedBy nat_cmp (numbers rows) → i < length rows → AllBelow (number_of (get_or rows i d)) (keys_of (live_rows (take i rows)))
  unfolding IsStrictlySortedBy
  before_below [] i d sorted lt = absurd (omega arith)
  before_below (r ∷ rows) zero d sorted lt = tt
  before_below (r ∷ rows) (suc i) d sorted lt =
      below_row (number_of (get_or rows i d)) r (live_rows (take i rows))
      (all_at (λ m. nat_cmp (number_of r) m ≡ Less) rows i d sorted.0 (omega arith))
      (before_below rows i d sorted.1 (omega arith))

  after_above : (rows : List (Row X)) (i : ℕ) (d : Row X) → IsStrictlySortedBy nat_cmp (numbers rows) → i < length rows → AllAbove (number_of (get_or rows i d)) (keys_of (live_rows (drop (suc i) rows)))
  unfolding IsStrictlySortedBy
  after_above [] i d sorted lt = absurd (omega arith)
  after_above (r ∷ rows) zero d sorted lt = live_above (number_of r) rows sorted.0
  after_above (r ∷ rows) (suc i) d sorted lt = after_above rows i d sorted.1 (omega arith)

  sorted_row : (k : ℕ) (r : Row X) (l : List (ℕ × X)) → k ≡ number_of r → AllAbove k (keys_of l) → IsStrictlySortedBy nat_cmp (keys_of l) → IsStrictlySortedBy nat_cmp (keys_of (with_row r l))
  unfolding IsStrictlySortedBy
  sorted_row k (Empty n) l e h sorted = sorted
  sorted_row k (Full n x) l e h sorted = (subst (λ m. AllAbove m (keys_of l)) e h, sorted)

  -- the entries of a table are in order
  pub sorted_live : (rows : List (Row X)) → IsStrictlySortedBy nat_cmp (numbers rows) → IsStrictlySortedBy nat_cmp (keys_of (live_rows rows))
  unfolding IsStrictlySortedBy
  sorted_live [] sorted = tt
  sorted_live (r ∷ rows) sorted = sorted_row (number_of r) r (live_rows rows) refl (live_above (number_of r) rows sorted.0) (sorted_live rows sorted.1)

  -- ---- where a binary search ends
  rises : (rows : List (Row X)) (n : ℕ) → IsStrictlySortedBy nat_cmp (numbers rows) → IsNonDecreasingBy (λ r. ordering_index (nat_cmp (number_of r) n)) rows
  unfolding IsStrictlySortedBy
  rises [] n sorted i j d le lt = absurd (omega arith)
  rises (r ∷ rows) n sorted zero zero d le lt = omega arith
  rises (r ∷ rows) n sorted zero (suc j) d le lt =
      rises_by nat_cmp nat_cmp_total n (number_of r) (number_of (get_or rows j d)) (nat_cmp (number_of (get_or rows j d)) n)
      (all_at (λ m. nat_cmp (number_of r) m ≡ Less) rows j d sorted.0 (omega arith)) refl
  rises (r ∷ rows) n sorted (suc i) zero d le lt = absurd (omega arith)
  rises (r ∷ rows) n sorted (suc i) (suc j) d le lt = rises rows n sorted.1 i j d (omega arith) (omega arith)

  pub searched_rows : (rows : List (Row X)) (n : ℕ) (r : Result ℕ ℕ) → IsStrictlySortedBy nat_cmp (numbers rows) → IsSearchInRange r (length rows)
      → IsBinarySearchResult (λ q. nat_cmp (number_of q) n) rows r → IfOk r (IsRowOf rows n) × IfErr r (IsRowGap rows n)
  searched_rows rows n (Ok i) sorted inside equal =
      (record { inside = inside; same = λ d. ranked (number_of (get_or rows i d)) n Equal (sym (equal d)) }, tt)
  searched_rows rows n (Err i) sorted inside parts =
      let two = parts (rises rows n sorted) in (
        tt,
        record {
          inside = inside;
          before = λ j d lt. two.0 j d (omega arith) lt;
          after = λ j d le lt. flip (number_of (get_or rows j d)) n Greater (two.1 j d le lt);
        },
      )

  -- past the last row
  past_last : (rows : List (Row X)) (n : ℕ) → IsStrictlySortedBy nat_cmp (numbers rows) → (i : ℕ) → i + 1 ≡ length rows → ((d : Row X) → nat_cmp (number_of (get_or rows i d)) n ≡ Less) → IsRowGap rows n (length rows)
  past_last rows n sorted i last less = record {
    inside = omega arith;
    before = λ j d lt. least (nat_cmp (number_of (get_or rows j d)) n) (subst (λ o. ordering_index (nat_cmp (number_of (get_or rows j d)) n) ≤ ordering_index o) (less d) (rises rows n sorted j i d (omega arith) (omega arith)));
    after = λ j d le lt. absurd (omega arith);
  }
    where
      least : (o : Ordering) → ordering_index o ≤ 0 → o ≡ Less
      least Less h = refl
      least Equal h = absurd (omega arith)
      least Greater h = absurd (omega arith)

  pub past_last_row : (rows : List (Row X)) (n i : ℕ) (r : Row X) → IsStrictlySortedBy nat_cmp (numbers rows) → i + 1 ≡ length rows → r ≡ get_or rows i r → number_of r < n → IsRowGap rows n (length rows)
  past_last_row rows n i r sorted last here less =
      past_last rows n sorted i last (λ d. ap (λ (q : Row X). nat_cmp (number_of q) n) (same_place rows i d r (omega arith) ∙ sym here) ∙ sym (nat_cmp_is (number_of r) n Less less))

  -- ---- at the row of a number
  module _ (rows : List (Row X)) (i n : ℕ) (r : Row X) (sorted : IsStrictlySortedBy nat_cmp (numbers rows)) (lt : i < length rows) (here : r ≡ get_or rows i r) (e : number_of r ≡ n) where
    below : AllBelow (number_of r) (keys_of (live_rows (take i rows)))
    below = subst (λ (q : Row X). AllBelow (number_of q) (keys_of (live_rows (take i rows)))) (sym here) (before_below rows i r sorted lt)

    above : AllAbove (number_of r) (keys_of (live_rows (drop (suc i) rows)))
    above = subst (λ (q : Row X). AllAbove (number_of q) (keys_of (live_rows (drop (suc i) rows)))) (sym here) (after_above rows i r sorted lt)

    whole : live_rows rows ≡ live_rows (take i rows) ++ with_row r (live_rows (drop (suc i) rows))
    whole = live_split rows i r lt ∙ ap (λ (q : Row X). live_rows (take i rows) ++ with_row q (live_rows (drop (suc i) rows))) (sym here)

    pub value_here : value_at (live_rows rows) n ≡ value_of r
    value_here =
        ap (λ m. value_at m n) whole
        ∙ ap (λ k. value_at (live_rows (take i rows) ++ with_row r (live_rows (drop (suc i) rows))) k) (sym e)
        ∙ value_cut (live_rows (take i rows)) r (live_rows (drop (suc i) rows)) below above

    pub put_here : (x : X) → put (live_rows rows) n x ≡ live_rows (set rows i (Full n x))
    put_here x =
        ap (λ m. put m n x) whole
        ∙ subst (λ k. put (live_rows (take i rows) ++ with_row r (live_rows (drop (suc i) rows))) k x ≡ live_rows (take i rows) ++ (k, x) ∷ live_rows (drop (suc i) rows)) e
        (put_cut (live_rows (take i rows)) r (live_rows (drop (suc i) rows)) x below above)
        ∙ sym (live_set rows i (Full n x) lt)

    pub without_here : without (live_rows rows) n ≡ live_rows (set rows i (Empty n))
    without_here =
        ap (λ m. without m n) whole
        ∙ subst (λ k. without (live_rows (take i rows) ++ with_row r (live_rows (drop (suc i) rows))) k ≡ live_rows (take i rows) ++ live_rows (drop (suc i) rows)) e
        (without_cut (live_rows (take i rows)) r (live_rows (drop (suc i) rows)) below above)
        ∙ sym (live_set rows i (Empty n) lt)

    pub replace_here : (y x : X) → r ≡ Full n y → replace_at (live_rows rows) n x ≡ live_rows (set rows i (Full n x))
    replace_here y x full =
        ap (λ m. replace_at m n x) (whole ∙ ap (λ (q : Row X). live_rows (take i rows) ++ with_row q (live_rows (drop (suc i) rows))) full)
        ∙ replace_cut (live_rows (take i rows)) n y x (live_rows (drop (suc i) rows)) (subst (λ k. AllBelow k (keys_of (live_rows (take i rows)))) e below)
        ∙ sym (live_set rows i (Full n x) lt)

    pub order_here : (q : Row X) → number_of q ≡ n → IsStrictlySortedBy nat_cmp (numbers (set rows i q))
    order_here q same =
        subst (IsStrictlySortedBy nat_cmp)
        (sym (numbers-set rows i q lt (sym (same ∙ sym e ∙ ap number_of (here ∙ same_place rows i r q lt))))) sorted

  -- ---- at the place for a number that has no row
  pub gap_rest : (r : Row X) (rows : List (Row X)) (n place : ℕ) → IsRowGap (r ∷ rows) n (suc place) → IsRowGap rows n place
  gap_rest r rows n place gap = record {
    inside = omega (arith, gap.inside);
    before = λ j d lt. gap.before (suc j) d (omega arith);
    after = λ j d le lt. gap.after (suc j) d (omega arith) (omega arith);
  }

  numbers_above : (rows : List (Row X)) (n : ℕ) → ((j : ℕ) (d : Row X) → j < length rows → nat_cmp n (number_of (get_or rows j d)) ≡ Less) → AllAbove n (numbers rows)
  numbers_above [] n h = tt
  numbers_above (r ∷ rows) n h = (h 0 r (omega arith), numbers_above rows n (λ j d lt. h (suc j) d (omega arith)))

  gap_above : (rows : List (Row X)) (n : ℕ) → IsRowGap rows n 0 → AllAbove n (numbers rows)
  gap_above rows n gap = numbers_above rows n (λ j d lt. gap.after j d (omega arith) lt)

  pub below_gap : (rows : List (Row X)) (n place : ℕ) → IsRowGap rows n place → AllBelow n (keys_of (live_rows (take place rows)))
  below_gap rows n zero gap = tt
  below_gap [] n (suc place) gap = tt
  below_gap (r ∷ rows) n (suc place) gap =
      below_row n r (live_rows (take place rows)) (gap.before 0 r (omega arith)) (below_gap rows n place (gap_rest r rows n place gap))

  above_gap : (rows : List (Row X)) (n place : ℕ) → IsRowGap rows n place → AllAbove n (keys_of (live_rows (drop place rows)))
  above_gap rows n zero gap = live_above n rows (gap_above rows n gap)
  above_gap [] n (suc place) gap = tt
  above_gap (r ∷ rows) n (suc place) gap = above_gap rows n place (gap_rest r rows n place gap)

  live_cut : (rows : List (Row X)) (place : ℕ) → live_rows rows ≡ live_rows (take place rows) ++ live_rows (drop place rows)
  live_cut rows zero = refl
  live_cut [] (suc place) = refl
  live_cut (r ∷ rows) (suc place) =
      ap (with_row r) (live_cut rows place)
      ∙ with_row-append r (live_rows (take place rows)) (live_rows (drop place rows))

  live_insert : (rows : List (Row X)) (place : ℕ) (q : Row X) → live_rows (insert rows place q) ≡ live_rows (take place rows) ++ with_row q (live_rows (drop place rows))
  live_insert rows zero q = refl
  live_insert [] (suc place) q = refl
  live_insert (r ∷ rows) (suc place) q =
      ap (with_row r) (live_insert rows place q)
      ∙ with_row-append r (live_rows (take place rows)) (with_row q (live_rows (drop place rows)))

  all_insert : (P : ℕ → Type 0) (rows : List (Row X)) (place : ℕ) (q : Row X) → P (number_of q) → AllByRecursion P (numbers rows) → AllByRecursion P (numbers (insert rows place q))
  all_insert P rows zero q here h = (here, h)
  all_insert P [] (suc place) q here h = (here, tt)
  all_insert P (r ∷ rows) (suc place) q here h = (h.0, all_insert P rows place q here h.1)

  pub order_gap : (rows : List (Row X)) (n place : ℕ) (x : X) → IsStrictlySortedBy nat_cmp (numbers rows) → IsRowGap rows n place → IsStrictlySortedBy nat_cmp (numbers (insert rows place (Full n x)))
  unfolding IsStrictlySortedBy
  order_gap rows n zero x sorted gap = (gap_above rows n gap, sorted)
  order_gap [] n (suc place) x sorted gap = (tt, tt)
  order_gap (r ∷ rows) n (suc place) x sorted gap = (
    all_insert (λ m. nat_cmp (number_of r) m ≡ Less) rows place (Full n x) (gap.before 0 r (omega arith)) sorted.0,
    order_gap rows n place x sorted.1 (gap_rest r rows n place gap),
  )

  module _ (rows : List (Row X)) (n place : ℕ) (gap : IsRowGap rows n place) where
    pub value_gap : value_at (live_rows rows) n ≡ None
    value_gap =
        ap (λ m. value_at m n) (live_cut rows place)
        ∙ value_cut (live_rows (take place rows)) (Empty n) (live_rows (drop place rows)) (below_gap rows n place gap) (above_gap rows n place gap)

    pub without_gap : without (live_rows rows) n ≡ live_rows rows
    without_gap =
        ap (λ m. without m n) (live_cut rows place)
        ∙ without_cut (live_rows (take place rows)) (Empty n) (live_rows (drop place rows)) (below_gap rows n place gap) (above_gap rows n place gap)
        ∙ sym (live_cut rows place)

    pub put_gap : (x : X) → put (live_rows rows) n x ≡ live_rows (insert rows place (Full n x))
    put_gap x =
        ap (λ m. put m n x) (live_cut rows place)
        ∙ put_cut (live_rows (take place rows)) (Empty n) (live_rows (drop place rows)) x (below_gap rows n place gap) (above_gap rows n place gap)
        ∙ sym (live_insert rows place (Full n x))

    pub count_gap : (x : X) → length (live_rows (insert rows place (Full n x))) ≡ length (live_rows rows) + 1
    count_gap x =
        let added = length_cut (live_rows (take place rows)) (n, x) (live_rows (drop place rows)) in
        omega (arith, added, ap length (live_insert rows place (Full n x)), ap length (live_cut rows place))
