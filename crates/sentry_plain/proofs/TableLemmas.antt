-- What a table becomes where its rows change.
use Rattle.std.proofs.Common.{◌≡◌, ℕ, suc, ◌+◌, ◌<◌, length, get_or, set, take, drop, insert, filter, true, false, cond, is_eq, Some, None, List, [], ◌∷◌, ◌++◌, refl, sym, ap, ◌∙◌, subst, append-nil, Less, arith}
use Rattle.std.proofs.lemmas.Cmp.{eq_by_cmp_equiv, nat_cmp_total}
use Rattle.std.proofs.lemmas.List.Edits.{insert_end}
use Rattle.std.proofs.lemmas.Map.{lookup-remove_entry}
use Rattle.std.proofs.lemmas.Map.Keys.{IsDistinct-from_sorted}
use Rattle.std.specs.BTreeMap.{is_at}
use Rattle.std.specs.Map.{keys_of}
use Rattle.std.specs.List.{AllByRecursion}
use Rattle.std.specs.List.Sorted.{IsStrictlySortedBy}
use Rattle.std.specs.Option.{is_some}
use Rattle.std.specs.Ordering.{nat_cmp}
use Rattle.sentry_plain.proofs.RowLemmas.{live_split, live_set, live_push, length_cut, value_here, put_here, without_here, replace_here, order_here, same_place, value_gap, without_gap, put_gap, order_gap, count_gap, sorted_live}
use Rattle.sentry_plain.specs.Rows.{number_of, value_of, with_row, live_rows, numbers, IsTable, IsRowOf, IsRowGap, count_with}
use Rattle.sentry_plain.specs.Tables.{value_at, put, without, replace_at}
use Rattle.sentry_plain.specs.declared.table.rows.Row.{Row}
use Rattle.sentry_plain.specs.declared.table.rows.Row.TheVariants.{Empty, Full}

module _ {X : Type 0} where
  -- ---- how many rows have a value
  count_row : (pre : List (ℕ × X)) (r : Row X) (n : ℕ) (x : X) (post : List (ℕ × X)) → length (pre ++ (n, x) ∷ post) ≡ count_with r (length (pre ++ with_row r post))
  count_row pre (Empty m) n x post = let e = length_cut pre (n, x) post in omega arith
  count_row pre (Full m y) n x post = length_cut pre (n, x) post ∙ sym (length_cut pre (m, y) post)

  count_fill : (rows : List (Row X)) (i n : ℕ) (x : X) (r : Row X) → i < length rows → r ≡ get_or rows i r → length (live_rows (set rows i (Full n x))) ≡ count_with r (length (live_rows rows))
  count_fill rows i n x r lt here =
      ap length (live_set rows i (Full n x) lt)
      ∙ count_row (live_rows (take i rows)) r n x (live_rows (drop (suc i) rows))
      ∙ ap (λ l. count_with r (length l)) (sym (live_split rows i r lt ∙ ap (λ (q : Row X). live_rows (take i rows) ++ with_row q (live_rows (drop (suc i) rows))) (sym here)))

  count_empty : (rows : List (Row X)) (i n m : ℕ) (x : X) (r : Row X) → i < length rows → r ≡ get_or rows i r → r ≡ Full m x → length (live_rows (set rows i (Empty n))) + 1 ≡ length (live_rows rows)
  count_empty rows i n m x r lt here full =
      let after : live_rows (set rows i (Empty n)) ≡ live_rows (take i rows) ++ live_rows (drop (suc i) rows) = live_set rows i (Empty n) lt in
      let was : live_rows rows ≡ live_rows (take i rows) ++ with_row (get_or rows i r) (live_rows (drop (suc i) rows)) = live_split rows i r lt in
      let now : live_rows rows ≡ live_rows (take i rows) ++ (m, x) ∷ live_rows (drop (suc i) rows) =
      was ∙ ap (λ (q : Row X). live_rows (take i rows) ++ with_row q (live_rows (drop (suc i) rows))) (sym here ∙ full) in
      let cut = length_cut (live_rows (take i rows)) (m, x) (live_rows (drop (suc i) rows)) in
      omega (arith, ap length after, ap length now, cut)

  -- ---- rows without a value go
  pub live-full : (rows : List (Row X)) → live_rows (filter (λ r. is_some (value_of r)) rows) ≡ live_rows rows
  live-full [] = refl
  live-full (Empty n ∷ rows) = live-full rows
  live-full (Full n x ∷ rows) = ap (λ (l : List (ℕ × X)). (n, x) ∷ l) (live-full rows)

  pub numbers-full : (rows : List (Row X)) → numbers (filter (λ r. is_some (value_of r)) rows) ≡ keys_of (live_rows rows)
  numbers-full [] = refl
  numbers-full (Empty n ∷ rows) = numbers-full rows
  numbers-full (Full n x ∷ rows) = ap (λ (ns : List ℕ). n ∷ ns) (numbers-full rows)

  -- those that stay are a table
  pub table_full : (rows kept : List (Row X)) (full : ℕ) → IsTable rows full → live_rows kept ≡ live_rows rows → numbers kept ≡ keys_of (live_rows rows) → IsTable kept full
  table_full rows kept full is live ns = record {
    order = subst (IsStrictlySortedBy nat_cmp) (sym ns) (sorted_live rows is.order);
    count = is.count ∙ ap length (sym live);
  }

  -- ---- a row without a value, or with one
  full_is : (r : Row X) (x : X) → value_of r ≡ Some x → r ≡ Full (number_of r) x
  full_is (Empty n) x e = absurd cc
  full_is (Full n y) x e = cc

  empty_is : (r : Row X) → value_of r ≡ None → r ≡ Empty (number_of r)
  empty_is (Empty n) e = refl
  empty_is (Full n y) e = absurd cc

  set_same : (rows : List (Row X)) (i : ℕ) (r q : Row X) → i < length rows → r ≡ get_or rows i r → q ≡ r → live_rows (set rows i q) ≡ live_rows rows
  set_same rows i r q lt here same =
      live_set rows i q lt ∙ ap (λ (s : Row X). live_rows (take i rows) ++ with_row s (live_rows (drop (suc i) rows))) (same ∙ here) ∙ sym (live_split rows i r lt)

  -- ---- the last row goes, which has no value
  all_before : (P : ℕ → Type 0) (rows : List (Row X)) (r : Row X) → AllByRecursion P (numbers (rows ++ r ∷ [])) → AllByRecursion P (numbers rows)
  all_before P [] r h = tt
  all_before P (q ∷ rows) r h = (h.0, all_before P rows r h.1)

  order_before : (rows : List (Row X)) (r : Row X) → IsStrictlySortedBy nat_cmp (numbers (rows ++ r ∷ [])) → IsStrictlySortedBy nat_cmp (numbers rows)
  unfolding IsStrictlySortedBy
  order_before [] r sorted = tt
  order_before (q ∷ rows) r sorted = (all_before (λ m. nat_cmp (number_of q) m ≡ Less) rows r sorted.0, order_before rows r sorted.1)

  pub live_before : (rows left : List (Row X)) (r : Row X) → rows ≡ left ++ r ∷ [] → is_some (value_of r) ≡ false → live_rows left ≡ live_rows rows
  live_before rows left (Empty n) is none = sym (ap live_rows is ∙ live_push left (Empty n) ∙ append-nil (live_rows left))
  live_before rows left (Full n x) is none = absurd cc

  pub table_before : (rows left : List (Row X)) (full : ℕ) (r : Row X) → rows ≡ left ++ r ∷ [] → is_some (value_of r) ≡ false → IsTable rows full → IsTable left full
  table_before rows left full r is none table = record {
    order = order_before left r (subst (λ (l : List (Row X)). IsStrictlySortedBy nat_cmp (numbers l)) is table.order);
    count = table.count ∙ ap length (sym (live_before rows left r is none));
  }

  -- ---- no rows
  pub table_empty : (rows : List (Row X)) → rows ≡ [] → IsTable rows 0
  unfolding IsStrictlySortedBy
  table_empty rows none = subst (λ (l : List (Row X)). IsTable l 0) (sym none) (record { order = tt; count = refl })

  -- ---- in the rows themselves what was found in a slice of them
  pub row_of : (s rows : List (Row X)) (n i : ℕ) → s ≡ rows → IsRowOf s n i → IsRowOf rows n i
  row_of s rows n i same at = subst (λ (l : List (Row X)). IsRowOf l n i) same at

  pub gap_of : (s rows : List (Row X)) (n i : ℕ) → s ≡ rows → IsRowGap s n i → IsRowGap rows n i
  gap_of s rows n i same gap = subst (λ (l : List (Row X)). IsRowGap l n i) same gap

  -- ---- a row that is found, and has no value
  pub value_none : (rows : List (Row X)) (n i : ℕ) (r : Row X) → IsStrictlySortedBy nat_cmp (numbers rows) → IsRowOf rows n i → r ≡ get_or rows i r → is_some (value_of r) ≡ false → value_at (live_rows rows) n ≡ None
  value_none rows n i r sorted at here e = value_here rows i n r sorted at.inside here (ap number_of here ∙ at.same r) ∙ none_of r e
    where
      none_of : (q : Row X) → is_some (value_of q) ≡ false → value_of q ≡ None
      none_of (Empty m) h = refl
      none_of (Full m x) h = absurd cc

  pub full_at : (rows : List (Row X)) (i : ℕ) (r d : Row X) → i < length rows → r ≡ get_or rows i r → is_some (value_of r) ≡ true → is_some (value_of (get_or rows i d)) ≡ true
  full_at rows i r d lt here e = ap (λ (q : Row X). is_some (value_of q)) (same_place rows i d r lt ∙ sym here) ∙ e

  has_value : (r : Row X) → is_some (value_of r) ≡ true → (x : X) × (value_of r ≡ Some x)
  has_value (Empty m) h = absurd cc
  has_value (Full m x) h = (x, refl)

  -- ---- at the row of a number
  module _ (rows : List (Row X)) (full n i : ℕ) (is : IsTable rows full) (at : IsRowOf rows n i) (r : Row X) (here : r ≡ get_or rows i r) where
    numbered : number_of r ≡ n
    numbered = ap number_of here ∙ at.same r

    pub value_row : value_at (live_rows rows) n ≡ value_of r
    value_row = value_here rows i n r is.order at.inside here numbered

    -- its value is written
    pub replace_row : (y x : X) → value_of r ≡ Some y → replace_at (live_rows rows) n x ≡ live_rows (set rows i (Full (number_of r) x))
    replace_row y x some =
        replace_here rows i n r is.order at.inside here numbered y x (full_is r y some ∙ ap (λ k. Full k y) numbered)
        ∙ ap (λ k. live_rows (set rows i (Full k x))) (sym numbered)

    pub table_replaced : (y x : X) → value_of r ≡ Some y → IsTable (set rows i (Full (number_of r) x)) full
    table_replaced y x some = record {
      order = order_here rows i n r is.order at.inside here numbered (Full (number_of r) x) numbered;
      count = is.count ∙ sym (
          count_fill rows i (number_of r) x r at.inside here
          ∙ ap (λ (t : Row X). count_with t (length (live_rows rows))) (full_is r y some)
          );
    }

    pub put_row : (x : X) → put (live_rows rows) n x ≡ live_rows (set rows i (Full n x))
    put_row x = put_here rows i n r is.order at.inside here numbered x

    pub table_filled : (x : X) → IsTable (set rows i (Full n x)) (count_with r full)
    table_filled x = record {
      order = order_here rows i n r is.order at.inside here numbered (Full n x) refl;
      count = ap (count_with r) is.count ∙ sym (count_fill rows i n x r at.inside here);
    }

    -- its value is taken out
    emptied : (q : Row X) → q ≡ Empty (number_of r) → q ≡ Empty n
    emptied q e = e ∙ ap Empty numbered

    pub without_row : (q : Row X) → q ≡ Empty (number_of r) → without (live_rows rows) n ≡ live_rows (set rows i q)
    without_row q e =
        without_here rows i n r is.order at.inside here numbered
        ∙ ap (λ (t : Row X). live_rows (set rows i t)) (sym (emptied q e))

    order_emptied : (q : Row X) → q ≡ Empty (number_of r) → IsStrictlySortedBy nat_cmp (numbers (set rows i q))
    order_emptied q e = order_here rows i n r is.order at.inside here numbered q (ap number_of (emptied q e))

    pub fewer : (x : X) (q : Row X) → value_of r ≡ Some x → q ≡ Empty (number_of r) → length (live_rows (set rows i q)) + 1 ≡ full
    fewer x q some e =
        ap (λ (t : Row X). length (live_rows (set rows i t)) + 1) e
        ∙ count_empty rows i (number_of r) (number_of r) x r at.inside here (full_is r x some)
        ∙ sym is.count

    pub table_taken : (left : ℕ) (x : X) (q : Row X) → value_of r ≡ Some x → q ≡ Empty (number_of r) → left + 1 ≡ full → IsTable (set rows i q) left
    table_taken left x q some e one = record {
      order = order_emptied q e;
      count = let less = fewer x q some e in omega (arith, less, one);
    }

    -- its value goes, if it has one
    pub table_cleared : (left : ℕ) (q : Row X) → is_some (value_of r) ≡ true → q ≡ Empty (number_of r) → left + 1 ≡ full → IsTable (set rows i q) left
    table_cleared left q some e one = let value = has_value r some in table_taken left value.0 q value.1 e one

    pub fewer_cleared : (q : Row X) → is_some (value_of r) ≡ true → q ≡ Empty (number_of r) → length (live_rows (set rows i q)) + 1 ≡ full
    fewer_cleared q some e = let value = has_value r some in fewer value.0 q value.1 e

    pub table_kept : (q : Row X) → value_of r ≡ None → q ≡ Empty (number_of r) → IsTable (set rows i q) full
    table_kept q none e = record {
      order = order_emptied q e;
      count = is.count ∙ ap length (sym (set_same rows i r q at.inside here (e ∙ sym (empty_is r none))));
    }

  -- ---- a number that has no row
  module _ (rows : List (Row X)) (full n i : ℕ) (is : IsTable rows full) (gap : IsRowGap rows n i) where
    pub value_absent : value_at (live_rows rows) n ≡ None
    value_absent = value_gap rows n i gap

    pub without_absent : without (live_rows rows) n ≡ live_rows rows
    without_absent = without_gap rows n i gap

    pub put_absent : (x : X) → put (live_rows rows) n x ≡ live_rows (insert rows i (Full n x))
    put_absent x = put_gap rows n i gap x

    pub table_added : (x : X) → IsTable (insert rows i (Full n x)) (full + 1)
    table_added x = record {
      order = order_gap rows n i x is.order gap;
      count = ap (λ k. k + 1) is.count ∙ sym (count_gap rows n i gap x);
    }

  -- a row above all others stands where it was pushed
  pub pushed : (rows new : List (Row X)) (n place : ℕ) (x : X) → place ≡ length rows → new ≡ rows ++ Full n x ∷ [] → new ≡ insert rows place (Full n x)
  pushed rows new n place x last is = is ∙ sym (insert_end rows (Full n x)) ∙ ap (λ i. insert rows i (Full n x)) (sym last)

  -- ---- what is left at each number once one is gone
  pub left_at : (rows : List (Row X)) (full n m : ℕ) → IsTable rows full → value_at (without (live_rows rows) n) m ≡ cond (is_eq (nat_cmp n m)) None (value_at (live_rows rows) m)
  left_at rows full n m is =
      lookup-remove_entry (eq_by_cmp_equiv nat_cmp_total) (is_at (nat_cmp n)) (λ x y h. (eq_by_cmp_equiv nat_cmp_total).congr n x y h) m (live_rows rows)
      (IsDistinct-from_sorted nat_cmp (keys_of (live_rows rows)) (sorted_live rows is.order))
