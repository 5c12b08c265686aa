-- How a table is walked: what is above a number, and what an iterator gives.
use Rattle.std.proofs.Common.{◌≡◌, ℕ, suc, ◌+◌, ◌<◌, ◌≤◌, length, get_or, take, drop, true, false, cond, ◌&&◌, Bool, Option, Some, List, [], ◌∷◌, ◌++◌, refl, sym, ap, ◌∙◌, subst, Less}
use Rattle.std.proofs.lemmas.Cmp.{nat_cmp_total, tied_itself}
use Rattle.std.proofs.lemmas.List.{take_more, take_all}
use Rattle.std.proofs.lemmas.List.Elements.{filter-append}
use Rattle.std.specs.List.Sorted.{IsStrictlySortedBy}
use Rattle.std.specs.Map.{keys_of}
use Rattle.std.specs.Option.{is_some, IsSomeAnd}
use Rattle.std.specs.Ordering.{is_lt, nat_cmp}
use Rattle.sentry_plain.proofs.RowLemmas.{AllBelow, flip, before_below, below_gap, live_push, live_split, same_place, sorted_live}
use Rattle.sentry_plain.proofs.WalkLemmas.{walks}
use Rattle.sentry_plain.specs.Rows.{number_of, value_of, with_row, live_rows, numbers, IsRowOf, IsRowGap}
use Rattle.sentry_plain.specs.Tables.{entries_after, is_after, value_at}
use Rattle.sentry_plain.specs.declared.table.rows.Row.{Row}
use Rattle.sentry_plain.specs.declared.table.rows.Row.TheVariants.{Empty, Full}

module _ {X : Type 0} where
  after-append : (after : Option ℕ) (a b : List (ℕ × X)) → entries_after after (a ++ b) ≡ entries_after after a ++ entries_after after b
  after-append after a b = filter-append (λ (e : ℕ × X). is_after after e.0) a b

  below_none : (n : ℕ) (l : List (ℕ × X)) → AllBelow n (keys_of l) → entries_after (Some n) l ≡ []
  below_none n [] below = refl
  below_none n (e ∷ l) below =
      ap (λ o. cond (is_lt o && true) (e ∷ entries_after (Some n) l) (entries_after (Some n) l)) (flip e.0 n Less below.0)
      ∙ below_none n l below.1

  -- nothing above a number lies before its row, or before the place for one
  pub none_before_row : (rows : List (Row X)) (n place : ℕ) → IsStrictlySortedBy nat_cmp (numbers rows) → IsRowOf rows n place → entries_after (Some n) (live_rows (take place rows)) ≡ []
  none_before_row rows n place sorted at =
      below_none n (live_rows (take place rows)) (subst (λ k. AllBelow k (keys_of (live_rows (take place rows)))) (at.same (Empty 0)) (before_below rows place (Empty 0) sorted at.inside))

  pub none_before_gap : (rows : List (Row X)) (n place : ℕ) → IsRowGap rows n place → entries_after (Some n) (live_rows (take place rows)) ≡ []
  none_before_gap rows n place gap = below_none n (live_rows (take place rows)) (below_gap rows n place gap)

  skipped : (after : Option ℕ) (r : Row X) → (is_some (value_of r) && is_after after (number_of r)) ≡ false → entries_after after (with_row r []) ≡ []
  skipped after (Empty n) fails = refl
  skipped after (Full n x) fails = ap (λ t. cond t ((n, x) ∷ []) []) fails

  -- a row that has no value, or isn't above the number, adds nothing
  pub skips : (after : Option ℕ) (rows : List (Row X)) (i : ℕ) (r : Row X) → i < length rows → r ≡ get_or rows i r → (is_some (value_of r) && is_after after (number_of r)) ≡ false
      → entries_after after (live_rows (take i rows)) ≡ [] → entries_after after (live_rows (take (i + 1) rows)) ≡ []
  skips after rows i r lt here fails none =
      ap (λ (l : List (Row X)). entries_after after (live_rows l)) (take_more rows i r lt ∙ ap (λ (q : Row X). take i rows ++ q ∷ []) (sym here))
      ∙ ap (entries_after after) (live_push (take i rows) r)
      ∙ after-append after (live_rows (take i rows)) (with_row r [])
      ∙ ap (λ (l : List (ℕ × X)). l ++ entries_after after (with_row r [])) none
      ∙ skipped after r fails

  -- nor up to its row, with the row itself
  pub none_to_row : (rows : List (Row X)) (n place : ℕ) → IsStrictlySortedBy nat_cmp (numbers rows) → IsRowOf rows n place → entries_after (Some n) (live_rows (take (place + 1) rows)) ≡ []
  none_to_row rows n place sorted at =
      let row = get_or rows place (Empty 0) in
      skips (Some n) rows place row at.inside (same_place rows place (Empty 0) row at.inside)
      (ap (λ m. is_some (value_of row) && is_after (Some n) m) (at.same (Empty 0))
      ∙ ap (λ o. is_some (value_of row) && (is_lt o && true)) (tied_itself nat_cmp_total n)
      ∙ and_false (is_some (value_of row)))
      (none_before_row rows n place sorted at)
    where
      and_false : (b : Bool) → (b && false) ≡ false
      and_false true = refl
      and_false false = refl

  -- past all rows
  pub none_left : (after : Option ℕ) (rows : List (Row X)) (i : ℕ) → length rows ≤ i → entries_after after (live_rows (take i rows)) ≡ [] → entries_after after (live_rows rows) ≡ []
  none_left after rows i le none = ap (λ (l : List (Row X)). entries_after after (live_rows l)) (sym (take_all i rows le)) ∙ none

  first_of : (after : Option ℕ) (r : Row X) (post : List (ℕ × X)) → (is_some (value_of r) && is_after after (number_of r)) ≡ true
      → (x : X) × (entries_after after (with_row r post) ≡ (number_of r, x) ∷ entries_after after post)
  first_of after (Empty n) post above = absurd cc
  first_of after (Full n x) post above = (x, ap (λ t. cond t ((n, x) ∷ entries_after after post) (entries_after after post)) above)

  -- the first row with a value above the number is what comes next
  pub stops : (after : Option ℕ) (rows : List (Row X)) (i : ℕ) (r : Row X) → IsStrictlySortedBy nat_cmp (numbers rows) → i < length rows → r ≡ get_or rows i r
      → (is_some (value_of r) && is_after after (number_of r)) ≡ true → entries_after after (live_rows (take i rows)) ≡ []
      → IsSomeAnd (value_at (live_rows rows) (number_of r)) (λ value. entries_after after (live_rows rows) ≡ (number_of r, value) ∷ entries_after (Some (number_of r)) (live_rows rows))
  stops after rows i r sorted lt here above none =
      let first = first_of after r (live_rows (drop (suc i) rows)) above in
      walks after (live_rows rows) (number_of r) first.0 (entries_after after (live_rows (drop (suc i) rows))) (sorted_live rows sorted)
      (ap (entries_after after) (live_split rows i r lt ∙ ap (λ (q : Row X). live_rows (take i rows) ++ with_row q (live_rows (drop (suc i) rows))) (sym here))
      ∙ after-append after (live_rows (take i rows)) (with_row r (live_rows (drop (suc i) rows)))
      ∙ ap (λ (l : List (ℕ × X)). l ++ entries_after after (with_row r (live_rows (drop (suc i) rows)))) none
      ∙ first.1)

  -- the same, where the row's number is known by another name
  pub stops_at : (after : Option ℕ) (rows : List (Row X)) (i n : ℕ) (r : Row X) → IsStrictlySortedBy nat_cmp (numbers rows) → i < length rows → r ≡ get_or rows i r
      → (is_some (value_of r) && is_after after (number_of r)) ≡ true → entries_after after (live_rows (take i rows)) ≡ [] → n ≡ number_of r
      → IsSomeAnd (value_at (live_rows rows) n) (λ value. entries_after after (live_rows rows) ≡ (n, value) ∷ entries_after (Some n) (live_rows rows))
  stops_at after rows i n r sorted lt here above none e =
      subst (λ k. IsSomeAnd (value_at (live_rows rows) k) (λ value. entries_after after (live_rows rows) ≡ (k, value) ∷ entries_after (Some k) (live_rows rows))) (sym e)
      (stops after rows i r sorted lt here above none)
