-- The clone of a table has its numbers, and its values if clones of these are equal to them.
use Rattle.std.proofs.Common.{◌≡◌, ℕ, suc, length, List, [], ◌∷◌, refl, sym, ap, ◌∙◌, subst}
use Rattle.std.specs.List.{AllZip}
use Rattle.std.specs.List.Sorted.{IsStrictlySortedBy}
use Rattle.std.specs.Ordering.{nat_cmp}
use Rattle.sentry_plain.specs.Rows.{number_of, with_row, live_rows, numbers, IsRowClone, IsTable}
use Rattle.sentry_plain.specs.declared.table.rows.Row.{Row}
use Rattle.sentry_plain.specs.declared.table.rows.Row.TheVariants.{Empty, Full}

module _ {X : Type 0} (D : X → X → Type 0) where
  number-clone : (r q : Row X) → IsRowClone D r q → number_of q ≡ number_of r
  number-clone (Empty n) q h = ap number_of h
  number-clone (Full n x) q h = ap number_of h.1

  numbers-clone : (rows copies : List (Row X)) → AllZip (IsRowClone D) rows copies → numbers copies ≡ numbers rows
  numbers-clone [] [] h = refl
  numbers-clone [] (q ∷ copies) h = absurd h
  numbers-clone (r ∷ rows) [] h = absurd h
  numbers-clone (r ∷ rows) (q ∷ copies) h = λ i. number-clone r q h.0 i ∷ numbers-clone rows copies h.1 i

  count-row : (r q : Row X) (k l : List (ℕ × X)) → IsRowClone D r q → length l ≡ length k → length (with_row q l) ≡ length (with_row r k)
  count-row (Empty n) q k l h e = ap (λ (s : Row X). length (with_row s l)) h ∙ e
  count-row (Full n x) q k l h e = ap (λ (s : Row X). length (with_row s l)) h.1 ∙ ap suc e

  count-clone : (rows copies : List (Row X)) → AllZip (IsRowClone D) rows copies → length (live_rows copies) ≡ length (live_rows rows)
  count-clone [] [] h = refl
  count-clone [] (q ∷ copies) h = absurd h
  count-clone (r ∷ rows) [] h = absurd h
  count-clone (r ∷ rows) (q ∷ copies) h = count-row r q (live_rows rows) (live_rows copies) h.0 (count-clone rows copies h.1)

  pub table-clone : (rows copies : List (Row X)) (full : ℕ) → AllZip (IsRowClone D) rows copies → IsTable rows full → IsTable copies full
  table-clone rows copies full h is = record {
    order = subst (IsStrictlySortedBy nat_cmp) (sym (numbers-clone rows copies h)) is.order;
    count = is.count ∙ sym (count-clone rows copies h);
  }

  module _ (same : (x y : X) → D x y → y ≡ x) where
    row-same : (r q : Row X) → IsRowClone D r q → q ≡ r
    row-same (Empty n) q h = h
    row-same (Full n x) q h = h.1 ∙ ap (Full n) (same x h.0 h.2)

    pub rows-same : (rows copies : List (Row X)) → AllZip (IsRowClone D) rows copies → copies ≡ rows
    rows-same [] [] h = refl
    rows-same [] (q ∷ copies) h = absurd h
    rows-same (r ∷ rows) [] h = absurd h
    rows-same (r ∷ rows) (q ∷ copies) h = λ i. row-same r q h.0 i ∷ rows-same rows copies h.1 i
