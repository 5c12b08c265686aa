-- Rows of a table, of which some have no value any more.
use Rattle.std.specs.Prelude.{◌≡◌, ℕ, ◌+◌, ◌<◌, ◌≤◌, List, [], ◌∷◌, Option, None, Some, length, map, slice_index_or}
use Rattle.std.specs.List.Sorted.{IsStrictlySortedBy}
use Rattle.std.specs.Ordering.{nat_cmp}
use Rattle.std.specs.declared.cmp.Ordering.TheVariants.{Less}
use Rattle.sentry_plain.specs.declared.table.rows.Row.{Row}
use Rattle.sentry_plain.specs.declared.table.rows.Row.TheVariants.{Empty, Full}

module _ {X : Type 0} where
  abbrev pub number_of : Row X → ℕ
  number_of (Empty number) = number
  number_of (Full number value) = number

  abbrev pub value_of : Row X → Option X
  value_of (Empty number) = None
  value_of (Full number value) = Some value

  -- the row before these entries, if it has a value
  abbrev pub with_row : Row X → List (ℕ × X) → List (ℕ × X)
  with_row (Empty number) rows = rows
  with_row (Full number value) rows = (number, value) ∷ rows

  -- the rows that have a value
  abbrev pub live_rows : List (Row X) → List (ℕ × X)
  live_rows [] = []
  live_rows (row ∷ rows) = with_row row (live_rows rows)

  abbrev pub numbers : List (Row X) → List ℕ
  numbers rows = map number_of rows

  -- the numbers rise, and this is how many rows have a value
  pub record IsTable (rows : List (Row X)) (full : ℕ) : Type 0 where
    pub order : IsStrictlySortedBy nat_cmp (numbers rows)
    pub count : full ≡ length (live_rows rows)

  -- the row at this place is the number's
  pub record IsRowOf (rows : List (Row X)) (number place : ℕ) : Type 0 where
    pub inside : place < length rows
    pub same : (d : Row X) → number_of (slice_index_or rows place d) ≡ number

  -- the number has no row, and its row would be at this place
  pub record IsRowGap (rows : List (Row X)) (number place : ℕ) : Type 0 where
    pub inside : place ≤ length rows
    pub before : (j : ℕ) (d : Row X) → j < place → nat_cmp (number_of (slice_index_or rows j d)) number ≡ Less
    pub after : (j : ℕ) (d : Row X) → place ≤ j → j < length rows → nat_cmp number (number_of (slice_index_or rows j d)) ≡ Less

  -- how many rows have a value, if this one gets one
  abbrev pub count_with : Row X → ℕ → ℕ
  count_with (Empty number) full = full + 1
  count_with (Full number value) full = full

  -- a clone has the number, and a clone of the value
  abbrev pub IsRowClone : (X → X → Type 0) → Row X → Row X → Type 0
  IsRowClone is_clone (Empty number) copy = copy ≡ Empty number
  IsRowClone is_clone (Full number value) copy = (other : X) × (copy ≡ Full number other) × is_clone value other
