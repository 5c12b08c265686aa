-- Entries in parts: lists, of which each goes on where the one before it ends.
use Rattle.std.specs.Prelude.{◌≡◌, ℕ, zero, suc, ◌<◌, Bool, false, List, [], ◌∷◌, ◌++◌, Option, None, Some, length, slice_index_or}
use Rattle.std.specs.List.{AllByRecursion}
use Rattle.std.specs.Map.{keys_of}
use Rattle.std.specs.Ordering.{is_lt}
use Rattle.std.specs.declared.cmp.Ordering.TheVariants.{Less, Greater}
use Rattle.sentry_plain.specs.Texts.{Bytes, text_cmp}

module _ {X : Type 0} where
  -- the entries of the parts, one part after another
  abbrev pub joined : List (List (Bytes × X)) → List (Bytes × X)
  joined [] = []
  joined (part ∷ parts) = part ++ joined parts

  -- none of the parts is empty
  abbrev pub AllFilled : List (List (Bytes × X)) → Type 0
  AllFilled parts = AllByRecursion (λ part. 0 < length part) parts

  -- whether the part's first key is above the key
  abbrev pub begins_after : Bytes → List (Bytes × X) → Bool
  begins_after k [] = false
  begins_after k (e ∷ es) = is_lt (text_cmp k e.0)

  -- all entries are below the key, or above it
  abbrev pub AllBelow : Bytes → List (Bytes × X) → Type 0
  AllBelow k es = AllByRecursion (λ j. text_cmp k j ≡ Greater) (keys_of es)

  abbrev pub AllAbove : Bytes → List (Bytes × X) → Type 0
  AllAbove k es = AllByRecursion (λ j. text_cmp k j ≡ Less) (keys_of es)

  -- the key belongs into the part at this place: the entries before it are below the key, those after it above
  abbrev pub BelongsAt : Bytes → List (List (Bytes × X)) → ℕ → Type 0
  BelongsAt k [] i = ⊥
  BelongsAt k (part ∷ parts) zero = AllAbove k (joined parts)
  BelongsAt k (part ∷ parts) (suc i) = AllBelow k part × BelongsAt k parts i

  -- the same, where the first part stands apart: it is the place None
  abbrev pub Belongs : Bytes → List (Bytes × X) → List (List (Bytes × X)) → Option ℕ → Type 0
  Belongs k first others None = BelongsAt k (first ∷ others) zero
  Belongs k first others (Some i) = BelongsAt k (first ∷ others) (suc i)

  -- the part at a place
  abbrev pub part_at : List (List (Bytes × X)) → ℕ → List (Bytes × X)
  part_at parts i = slice_index_or parts i []
