-- Where a key stands in a list of entries, or where it would.
use Rattle.std.specs.Prelude.{◌≡◌, ℕ, ◌<◌, ◌≤◌, List, length, slice_index_or}
use Rattle.std.specs.declared.cmp.Ordering.{Ordering}
use Rattle.std.specs.declared.cmp.Ordering.TheVariants.{Less, Equal, Greater}

module _ {K X : Type 0} (cmp : K → K → Ordering) where
  -- the key is at this place
  pub record IsAt (l : List (K × X)) (k : K) (i : ℕ) : Type 0 where
    pub inside : i < length l
    pub equal : (d : K × X) → cmp (slice_index_or l i d).0 k ≡ Equal

  -- the key would be at this place
  pub record IsGap (l : List (K × X)) (k : K) (i : ℕ) : Type 0 where
    pub inside : i ≤ length l
    pub before : (j : ℕ) (d : K × X) → j < i → cmp (slice_index_or l j d).0 k ≡ Less
    pub after : (j : ℕ) (d : K × X) → i ≤ j → j < length l → cmp (slice_index_or l j d).0 k ≡ Greater
