-- How many records name each number.
use Rattle.std.specs.Prelude.{◌≡◌, ℕ, ◌+◌, ◌==◌, Bool, false, Option, Some, None, unwrap_or, cond, List}
use Rattle.std.specs.List.{sum_by}
use Rattle.std.specs.Map.{values_of}
use Rattle.sentry_plain.specs.Tables.{value_at}

-- 1 where the test holds
abbrev pub one_if : Bool → ℕ
one_if b = cond b 1 0

-- what stands at a number; without an entry 0
abbrev pub count_at : List (ℕ × ℕ) → ℕ → ℕ
count_at counts n = unwrap_or (value_at counts n) 0

-- something is named, and it is this number
abbrev pub is_number : ℕ → Option ℕ → Bool
is_number n None = false
is_number n (Some named) = named == n

-- what stands at each number says how many of the records name it
pub record Counts {X : Type 0} (name : X → Option ℕ) (counts : List (ℕ × ℕ)) (entries : List (ℕ × X)) : Type 0 where
  pub each : (n : ℕ) → count_at counts n ≡ sum_by (λ x. one_if (is_number n (name x))) (values_of entries)

-- one more is counted at this number, if any
pub record Raises (old new : List (ℕ × ℕ)) (name : Option ℕ) : Type 0 where
  pub each : (n : ℕ) → count_at new n ≡ count_at old n + one_if (is_number n name)

-- one less is counted at this number, if any
pub record Lowers (old new : List (ℕ × ℕ)) (name : Option ℕ) : Type 0 where
  pub each : (n : ℕ) → count_at old n ≡ count_at new n + one_if (is_number n name)
