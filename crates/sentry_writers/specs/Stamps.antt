-- The names of the files of a spool.
use Rattle.std.specs.Prelude.{◌≡◌, ℕ, zero, suc, ◌+◌, ◌/◌, ◌%◌, ◌≤◌, [], ◌∷◌, ◌++◌, codes}
use Rattle.sentry_plain.specs.Texts.{Bytes}
use Rattle.sentry_writers.specs.declared.stamps.Stamp.{Stamp}

-- the last so many decimal digits of a number
unfoldable pub digits : ℕ → ℕ → Bytes
digits zero n = []
digits (suc width) n = digits width (n / 10) ++ (48 + n % 10) ∷ []

abbrev pub stamp_text : Stamp → Bytes
stamp_text stamp = digits 20 stamp.moment ++ 45 ∷ digits 20 stamp.count

abbrev pub file_name : Stamp → Bytes
file_name stamp = stamp_text stamp ++ codes ".envelope"

abbrev pub partial_name : Stamp → Bytes
partial_name stamp = stamp_text stamp ++ codes ".part"

-- a stamp that comes next after another
abbrev pub IsNext : Stamp → Stamp → Type 0
IsNext stamp next = (stamp.moment ≤ next.moment) × (next.count ≡ stamp.count + 1)
