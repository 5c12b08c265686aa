-- The order of names.
use Rattle.std.specs.Prelude.{◌≡◌, ℕ, ◌<◌, ◌∷◌, ◌++◌}
use Rattle.sentry_plain.specs.Texts.{Bytes}

-- at the first place where the names differ, the byte of one is the lesser
abbrev pub Precedes : Bytes → Bytes → Type 0
Precedes first second =
    (same : Bytes) × (a : ℕ) × (b : ℕ) × (more : Bytes) × (others : Bytes) × (first ≡ same ++ a ∷ more)
    × (second ≡ same ++ b ∷ others) × (a < b)
