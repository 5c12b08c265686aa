-- Folders within their limits.
use Rattle.std.proofs.Common.{◌≡◌, refl, subst, ℕ, ◌+◌, ◌≤◌, leb, Bool, true, false, ◌&&◌, arith}
use Rattle.std.specs.Prelude.{Some, None, if◌then◌else◌}
use Rattle.std.proofs.lemmas.Bool.Decides.{nat_tests}
use Rattle.std.proofs.lemmas.Option.{none-some}
use Rattle.sentry_writers.specs.declared.folder.Usage.{Usage}
use Rattle.sentry_writers.specs.Usages.{and_file, with_file, IsWithin}

le_of : (a b : ℕ) → leb a b ≡ true → a ≤ b
le_of a b h = grind (arith, nat_tests)

pub within : (limits : Usage) (length : ℕ) (usage after : Usage) → with_file limits length usage ≡ Some after → IsWithin limits length after
within limits length usage after =
    by (leb (usage.files + 1) limits.files) (leb (usage.bytes + length) limits.bytes) (le_of (usage.files + 1) limits.files) (le_of (usage.bytes + length) limits.bytes) where
      by : (a b : Bool) → (a ≡ true → usage.files + 1 ≤ limits.files) → (b ≡ true → usage.bytes + length ≤ limits.bytes)
          → (if a && b then Some (and_file length usage) else None) ≡ Some after → IsWithin limits length after
      by true true f g e =
          let same : and_file length usage ≡ after = cc in
          let long : length ≤ usage.bytes + length = omega arith in subst (IsWithin limits length) same (f refl, g refl, long)
      by true false f g e = absurd (none-some after e)
      by false b f g e = absurd (none-some after e)
