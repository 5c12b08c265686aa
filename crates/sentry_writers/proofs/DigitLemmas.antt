-- Digits, one after the others.
use Rattle.std.proofs.Common.{◌≡◌, sym, ap, ◌∙◌, ℕ, suc, ◌+◌, ◌-◌, ◌/◌, ◌%◌, ◌<◌, [], ◌∷◌, ◌++◌, append_assoc, arith}
use Rattle.std.proofs.lemmas.List.{append-nil}
use Rattle.sentry_plain.specs.Texts.{Bytes}
use Rattle.sentry_writers.specs.Stamps.{digits}

pub no_digits : (before : Bytes) (width n : ℕ) → width ≡ 0 → before ≡ before ++ digits width n
unfolding digits
no_digits before width n e = sym (ap (λ w. before ++ digits w n) e ∙ append-nil before)

pub more_digits : (before after : Bytes) (width n : ℕ) → 0 < width → after ≡ before ++ digits (width - 1) (n / 10)
    → after ++ (48 + n % 10) ∷ [] ≡ before ++ digits width n
unfolding digits
more_digits before after width n positive e =
    let w : width ≡ suc (width - 1) = omega arith in
    ap (λ (t : Bytes). t ++ (48 + n % 10) ∷ []) e ∙ append_assoc before (digits (width - 1) (n / 10)) ((48 + n % 10) ∷ [])
    ∙ ap (λ k. before ++ digits k n) (sym w)
