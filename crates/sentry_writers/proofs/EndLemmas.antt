-- Texts without the bytes at their end that pass a test.
use Rattle.std.proofs.Common.{◌≡◌, refl, ap, ◌∙◌, sym, ℕ, suc, ◌-◌, ◌<◌, ◌≤◌, Bool, true, false, [], ◌∷◌, ◌++◌, length, take, get_or, reverse, arith}
use Rattle.std.proofs.Math.Seq.{take-suc}
use Rattle.std.proofs.lemmas.List.{reverse-append, reverse-reverse}
use Rattle.std.proofs.lemmas.Str.{IsCharBoundary-from_ascii, IsAscii-take}
use Rattle.std.specs.Prelude.{IsAscii, IsCharBoundary}
use Rattle.sentry_plain.specs.Texts.{Bytes}
use Rattle.sentry_writers.specs.DsnUrls.{without_front, without_end}

module _ (test : ℕ → Bool) where
  passes : (b : ℕ) (text : Bytes) → test b ≡ true → without_front test (b ∷ text) ≡ without_front test text
  passes b text h = rw h refl

  stops : (b : ℕ) (text : Bytes) → test b ≡ false → without_front test (b ∷ text) ≡ b ∷ text
  stops b text h = rw h refl

  -- one byte more at the end
  more : (text : Bytes) (b : ℕ) → test b ≡ true → without_end test (text ++ b ∷ []) ≡ without_end test text
  more text b h = ap (λ t. reverse (without_front test t)) (reverse-append text (b ∷ [])) ∙ ap reverse (passes b (reverse text) h)

  stays : (text : Bytes) (b : ℕ) → test b ≡ false → without_end test (text ++ b ∷ []) ≡ text ++ b ∷ []
  stays text b h =
      ap (λ t. reverse (without_front test t)) (reverse-append text (b ∷ [])) ∙ ap reverse (stops b (reverse text) h)
      ∙ ap reverse (sym (reverse-append text (b ∷ []))) ∙ reverse-reverse (text ++ b ∷ [])

  cut : (text : Bytes) (n : ℕ) → 0 < n → n ≤ length text → take n text ≡ take (n - 1) text ++ get_or text (n - 1) 0 ∷ []
  cut text n positive within =
      let e : n ≡ suc (n - 1) = omega arith in
      ap (λ k. take k text) e ∙ take-suc text (n - 1) 0 (omega arith)

  -- the loop's step, and where it ends
  pub one_less : (text : Bytes) (n : ℕ) → 0 < n → n ≤ length text → test (get_or text (n - 1) 0) ≡ true
      → without_end test (take n text) ≡ without_end test text → without_end test (take (n - 1) text) ≡ without_end test text
  one_less text n positive within h so_far =
      sym (ap (without_end test) (cut text n positive within) ∙ more (take (n - 1) text) (get_or text (n - 1) 0) h) ∙ so_far

  pub ends_there : (text : Bytes) (n : ℕ) → 0 < n → n ≤ length text → test (get_or text (n - 1) 0) ≡ false
      → without_end test (take n text) ≡ without_end test text → take n text ≡ without_end test text
  ends_there text n positive within h so_far =
      cut text n positive within ∙ sym (stays (take (n - 1) text) (get_or text (n - 1) 0) h)
      ∙ ap (without_end test) (sym (cut text n positive within)) ∙ so_far

-- a text of ASCII may be cut anywhere
pub ascii_boundary : (text : Bytes) (i : ℕ) → IsAscii text → i ≤ length text → IsCharBoundary text i
ascii_boundary = IsCharBoundary-from_ascii

pub ascii_take : (text : Bytes) (n : ℕ) → IsAscii text → IsAscii (take n text)
ascii_take = IsAscii-take
