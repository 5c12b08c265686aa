-- Tables whose numbers increase, with no bound, and what is found in them after a change.
use Rattle.std.proofs.Common.{◌≡◌, ◌<◌, ◌≤◌, ◌+◌, refl, ap, ◌∙◌, ℕ, List, [], ◌∷◌, Bool, true, false, cond, arith}
use Rattle.std.proofs.lemmas.Bool.Decides.{nat_tests}
use Rattle.std.specs.Prelude.{Some, None, if◌then◌else◌, ◌==◌}
use Rattle.std.specs.declared.cmp.Ordering.{Ordering}
use Rattle.std.specs.declared.cmp.Ordering.TheVariants.{Less, Equal, Greater}
use Rattle.std.specs.Ordering.{match_ordering, nat_cmp}
use Rattle.std.specs.BTreeMap.{is_at}
use Rattle.sentry_plain.specs.Tables.{value_at, put, replace_at, without}
use Rattle.sentry_plain.proofs.NumberLemmas.{same_number}
use Rattle.sentry_laws.proofs.Found.{other_number}
use Rattle.sentry_laws.proofs.Tables.{others_without, at_same}

lower_ : (a b : ℕ) → nat_cmp a b ≡ Less → a < b
lower_ a b e = grind (arith, nat_tests)

greater_ : (a b : ℕ) → nat_cmp a b ≡ Greater → b < a
greater_ a b e = grind (arith, nat_tests)

apart_at : (k n : ℕ) → k < n → is_at (nat_cmp k) n ≡ false
apart_at k n h = grind (arith, nat_tests)

module _ {X : Type 0} where
  -- the numbers increase from the low one on
  abbrev pub IsIncreasing : ℕ → List (ℕ × X) → Type 0
  IsIncreasing low [] = Unit {0}
  IsIncreasing low (e ∷ es) = (low ≤ e.0) × IsIncreasing (e.0 + 1) es

  weaker : (low high : ℕ) (m : List (ℕ × X)) → low ≤ high → IsIncreasing high m → IsIncreasing low m
  weaker low high [] h b = tt
  weaker low high (e ∷ es) h b = (omega (arith, b.0), b.1)

  put-at : (o : Ordering) (low n : ℕ) (x : X) (e : ℕ × X) (es : List (ℕ × X)) → nat_cmp n e.0 ≡ o → low ≤ n
      → IsIncreasing low (e ∷ es) → (e.0 + 1 ≤ n → IsIncreasing (e.0 + 1) (put es n x))
      → IsIncreasing low (match_ordering o ((n, x) ∷ e ∷ es) ((e.0, x) ∷ es) (e ∷ put es n x))
  put-at Less low n x e es q h b rest = let below = lower_ n e.0 q in (h, (omega (arith, below), b.1))
  put-at Equal low n x e es q h b rest = b
  put-at Greater low n x e es q h b rest = let above = greater_ n e.0 q in (b.0, rest (omega (arith, above)))

  pub increasing_put : (low n : ℕ) (x : X) (m : List (ℕ × X)) → low ≤ n → IsIncreasing low m
      → IsIncreasing low (put m n x)
  increasing_put low n x [] h b = (h, tt)
  increasing_put low n x (e ∷ es) h b =
      put-at (nat_cmp n e.0) low n x e es refl h b (λ k. increasing_put (e.0 + 1) n x es k b.1)

  replaced-at : (b : Bool) (low n : ℕ) (x : X) (e : ℕ × X) (es : List (ℕ × X)) → IsIncreasing low (e ∷ es)
      → IsIncreasing (e.0 + 1) (replace_at es n x) → IsIncreasing low (cond b ((e.0, x) ∷ es) (e ∷ replace_at es n x))
  replaced-at true low n x e es b rest = b
  replaced-at false low n x e es b rest = (b.0, rest)

  pub increasing_replaced : (low n : ℕ) (x : X) (m : List (ℕ × X)) → IsIncreasing low m
      → IsIncreasing low (replace_at m n x)
  increasing_replaced low n x [] b = tt
  increasing_replaced low n x (e ∷ es) b = replaced-at (is_at (nat_cmp n) e.0) low n x e es b
      (increasing_replaced (e.0 + 1) n x es b.1)

  without-at : (b : Bool) (low n : ℕ) (e : ℕ × X) (es : List (ℕ × X)) → IsIncreasing low (e ∷ es)
      → IsIncreasing (e.0 + 1) (without es n) → IsIncreasing low (cond b es (e ∷ without es n))
  without-at true low n e es b rest = weaker low (e.0 + 1) es (omega (arith, b.0)) b.1
  without-at false low n e es b rest = (b.0, rest)

  pub increasing_without : (low n : ℕ) (m : List (ℕ × X)) → IsIncreasing low m → IsIncreasing low (without m n)
  increasing_without low n [] b = tt
  increasing_without low n (e ∷ es) b =
      without-at (is_at (nat_cmp n) e.0) low n e es b (increasing_without (e.0 + 1) n es b.1)

  absent_ : (k low : ℕ) (m : List (ℕ × X)) → k < low → IsIncreasing low m → value_at m k ≡ None
  absent_ k low [] h b = refl
  absent_ k low (e ∷ es) h b =
      let below : k < e.0 = omega (arith, b.0) in
      ap (λ t. cond t (Some e.1) (value_at es k)) (apart_at k e.0 below) ∙ absent_ k (e.0 + 1) es (omega (arith, below))
      b.1

  gone-at : (b : Bool) (n : ℕ) (e : ℕ × X) (es : List (ℕ × X)) → is_at (nat_cmp n) e.0 ≡ b → IsIncreasing (e.0 + 1) es
      → value_at (without es n) n ≡ None → value_at (cond b es (e ∷ without es n)) n ≡ None
  gone-at true n e es q b rest = let same = at_same n e.0 q in absent_ n (e.0 + 1) es (omega (arith, same)) b
  gone-at false n e es q b rest = ap (λ t. cond t (Some e.1) (value_at (without es n) n)) q ∙ rest

  pub gone_ : (low n : ℕ) (m : List (ℕ × X)) → IsIncreasing low m → value_at (without m n) n ≡ None
  gone_ low n [] b = refl
  gone_ low n (e ∷ es) b = gone-at (is_at (nat_cmp n) e.0) n e es refl b.1 (gone_ (e.0 + 1) n es b.1)

  without_if-at : (b : Bool) (low n k : ℕ) (m : List (ℕ × X)) → IsIncreasing low m → (k == n) ≡ b
      → value_at (without m n) k ≡ (if b then None else value_at m k)
  without_if-at true low n k m i e = ap (value_at (without m n)) (same_number k n e) ∙ gone_ low n m i
  without_if-at false low n k m i e = others_without m n k (other_number k n e)

  pub without_if : (low n k : ℕ) (m : List (ℕ × X)) → IsIncreasing low m → value_at (without m n) k ≡
      (if k == n then None else value_at m k)
  without_if low n k m i = without_if-at (k == n) low n k m i refl
