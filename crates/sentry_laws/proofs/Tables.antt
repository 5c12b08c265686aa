-- Tables whose numbers increase and stay below the next one, and what is found in them after a change.
use Rattle.std.proofs.Common.{◌≡◌, ◌≢◌, ◌<◌, ◌≤◌, ◌+◌, refl, ap, ◌∙◌, sym, subst, ℕ, List, [], ◌∷◌, Bool, true, false, cond, arith}
use Rattle.std.specs.Prelude.{Some, None, nat_eq}
use Rattle.std.specs.declared.cmp.Ordering.{Ordering}
use Rattle.std.specs.declared.cmp.Ordering.TheVariants.{Less, Equal, Greater}
use Rattle.std.specs.Ordering.{match_ordering, nat_cmp, is_eq}
use Rattle.std.specs.BTreeMap.{is_at}
use Rattle.std.proofs.lemmas.Bool.Decides.{nat_tests}
use Rattle.sentry_plain.specs.Tables.{value_at, put, replace_at, without}

pub key_is : (k n : ℕ) → is_at (nat_cmp k) n ≡ nat_eq k n
key_is k n = grind (arith, nat_tests)

pub eq_key : (k n : ℕ) → nat_eq k n ≡ true → k ≡ n
eq_key k n e = grind (arith, nat_tests)

pub own_key : (k : ℕ) → nat_eq k k ≡ true
own_key k = grind (arith, nat_tests)

pub is_own : (k : ℕ) → is_at (nat_cmp k) k ≡ true
is_own k = grind (arith, nat_tests)

pub not_at : (k n : ℕ) → k ≢ n → is_at (nat_cmp k) n ≡ false
not_at k n apart = grind (arith, nat_tests)

pub at_same : (k n : ℕ) → is_at (nat_cmp k) n ≡ true → k ≡ n
at_same k n e = grind (arith, nat_tests)

at_apart : (k n : ℕ) → is_at (nat_cmp k) n ≡ false → k ≢ n
at_apart k n e = grind (arith, nat_tests)

pub above : (k n : ℕ) → n < k → nat_cmp k n ≡ Greater
above k n h = grind (arith, nat_tests)

equal_at : (k n : ℕ) → nat_cmp k n ≡ Equal → k ≡ n
equal_at k n h = grind (arith, nat_tests)

module _ {X : Type 0} where
  -- the numbers increase from the low one on, and stay below the next one
  abbrev pub AreBelow : ℕ → ℕ → List (ℕ × X) → Type 0
  AreBelow low next [] = Unit {0}
  AreBelow low next (e ∷ es) = (low ≤ e.0) × (e.0 < next) × AreBelow (e.0 + 1) next es

  lower : (low high next : ℕ) (m : List (ℕ × X)) → low ≤ high → AreBelow high next m → AreBelow low next m
  lower low high next [] h b = tt
  lower low high next (e ∷ es) h b = (omega (arith, b.0), b.1, b.2)

  absent : (k low next : ℕ) (m : List (ℕ × X)) → k < low → AreBelow low next m → value_at m k ≡ None
  absent k low next [] h b = refl
  absent k low next (e ∷ es) h b =
      let apart : k < e.0 = omega (arith, b.0) in
      ap (λ b. cond b (Some e.1) (value_at es k)) (not_at k e.0 (λ q. absurd (omega (arith, q, apart))))
      ∙ absent k (e.0 + 1) next es (omega (arith, apart)) b.2

  put-above : (low next : ℕ) (x : X) (m : List (ℕ × X)) → low ≤ next → AreBelow low next m → AreBelow low (next + 1)
      (put m next x)
  put-above low next x [] h b = (h, omega arith, tt)
  put-above low next x (e ∷ es) h b =
      subst (λ (o : Ordering). AreBelow low (next + 1) (match_ordering o ((next, x) ∷ e ∷ es) ((e.0, x) ∷ es)
      (e ∷ put es next x))) (sym (above next e.0 b.1))
      (b.0, omega (arith, b.1), put-above (e.0 + 1) next x es (omega (arith, b.1)) b.2)

  -- a value under the next number
  pub below_put : (next : ℕ) (x : X) (m : List (ℕ × X)) → AreBelow 0 next m → AreBelow 0 (next + 1) (put m next x)
  below_put next x m b = put-above 0 next x m (omega arith) b

  replaced-at : (b : Bool) (low next n : ℕ) (x : X) (e : ℕ × X) (es : List (ℕ × X)) → AreBelow low next (e ∷ es)
      → AreBelow (e.0 + 1) next (replace_at es n x)
      → AreBelow low next (cond b ((e.0, x) ∷ es) (e ∷ replace_at es n x))
  replaced-at true low next n x e es b rest = b
  replaced-at false low next n x e es b rest = (b.0, b.1, rest)

  pub below_replaced : (low next n : ℕ) (x : X) (m : List (ℕ × X)) → AreBelow low next m
      → AreBelow low next (replace_at m n x)
  below_replaced low next n x [] b = tt
  below_replaced low next n x (e ∷ es) b = replaced-at (is_at (nat_cmp n) e.0) low next n x e es b
      (below_replaced (e.0 + 1) next n x es b.2)

  without-at : (b : Bool) (low next n : ℕ) (e : ℕ × X) (es : List (ℕ × X)) → AreBelow low next (e ∷ es)
      → AreBelow (e.0 + 1) next (without es n)
      → AreBelow low next (cond b es (e ∷ without es n))
  without-at true low next n e es b rest = lower low (e.0 + 1) next es (omega (arith, b.0)) b.2
  without-at false low next n e es b rest = (b.0, b.1, rest)

  pub below_without : (low next n : ℕ) (m : List (ℕ × X)) → AreBelow low next m → AreBelow low next (without m n)
  below_without low next n [] b = tt
  below_without low next n (e ∷ es) b = without-at (is_at (nat_cmp n) e.0) low next n e es b
      (below_without (e.0 + 1) next n es b.2)

  gone-at : (b : Bool) (low next n : ℕ) (e : ℕ × X) (es : List (ℕ × X)) → is_at (nat_cmp n) e.0 ≡ b
      → AreBelow low next (e ∷ es) → value_at (without es n) n ≡ None
      → value_at (cond b es (e ∷ without es n)) n ≡ None
  gone-at true low next n e es q b rest = let same = at_same n e.0 q in absent n (e.0 + 1) next es (omega (arith, same))
      b.2
  gone-at false low next n e es q b rest = ap (λ t. cond t (Some e.1) (value_at (without es n) n)) q ∙ rest

  -- what was removed is not found
  pub gone : (low next n : ℕ) (m : List (ℕ × X)) → AreBelow low next m → value_at (without m n) n ≡ None
  gone low next n [] b = refl
  gone low next n (e ∷ es) b = gone-at (is_at (nat_cmp n) e.0) low next n e es refl b (gone (e.0 + 1) next n es b.2)

  others-at : (b : Bool) (n k : ℕ) (e : ℕ × X) (es : List (ℕ × X)) → is_at (nat_cmp n) e.0 ≡ b → k ≢ n
      → value_at (without es n) k ≡ value_at es k
      → value_at (cond b es (e ∷ without es n)) k ≡ value_at (e ∷ es) k
  others-at true n k e es q apart rest =
      let same = at_same n e.0 q in
      sym (ap (λ t. cond t (Some e.1) (value_at es k)) (not_at k e.0 (λ p. apart (p ∙ sym same))))
  others-at false n k e es q apart rest = ap (cond (is_at (nat_cmp k) e.0) (Some e.1)) rest

  -- what is found under other numbers after a removal
  pub others_without : (m : List (ℕ × X)) (n k : ℕ) → k ≢ n → value_at (without m n) k ≡ value_at m k
  others_without [] n k apart = refl
  others_without (e ∷ es) n k apart = others-at (is_at (nat_cmp n) e.0) n k e es refl apart
      (others_without es n k apart)

  replaced_others-at : (b : Bool) (n k : ℕ) (x : X) (e : ℕ × X) (es : List (ℕ × X)) → is_at (nat_cmp n) e.0 ≡ b → k ≢ n
      → value_at (replace_at es n x) k ≡ value_at es k
      → value_at (cond b ((e.0, x) ∷ es) (e ∷ replace_at es n x)) k ≡ value_at (e ∷ es) k
  replaced_others-at true n k x e es q apart rest =
      let same = at_same n e.0 q in
      let other = not_at k e.0 (λ p. apart (p ∙ sym same)) in
      ap (λ t. cond t (Some x) (value_at es k)) other ∙ sym (ap (λ t. cond t (Some e.1) (value_at es k)) other)
  replaced_others-at false n k x e es q apart rest = ap (cond (is_at (nat_cmp k) e.0) (Some e.1)) rest

  pub others_replaced : (m : List (ℕ × X)) (n k : ℕ) (x : X) → k ≢ n → value_at (replace_at m n x) k ≡ value_at m k
  others_replaced [] n k x apart = refl
  others_replaced (e ∷ es) n k x apart = replaced_others-at (is_at (nat_cmp n) e.0) n k x e es refl apart
      (others_replaced es n k x apart)

  own_replaced-at : (b : Bool) (n : ℕ) (e : ℕ × X) (es : List (ℕ × X)) (x y : X) → is_at (nat_cmp n) e.0 ≡ b
      → cond b (Some e.1) (value_at es n) ≡ Some y → (value_at es n ≡ Some y → value_at (replace_at es n x) n ≡ Some x)
      → value_at (cond b ((e.0, x) ∷ es) (e ∷ replace_at es n x)) n ≡ Some x
  own_replaced-at true n e es x y q h rest = ap (λ b. cond b (Some x) (value_at es n)) q
  own_replaced-at false n e es x y q h rest = ap (λ b. cond b (Some e.1) (value_at (replace_at es n x) n)) q ∙ rest h

  -- what was written is found
  pub own_replaced : (m : List (ℕ × X)) (n : ℕ) (x y : X) → value_at m n ≡ Some y → value_at (replace_at m n x)
      n ≡ Some x
  own_replaced [] n x y h = cc
  own_replaced (e ∷ es) n x y h = own_replaced-at (is_at (nat_cmp n) e.0) n e es x y refl h (own_replaced es n x y)

  own_put-at : (o : Ordering) (n : ℕ) (x : X) (e : ℕ × X) (es : List (ℕ × X)) → nat_cmp n e.0 ≡ o
      → value_at (put es n x) n ≡ Some x
      → value_at (match_ordering o ((n, x) ∷ e ∷ es) ((e.0, x) ∷ es) (e ∷ put es n x)) n ≡ Some x
  own_put-at Less n x e es q rest = ap (λ b. cond b (Some x) (value_at (e ∷ es) n)) (is_own n)
  own_put-at Equal n x e es q rest = ap (λ (o : Ordering). cond (is_eq o) (Some x) (value_at es n)) q
  own_put-at Greater n x e es q rest = ap (λ (o : Ordering). cond (is_eq o) (Some e.1) (value_at (put es n x) n)) q
      ∙ rest

  pub own_put : (m : List (ℕ × X)) (n : ℕ) (x : X) → value_at (put m n x) n ≡ Some x
  own_put [] n x = ap (λ b. cond b (Some x) None) (is_own n)
  own_put (e ∷ es) n x = own_put-at (nat_cmp n e.0) n x e es refl (own_put es n x)

  others_put-at : (o : Ordering) (n k : ℕ) (x : X) (e : ℕ × X) (es : List (ℕ × X)) → nat_cmp n e.0 ≡ o → k ≢ n
      → value_at (put es n x) k ≡ value_at es k
      → value_at (match_ordering o ((n, x) ∷ e ∷ es) ((e.0, x) ∷ es) (e ∷ put es n x)) k ≡ value_at (e ∷ es) k
  others_put-at Less n k x e es q apart rest = ap (λ b. cond b (Some x) (value_at (e ∷ es) k)) (not_at k n apart)
  others_put-at Equal n k x e es q apart rest =
      let same = equal_at n e.0 q in
      let other = not_at k e.0 (λ p. apart (p ∙ sym same)) in
      ap (λ t. cond t (Some x) (value_at es k)) other ∙ sym (ap (λ t. cond t (Some e.1) (value_at es k)) other)
  others_put-at Greater n k x e es q apart rest = ap (cond (is_at (nat_cmp k) e.0) (Some e.1)) rest

  pub others_put : (m : List (ℕ × X)) (n k : ℕ) (x : X) → k ≢ n → value_at (put m n x) k ≡ value_at m k
  others_put [] n k x apart = ap (λ b. cond b (Some x) None) (not_at k n apart)
  others_put (e ∷ es) n k x apart = others_put-at (nat_cmp n e.0) n k x e es refl apart (others_put es n k x apart)

  -- nothing is found under the next number
  pub fresh : (next : ℕ) (m : List (ℕ × X)) (low : ℕ) → AreBelow low next m → value_at m next ≡ None
  fresh next [] low b = refl
  fresh next (e ∷ es) low b =
      ap (λ t. cond t (Some e.1) (value_at es next)) (not_at next e.0 (λ p. absurd (omega (arith, p, b.1))))
      ∙ fresh next es (e.0 + 1) b.2
