-- How numbers are tested and compared.
use Rattle.std.proofs.Common.{◌≡◌, ◌≢◌, refl, ap, ◌∙◌, sym, ℕ, ◌+◌, Bool, true, false, cond, arith, inl, inr}
use Rattle.std.specs.Prelude.{◌==◌, ◌||◌, nat_lt, ◌⊎◌}
use Rattle.std.specs.Ordering.{nat_cmp, is_eq}
use Rattle.std.specs.declared.cmp.Ordering.TheVariants.{Less, Equal, Greater}
use Rattle.std.specs.Cmp.{nat_cmp_is}
use Rattle.std.proofs.lemmas.Bool.Decides.{eqb_tells, nat_tests}

unequal : (b : Bool) → is_eq (cond b Less Greater) ≡ false
unequal true = refl
unequal false = refl

same-at : (a b : ℕ) → ((a == b) ≡ true) × (a ≡ b) ⊎ ((a == b) ≡ false) × (a ≢ b) → is_eq (nat_cmp a b) ≡ (a == b)
same-at a b (inl h) = ap is_eq (sym (nat_cmp_is a b Equal h.1)) ∙ sym h.0
same-at a b (inr h) = ap (λ e. is_eq (cond (nat_lt a b) Less (cond e Equal Greater))) h.0 ∙ unequal (nat_lt a b) ∙ sym h.0

-- numbers compare equal where they are the same
pub nat_cmp_same : (a b : ℕ) → is_eq (nat_cmp a b) ≡ (a == b)
nat_cmp_same a b = same-at a b (eqb_tells a b)

told : (a b : ℕ) → ((a == b) ≡ true) × (a ≡ b) ⊎ ((a == b) ≡ false) × (a ≢ b) → (a == b) ≡ true → a ≡ b
told a b (inl h) e = h.1
told a b (inr h) e = let clash : true ≡ false = sym e ∙ h.0 in cc

-- the test of numbers tells that they are the same
pub same_number : (a b : ℕ) → (a == b) ≡ true → a ≡ b
same_number a b = told a b (eqb_tells a b)

pub equal_to_itself : (n : ℕ) → (n == n) ≡ true
equal_to_itself n = grind (arith, nat_tests)

pub equal_turned : (a b : ℕ) → (a == b) ≡ (b == a)
equal_turned a b = grind (arith, nat_tests)

-- a sum is above 0 where one of its parts is
pub positive : (a b : ℕ) → nat_lt 0 (a + b) ≡ (nat_lt 0 a || nat_lt 0 b)
positive a b = grind (arith, nat_tests)
