-- What is found in tables after a change, as one equation for each change.
use Rattle.std.proofs.Common.{◌≡◌, ◌≢◌, ◌<◌, ◌+◌, refl, ap, ◌∙◌, subst, ℕ, List, [], ◌∷◌, Bool, true, false, cond, arith}
use Rattle.std.proofs.lemmas.Bool.Decides.{nat_tests}
use Rattle.std.specs.Prelude.{Option, Some, None, ◌==◌, if◌then◌else◌}
use Rattle.std.specs.BTreeMap.{is_at}
use Rattle.std.specs.Ordering.{nat_cmp}
use Rattle.sentry_plain.specs.Tables.{value_at, put, replace_at, without}
use Rattle.sentry_plain.proofs.NumberLemmas.{same_number}
use Rattle.sentry_laws.proofs.Tables.{AreBelow, own_put, others_put, own_replaced, others_replaced, gone, others_without}

pub other_number : (k n : ℕ) → (k == n) ≡ false → k ≢ n
other_number k n e = grind (arith, nat_tests)

module _ {X : Type 0} where
  -- what is found although something may be gone
  pub left_over : (b : Bool) (o : Option X) (x : X) → (if b then None else o) ≡ Some x → o ≡ Some x
  left_over true o x h = absurd cc
  left_over false o x h = h

  put-at : (b : Bool) (m : List (ℕ × X)) (n k : ℕ) (x : X) → (k == n) ≡ b → value_at (put m n x) k ≡
      (if b then Some x else value_at m k)
  put-at true m n k x e = ap (value_at (put m n x)) (same_number k n e) ∙ own_put m n x
  put-at false m n k x e = others_put m n k x (other_number k n e)

  pub found_put : (m : List (ℕ × X)) (n k : ℕ) (x : X) → value_at (put m n x) k ≡
      (if k == n then Some x else value_at m k)
  found_put m n k x = put-at (k == n) m n k x refl

  replaced-at : (b : Bool) (m : List (ℕ × X)) (n k : ℕ) (x old : X) → value_at m n ≡ Some old → (k == n) ≡ b
      → value_at (replace_at m n x) k ≡ (if b then Some x else value_at m k)
  replaced-at true m n k x old found e = ap (value_at (replace_at m n x)) (same_number k n e)
      ∙ own_replaced m n x old found
  replaced-at false m n k x old found e = others_replaced m n k x (other_number k n e)

  pub found_replaced : (m : List (ℕ × X)) (n k : ℕ) (x old : X) → value_at m n ≡ Some old → value_at (replace_at m n x)
      k ≡ (if k == n then Some x else value_at m k)
  found_replaced m n k x old found = replaced-at (k == n) m n k x old found refl

  without-at : (b : Bool) (low next : ℕ) (m : List (ℕ × X)) (n k : ℕ) → AreBelow low next m → (k == n) ≡ b
      → value_at (without m n) k ≡ (if b then None else value_at m k)
  without-at true low next m n k below e = ap (value_at (without m n)) (same_number k n e) ∙ gone low next n m below
  without-at false low next m n k below e = others_without m n k (other_number k n e)

  pub found_without : (low next : ℕ) (m : List (ℕ × X)) (n k : ℕ) → AreBelow low next m → value_at (without m n) k ≡
      (if k == n then None else value_at m k)
  found_without low next m n k below = without-at (k == n) low next m n k below refl

  -- what holds of the value that comes and of all others holds of each that is found
  pub all_by : (Q : X → Type 0) (b : Bool) (x y : X) (o : Option X) → Q x → ((z : X) → o ≡ Some z → Q z)
      → (if b then Some x else o) ≡ Some y → Q y
  all_by Q true x y o q h e = let same : x ≡ y = cc in subst Q same q
  all_by Q false x y o q h e = h y e

  pub all_without : (Q : X → Type 0) (b : Bool) (y : X) (o : Option X) → ((z : X) → o ≡ Some z → Q z)
      → (if b then None else o) ≡ Some y → Q y
  all_without Q true y o h e = absurd cc
  all_without Q false y o h e = h y e

-- a number that is found is below the next one
found-at : {X : Type 0} (b : Bool) (n next : ℕ) (e : ℕ × X) (o : Option X) (x : X) → is_at (nat_cmp n) e.0 ≡ b
    → e.0 < next → (o ≡ Some x → n < next) → cond b (Some e.1) o ≡ Some x → n < next
found-at true n next e o x q h rest found = grind (arith, nat_tests)
found-at false n next e o x q h rest found = rest found

pub found_below : {X : Type 0} (low next n : ℕ) (m : List (ℕ × X)) (x : X) → AreBelow low next m → value_at m n ≡ Some x
    → n < next
found_below low next n [] x b found = absurd cc
found_below low next n (e ∷ es) x b found = found-at (is_at (nat_cmp n) e.0) n next e (value_at es n) x refl b.1
    (found_below (e.0 + 1) next n es x b.2) found
