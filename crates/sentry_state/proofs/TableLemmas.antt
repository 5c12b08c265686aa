-- Tables whose values are replaced more than once.
use Rattle.std.proofs.Common.{◌≡◌, refl, ap, ◌∙◌, ℕ, List, [], ◌∷◌, Bool, true, false, cond, Option, Some, None}
use Rattle.std.specs.Prelude.{is_some}
use Rattle.std.specs.BTreeMap.{is_at}
use Rattle.std.specs.Ordering.{nat_cmp}
use Rattle.sentry_plain.specs.Tables.{value_at, replace_at, without}

module _ {X : Type 0} (n : ℕ) where
  value_replaced-at : (b : Bool) (e : ℕ × X) (es : List (ℕ × X)) (x y : X) → is_at (nat_cmp n) e.0 ≡ b
      → cond b (Some e.1) (value_at es n) ≡ Some y → (value_at es n ≡ Some y → value_at (replace_at es n x) n ≡ Some x)
      → value_at (cond b ((e.0, x) ∷ es) (e ∷ replace_at es n x)) n ≡ Some x
  value_replaced-at true e es x y q h rest = ap (λ b. cond b (Some x) (value_at es n)) q
  value_replaced-at false e es x y q h rest = ap (λ b. cond b (Some e.1) (value_at (replace_at es n x) n)) q ∙ rest h

  -- what was written is found
  pub value_replaced : (m : List (ℕ × X)) (x y : X) → value_at m n ≡ Some y → value_at (replace_at m n x) n ≡ Some x
  value_replaced [] x y h = cc
  value_replaced (e ∷ es) x y h = value_replaced-at (is_at (nat_cmp n) e.0) e es x y refl h (value_replaced es x y)

  held_replaced-at : (m : List (ℕ × X)) (x : X) (found : Option X) → value_at m n ≡ found → is_some found ≡ true
      → is_some (value_at (replace_at m n x) n) ≡ true
  held_replaced-at m x (Some y) q h = ap is_some (value_replaced m x y q)
  held_replaced-at m x None q h = absurd cc

  -- where something stood, something stands once it was written
  pub held_replaced : (m : List (ℕ × X)) (x : X) → is_some (value_at m n) ≡ true
      → is_some (value_at (replace_at m n x) n) ≡ true
  held_replaced m x h = held_replaced-at m x (value_at m n) refl h

  replaced_twice-at : (b : Bool) (e : ℕ × X) (es : List (ℕ × X)) (x y : X) → is_at (nat_cmp n) e.0 ≡ b
      → replace_at (replace_at es n x) n y ≡ replace_at es n y
      → replace_at (cond b ((e.0, x) ∷ es) (e ∷ replace_at es n x)) n y ≡ cond b ((e.0, y) ∷ es) (e ∷ replace_at es n y)
  replaced_twice-at true e es x y q rest = ap (λ b. cond b ((e.0, y) ∷ es) ((e.0, x) ∷ replace_at es n y)) q
  replaced_twice-at false e es x y q rest =
      ap (λ b. cond b ((e.0, y) ∷ replace_at es n x) (e ∷ replace_at (replace_at es n x) n y)) q ∙ ap (λ l. e ∷ l) rest

  -- the last write counts
  pub replaced_twice : (m : List (ℕ × X)) (x y : X) → replace_at (replace_at m n x) n y ≡ replace_at m n y
  replaced_twice [] x y = refl
  replaced_twice (e ∷ es) x y = replaced_twice-at (is_at (nat_cmp n) e.0) e es x y refl (replaced_twice es x y)

  without_replaced-at : (b : Bool) (e : ℕ × X) (es : List (ℕ × X)) (x : X) → is_at (nat_cmp n) e.0 ≡ b
      → without (replace_at es n x) n ≡ without es n
      → without (cond b ((e.0, x) ∷ es) (e ∷ replace_at es n x)) n ≡ cond b es (e ∷ without es n)
  without_replaced-at true e es x q rest = ap (λ b. cond b es ((e.0, x) ∷ without es n)) q
  without_replaced-at false e es x q rest =
      ap (λ b. cond b (replace_at es n x) (e ∷ without (replace_at es n x) n)) q ∙ ap (λ l. e ∷ l) rest

  -- what is removed need not have been written
  pub without_replaced : (m : List (ℕ × X)) (x : X) → without (replace_at m n x) n ≡ without m n
  without_replaced [] x = refl
  without_replaced (e ∷ es) x = without_replaced-at (is_at (nat_cmp n) e.0) e es x refl (without_replaced es x)
