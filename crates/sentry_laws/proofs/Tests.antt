-- Whether something in a table passes a test, after a change of the table.
use Rattle.std.proofs.Common.{◌≡◌, ◌+◌, refl, ap, ◌∙◌, sym, ℕ, List, [], ◌∷◌, ◌++◌, Bool, true, false, cond}
use Rattle.std.proofs.lemmas.Bool.{or_parts, or_right}
use Rattle.std.specs.Prelude.{Some, ◌||◌}
use Rattle.std.specs.List.{list_any}
use Rattle.std.specs.declared.cmp.Ordering.{Ordering}
use Rattle.std.specs.Ordering.{match_ordering, nat_cmp}
use Rattle.std.specs.BTreeMap.{is_at}
use Rattle.sentry_plain.specs.Tables.{value_at, put, replace_at, without}
use Rattle.sentry_laws.proofs.Tables.{AreBelow, above}

pub or_none : (b : Bool) → (b || false) ≡ b
or_none true = refl
or_none false = refl

pub or_more : (a b c : Bool) → (a || (b || c)) ≡ ((a || b) || c)
or_more true b c = refl
or_more false b c = refl

or_first : (a b c : Bool) → (a ≡ true → b ≡ true) → (a || c) ≡ true → (b || c) ≡ true
or_first true b c more h = ap (λ d. d || c) (more refl)
or_first false b c more h = or_right b c h

pub or_rest : (a b c : Bool) → (b ≡ true → c ≡ true) → (a || b) ≡ true → (a || c) ≡ true
or_rest true b c more h = refl
or_rest false b c more h = more h

-- what none of two lists has, neither of them has
module _ {X : Type 0} (test : X → Bool) where
  pub any_first : (xs ys : List X) → list_any test (xs ++ ys) ≡ false → list_any test xs ≡ false
  any_first [] ys h = refl
  any_first (x ∷ xs) ys h =
      ap (λ b. b || list_any test xs) (or_parts (test x) _ h).0 ∙ any_first xs ys (or_parts (test x) _ h).1

  pub any_second : (xs ys : List X) → list_any test (xs ++ ys) ≡ false → list_any test ys ≡ false
  any_second [] ys h = h
  any_second (x ∷ xs) ys h = any_second xs ys (or_parts (test x) _ h).1

module _ {X : Type 0} (test : X → Bool) where
  -- a value of the table passes the test
  abbrev pub passes : List (ℕ × X) → Bool
  passes m = list_any (λ entry. test entry.1) m

  put-above : (low next : ℕ) (x : X) (m : List (ℕ × X)) → AreBelow low next m → passes (put m next x) ≡
      (passes m || test x)
  put-above low next x [] b = or_none (test x)
  put-above low next x (e ∷ es) b =
      ap (λ (o : Ordering). passes (match_ordering o ((next, x) ∷ e ∷ es) ((e.0, x) ∷ es) (e ∷ put es next x)))
      (above next e.0 b.1)
      ∙ (ap (λ c. test e.1 || c) (put-above (e.0 + 1) next x es b.2) ∙ or_more (test e.1) (passes es) (test x))

  -- one value more, under the next number
  pub passes_put : (next : ℕ) (x : X) (m : List (ℕ × X)) → AreBelow 0 next m → passes (put m next x) ≡
      (passes m || test x)
  passes_put next x m b = put-above 0 next x m b

  replaced-at : (b : Bool) (e : ℕ × X) (es : List (ℕ × X)) (n : ℕ) (x y : X) → cond b (Some e.1) (value_at es n)
      ≡ Some y → test x ≡ test y
      → (value_at es n ≡ Some y → passes (replace_at es n x) ≡ passes es)
      → passes (cond b ((e.0, x) ∷ es) (e ∷ replace_at es n x)) ≡ passes (e ∷ es)
  replaced-at true e es n x y found same rest = let here : e.1 ≡ y =
      cc in ap (λ c. c || passes es) (same ∙ sym (ap test here))
  replaced-at false e es n x y found same rest = ap (λ c. test e.1 || c) (rest found)

  -- another value that passes the test where the old one does
  pub passes_replaced : (m : List (ℕ × X)) (n : ℕ) (x y : X) → value_at m n ≡ Some y → test x ≡ test y
      → passes (replace_at m n x) ≡ passes m
  passes_replaced [] n x y found same = refl
  passes_replaced (e ∷ es) n x y found same = replaced-at (is_at (nat_cmp n) e.0) e es n x y found same
      (λ f. passes_replaced es n x y f same)

  raised-at : (b : Bool) (e : ℕ × X) (es : List (ℕ × X)) (n : ℕ) (x y : X) → cond b (Some e.1) (value_at es n) ≡ Some y
      → (test y ≡ true → test x ≡ true) → passes (e ∷ es) ≡ true
      → (value_at es n ≡ Some y → passes es ≡ true → passes (replace_at es n x) ≡ true)
      → passes (cond b ((e.0, x) ∷ es) (e ∷ replace_at es n x)) ≡ true
  raised-at true e es n x y found more h rest =
      let here : e.1 ≡ y = cc in
      or_first (test e.1) (test x) (passes es) (λ t. more (sym (ap test here) ∙ t)) h
  raised-at false e es n x y found more h rest =
      or_rest (test e.1) (passes es) (passes (replace_at es n x)) (rest found) h

  -- another value that passes the test if the old one does
  pub passes_raised : (m : List (ℕ × X)) (n : ℕ) (x y : X) → value_at m n ≡ Some y → (test y ≡ true → test x ≡ true)
      → passes m ≡ true → passes (replace_at m n x) ≡ true
  passes_raised [] n x y found more h = h
  passes_raised (e ∷ es) n x y found more h = raised-at (is_at (nat_cmp n) e.0) e es n x y found more h
      (λ f. passes_raised es n x y f more)

  without-at : (b : Bool) (e : ℕ × X) (es : List (ℕ × X)) (n : ℕ) (y : X) → cond b (Some e.1) (value_at es n) ≡ Some y
      → test y ≡ false
      → (value_at es n ≡ Some y → passes (without es n) ≡ passes es)
      → passes (cond b es (e ∷ without es n)) ≡ passes (e ∷ es)
  without-at true e es n y found fails rest = let here : e.1 ≡ y =
      cc in ap (λ c. c || passes es) (sym (ap test here ∙ fails))
  without-at false e es n y found fails rest = ap (λ c. test e.1 || c) (rest found)

  -- a value less, which doesn't pass the test
  pub passes_without : (m : List (ℕ × X)) (n : ℕ) (y : X) → value_at m n ≡ Some y → test y ≡ false
      → passes (without m n) ≡ passes m
  passes_without [] n y found fails = refl
  passes_without (e ∷ es) n y found fails = without-at (is_at (nat_cmp n) e.0) e es n y found fails
      (λ f. passes_without es n y f fails)

  found-at : (b : Bool) (e : ℕ × X) (es : List (ℕ × X)) (n : ℕ) (y : X) → cond b (Some e.1) (value_at es n) ≡ Some y
      → test y ≡ true
      → (value_at es n ≡ Some y → passes es ≡ true) → passes (e ∷ es) ≡ true
  found-at true e es n y found holds rest = let here : e.1 ≡ y = cc in ap (λ c. c || passes es) (ap test here ∙ holds)
  found-at false e es n y found holds rest = or_right (test e.1) (passes es) (rest found)

  -- a value that is found passes the test
  pub passes_found : (m : List (ℕ × X)) (n : ℕ) (y : X) → value_at m n ≡ Some y → test y ≡ true → passes m ≡ true
  passes_found [] n y found holds = absurd cc
  passes_found (e ∷ es) n y found holds = found-at (is_at (nat_cmp n) e.0) e es n y found holds
      (λ f. passes_found es n y f holds)

  fails-at : (b : Bool) (y : X) → passes [] ≡ false → b ≡ test y → (b ≡ true → true ≡ false) → test y ≡ false
  fails-at true y e is h = absurd (let f : true ≡ false = h refl in cc)
  fails-at false y e is h = sym is

  -- no value that is found passes the test where none does
  pub fails_found : (m : List (ℕ × X)) (n : ℕ) (y : X) → value_at m n ≡ Some y → passes m ≡ false → test y ≡ false
  fails_found m n y found none = fails-at (test y) y refl refl (λ is. sym (passes_found m n y found is) ∙ none)
