-- What a table and the sum over its values become where a value is written, comes or goes.
use Rattle.std.proofs.Common.{◌≡◌, refl, ap, ◌∙◌, sym, ℕ, ◌+◌, ◌≤◌, List, [], ◌∷◌, Bool, true, false, cond, arith}
use Rattle.std.specs.Prelude.{Option, Some, None, unwrap_or}
use Rattle.std.specs.Option.{option_map}
use Rattle.std.specs.Ordering.{nat_cmp, is_eq, match_ordering}
use Rattle.std.specs.declared.cmp.Ordering.{Ordering}
use Rattle.std.specs.declared.cmp.Ordering.TheVariants.{Less, Equal, Greater}
use Rattle.std.specs.BTreeMap.{is_at}
use Rattle.std.specs.List.{sum_by}
use Rattle.std.specs.Map.{values_of}
use Rattle.std.proofs.lemmas.Map.Entries.{sum_by-remove_entry}
use Rattle.std.proofs.lemmas.List.Sums.{sum_by-cons}
use Rattle.sentry_plain.specs.Tables.{value_at, replace_at, put, without}

module _ {X : Type 0} where
  changed_same-at : (b : Bool) (e : ℕ × X) (es rest : List (ℕ × X)) (o : Option X) (x : X)
      → cond b (Some e.1) o ≡ Some x → (o ≡ Some x → rest ≡ es) → cond b ((e.0, x) ∷ es) (e ∷ rest) ≡ e ∷ es
  changed_same-at true e es rest o x h same = let v : x ≡ e.1 = cc in ap (λ y. (e.0, y) ∷ es) v
  changed_same-at false e es rest o x h same = ap (λ l. e ∷ l) (same h)

  -- a value that is written as it stands changes nothing
  pub changed_same : (m : List (ℕ × X)) (n : ℕ) (x : X) → value_at m n ≡ Some x → replace_at m n x ≡ m
  changed_same [] n x h = refl
  changed_same (e ∷ es) n x h = changed_same-at (is_at (nat_cmp n) e.0) e es (replace_at es n x) (value_at es n) x h (changed_same es n x)

  -- where no entry is one of a number, none of the later ones is
  pub later_absent : (b : Bool) (x : X) (o : Option X) → cond b (Some x) o ≡ None → o ≡ None
  later_absent true x o h = cc
  later_absent false x o h = h

  sum_put-at : (weigh : X → ℕ) (o : Ordering) (e : ℕ × X) (es : List (ℕ × X)) (number : ℕ) (x : X)
      → nat_cmp number e.0 ≡ o → value_at (e ∷ es) number ≡ None
      → sum_by weigh (values_of (put es number x)) ≡ sum_by weigh (values_of es) + weigh x
      → sum_by weigh (values_of (match_ordering o ((number, x) ∷ e ∷ es) ((e.0, x) ∷ es) (e ∷ put es number x)))
      ≡ sum_by weigh (values_of (e ∷ es)) + weigh x
  sum_put-at weigh Less e es number x q h rest =
      let first = sum_by-cons weigh x (values_of (e ∷ es)) in omega arith
  sum_put-at weigh Equal e es number x q h rest =
      let found : Some e.1 ≡ None = ap (λ (o : Ordering). cond (is_eq o) (Some e.1) (value_at es number)) (sym q) ∙ h in cc
  sum_put-at weigh Greater e es number x q h rest =
      let first = sum_by-cons weigh e.1 (values_of (put es number x)) in
      let all = sum_by-cons weigh e.1 (values_of es) in omega arith

  -- the sum over the values once there is one more
  pub sum_put : (weigh : X → ℕ) (entries : List (ℕ × X)) (number : ℕ) (x : X) → value_at entries number ≡ None
      → sum_by weigh (values_of (put entries number x)) ≡ sum_by weigh (values_of entries) + weigh x
  sum_put weigh [] number x h = sum_by-cons weigh x [] ∙ omega arith
  sum_put weigh (e ∷ es) number x h =
      sum_put-at weigh (nat_cmp number e.0) e es number x refl h
      (sum_put weigh es number x (later_absent (is_at (nat_cmp number) e.0) e.1 (value_at es number) h))

  weight_at : (X → ℕ) → Option X → ℕ
  weight_at weigh o = unwrap_or (option_map weigh o) 0

  -- the sum over the values once one is gone
  pub sum_without : (weigh : X → ℕ) (entries : List (ℕ × X)) (number : ℕ) (x : X) → value_at entries number ≡ Some x
      → sum_by weigh (values_of (without entries number)) + weigh x ≡ sum_by weigh (values_of entries)
  unfolding weight_at
  sum_without weigh entries number x h =
      let sums = sum_by-remove_entry weigh (is_at (nat_cmp number)) entries in
      let there : weight_at weigh (value_at entries number) ≡ weigh x = ap (weight_at weigh) h in
      omega arith

  -- nothing goes where nothing stands
  pub sum_without_none : (weigh : X → ℕ) (entries : List (ℕ × X)) (number : ℕ) → value_at entries number ≡ None
      → sum_by weigh (values_of (without entries number)) ≡ sum_by weigh (values_of entries)
  unfolding weight_at
  sum_without_none weigh entries number h =
      let sums = sum_by-remove_entry weigh (is_at (nat_cmp number)) entries in
      let there : weight_at weigh (value_at entries number) ≡ 0 = ap (weight_at weigh) h in
      omega arith

  -- one value weighs no more than all
  pub weighs_at_most : (weigh : X → ℕ) (entries : List (ℕ × X)) (number : ℕ) (x : X) → value_at entries number ≡ Some x
      → weigh x ≤ sum_by weigh (values_of entries)
  weighs_at_most weigh entries number x h = let sums = sum_without weigh entries number x h in omega arith
