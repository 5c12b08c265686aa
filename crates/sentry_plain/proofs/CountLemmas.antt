-- What is counted at each number after one comes or goes.
use Rattle.std.proofs.Common.{◌≡◌, refl, ap, ◌∙◌, sym, ℕ, ◌+◌, ◌-◌, ◌<◌, List, [], ◌∷◌, Bool, true, false, cond, arith}
use Rattle.std.specs.Prelude.{Option, Some, None, unwrap_or, ◌==◌, ◌||◌, nat_lt}
use Rattle.std.specs.Option.{is_some}
use Rattle.std.specs.Ordering.{nat_cmp, is_eq, match_ordering}
use Rattle.std.specs.declared.cmp.Ordering.{Ordering}
use Rattle.std.specs.declared.cmp.Ordering.TheVariants.{Less, Equal, Greater}
use Rattle.std.specs.BTreeMap.{is_at}
use Rattle.std.specs.Cmp.{Equal-is}
use Rattle.std.specs.List.{sum_by, list_any}
use Rattle.std.specs.Map.{values_of}
use Rattle.std.proofs.lemmas.Cmp.{nat_cmp_total, eq_by_cmp_equiv}
use Rattle.std.proofs.lemmas.Map.{lookup-set_value}
use Rattle.std.proofs.lemmas.Map.Entries.{sum_by-set_value}
use Rattle.std.proofs.lemmas.List.Sums.{sum_by-cons}
use Rattle.sentry_plain.specs.Tables.{value_at, replace_at, put, without}
use Rattle.sentry_plain.specs.Counts.{Counts, Raises, Lowers, count_at, is_number, one_if}
use Rattle.sentry_plain.proofs.NumberLemmas.{nat_cmp_same, same_number, equal_to_itself, equal_turned, positive}
use Rattle.sentry_plain.proofs.ChangeLemmas.{later_absent, sum_put, sum_without, sum_without_none}

-- ---- what stands at each number after one is written

unwrapped : (b : Bool) (w : ℕ) (o : Option ℕ) → unwrap_or (cond b (Some w) o) 0 ≡ cond b w (unwrap_or o 0)
unwrapped true w o = refl
unwrapped false w o = refl

count_replaced : (counts : List (ℕ × ℕ)) (k w n : ℕ) (v : ℕ) → value_at counts k ≡ Some v
    → count_at (replace_at counts k w) n ≡ cond (k == n) w (count_at counts n)
count_replaced counts k w n v h =
    ap (λ o. unwrap_or o 0)
    (lookup-set_value (eq_by_cmp_equiv nat_cmp_total) (is_at (nat_cmp k))
    (λ x y e. ap is_eq (nat_cmp_total.congr k x y ((Equal-is (nat_cmp k x)).0 e))) n w counts (ap is_some h))
    ∙ (unwrapped (is_at (nat_cmp k) n) w (value_at counts n) ∙ ap (λ b. cond b w (count_at counts n)) (nat_cmp_same k n))

stands_at : (counts : List (ℕ × ℕ)) (k v n : ℕ) → value_at counts k ≡ Some v → (k == n) ≡ true → count_at counts n ≡ v
stands_at counts k v n h e = ap (count_at counts) (sym (same_number k n e)) ∙ ap (λ (o : Option ℕ). unwrap_or o 0) h

raised_at : (b : Bool) (v old : ℕ) → (b ≡ true → old ≡ v) → cond b (v + 1) old ≡ old + one_if b
raised_at true v old same = ap (λ n. n + 1) (sym (same refl))
raised_at false v old same = omega arith

-- one more at a number that has an entry
pub count_raised : (counts : List (ℕ × ℕ)) (k v n : ℕ) → value_at counts k ≡ Some v
    → count_at (replace_at counts k (v + 1)) n ≡ count_at counts n + one_if (k == n)
count_raised counts k v n h =
    count_replaced counts k (v + 1) n v h ∙ raised_at (k == n) v (count_at counts n) (stands_at counts k v n h)

lowered_at : (b : Bool) (v old : ℕ) → (b ≡ true → old ≡ v) → 0 < v → old ≡ cond b (v - 1) old + one_if b
lowered_at true v old same some = let is = same refl in omega arith
lowered_at false v old same some = omega arith

-- one less at a number that has an entry above 0
pub count_lowered : (counts : List (ℕ × ℕ)) (k v n : ℕ) → value_at counts k ≡ Some v → 0 < v
    → count_at counts n ≡ count_at (replace_at counts k (v - 1)) n + one_if (k == n)
count_lowered counts k v n h some =
    lowered_at (k == n) v (count_at counts n) (stands_at counts k v n h) some
    ∙ ap (λ m. m + one_if (k == n)) (sym (count_replaced counts k (v - 1) n v h))

gone-at : (b : Bool) (v : ℕ) (o : Option ℕ) → (b ≡ true → unwrap_or o 0 ≡ v)
    → unwrap_or o 0 ≡ unwrap_or (cond b None o) 0 + cond b v 0
gone-at true v o is = is refl ∙ omega arith
gone-at false v o is = omega arith

-- nothing at a number whose entry goes
pub count_gone : (counts left : List (ℕ × ℕ)) (k v n : ℕ) → value_at counts k ≡ Some v
    → value_at left n ≡ cond (is_eq (nat_cmp k n)) None (value_at counts n)
    → count_at counts n ≡ count_at left n + cond (k == n) v 0
count_gone counts left k v n h gone =
    gone-at (is_eq (nat_cmp k n)) v (value_at counts n) (λ e. stands_at counts k v n h (sym (nat_cmp_same k n) ∙ e))
    ∙ (ap (λ (o : Option ℕ). unwrap_or o 0 + cond (is_eq (nat_cmp k n)) v 0) (sym gone)
    ∙ ap (λ (b : Bool). count_at left n + cond b v 0) (nat_cmp_same k n))

-- ---- what stands at each number after one comes where none was

absent : (counts : List (ℕ × ℕ)) (k n : ℕ) → value_at counts k ≡ None → is_eq (nat_cmp n k) ≡ true → value_at counts n ≡ None
absent counts k n h e = ap (value_at counts) (same_number n k (sym (nat_cmp_same n k) ∙ e)) ∙ h

come_first : (b : Bool) (v : ℕ) (o : Option ℕ) → (b ≡ true → o ≡ None)
    → unwrap_or (cond b (Some v) o) 0 ≡ unwrap_or o 0 + cond b v 0
come_first true v o none = let is : unwrap_or o 0 ≡ 0 = ap (λ (p : Option ℕ). unwrap_or p 0) (none refl) in omega arith
come_first false v o none = omega arith

come_later : (b : Bool) (w more : ℕ) (o p : Option ℕ) → (b ≡ true → more ≡ 0) → unwrap_or o 0 ≡ unwrap_or p 0 + more
    → unwrap_or (cond b (Some w) o) 0 ≡ unwrap_or (cond b (Some w) p) 0 + more
come_later true w more o p none h = let is = none refl in omega arith
come_later false w more o p none h = h

none_more : (b : Bool) (v : ℕ) → (b ≡ true → ⊥) → cond b v 0 ≡ 0
none_more true v clash = absurd (clash refl)
none_more false v clash = refl

come_at : (o : Ordering) (e : ℕ × ℕ) (es : List (ℕ × ℕ)) (k v n : ℕ) → nat_cmp k e.0 ≡ o → value_at (e ∷ es) k ≡ None
    → count_at (put es k v) n ≡ count_at es n + cond (is_eq (nat_cmp n k)) v 0
    → count_at (match_ordering o ((k, v) ∷ e ∷ es) ((e.0, v) ∷ es) (e ∷ put es k v)) n
    ≡ count_at (e ∷ es) n + cond (is_eq (nat_cmp n k)) v 0
come_at Less e es k v n q h rest = come_first (is_at (nat_cmp n) k) v (value_at (e ∷ es) n) (absent (e ∷ es) k n h)
come_at Equal e es k v n q h rest =
    let found : Some e.1 ≡ None = ap (λ (o : Ordering). cond (is_eq o) (Some e.1) (value_at es k)) (sym q) ∙ h in cc
come_at Greater e es k v n q h rest =
    come_later (is_at (nat_cmp n) e.0) e.1 (cond (is_eq (nat_cmp n k)) v 0) (value_at (put es k v) n) (value_at es n)
    (λ here. none_more (is_eq (nat_cmp n k)) v (λ same.
    let found : Some e.1 ≡ None = ap (λ (b : Bool). cond b (Some e.1) (value_at es n)) (sym here) ∙ absent (e ∷ es) k n h same in cc))
    rest

count_come_by : (counts : List (ℕ × ℕ)) (k v n : ℕ) → value_at counts k ≡ None
    → count_at (put counts k v) n ≡ count_at counts n + cond (is_eq (nat_cmp n k)) v 0
count_come_by [] k v n h = come_first (is_at (nat_cmp n) k) v None (λ _. refl)
count_come_by (e ∷ es) k v n h =
    come_at (nat_cmp k e.0) e es k v n refl h (count_come_by es k v n (later_absent (is_at (nat_cmp k) e.0) e.1 (value_at es k) h))

-- the value at a number that had no entry
pub count_come : (counts : List (ℕ × ℕ)) (k v n : ℕ) → value_at counts k ≡ None
    → count_at (put counts k v) n ≡ count_at counts n + cond (k == n) v 0
count_come counts k v n h =
    count_come_by counts k v n h ∙ ap (λ b. count_at counts n + cond b v 0) (nat_cmp_same n k ∙ equal_turned n k)

-- ---- counts of the records that name each number

pub one_passes : (b : Bool) → nat_lt 0 (one_if b) ≡ b
one_passes true = refl
one_passes false = refl

-- one that is named is one
named_one : (k : ℕ) (named : Option ℕ) → named ≡ Some k → one_if (is_number k named) ≡ 1
named_one k named is = ap (λ (o : Option ℕ). one_if (is_number k o)) is ∙ ap one_if (equal_to_itself k)

-- a number that was counted is there
pub raised_there : (old new : List (ℕ × ℕ)) (named : Option ℕ) → Raises old new named
    → (k : ℕ) → named ≡ Some k → 0 < count_at new k
raised_there old new named raises k is =
    let up = raises.each k in
    let one = named_one k named is in
    omega arith

module _ {X : Type 0} (name : X → Option ℕ) where
  -- a record comes
  pub comes : (entries : List (ℕ × X)) (number : ℕ) (x : X) → value_at entries number ≡ None
      → (old new : List (ℕ × ℕ)) → Counts name old entries → Raises old new (name x)
      → Counts name new (put entries number x)
  comes entries number x none old new counts raises = record {
    each = λ n.
        let base = counts.each n in
        let up = raises.each n in
        let sums = sum_put (λ y. one_if (is_number n (name y))) entries number x none in
        omega arith;
  }

  -- a record goes
  pub goes : (entries : List (ℕ × X)) (number : ℕ) (x : X) → value_at entries number ≡ Some x
      → (old new : List (ℕ × ℕ)) → Counts name old entries → Lowers old new (name x)
      → Counts name new (without entries number)
  goes entries number x h old new counts lowers = record {
    each = λ n.
        let base = counts.each n in
        let down = lowers.each n in
        let sums = sum_without (λ y. one_if (is_number n (name y))) entries number x h in
        omega arith;
  }

  -- nothing goes where nothing stands
  pub none_goes : (entries : List (ℕ × X)) (number : ℕ) → value_at entries number ≡ None
      → (old : List (ℕ × ℕ)) → Counts name old entries → Counts name old (without entries number)
  none_goes entries number none old counts = record {
    each = λ n. counts.each n ∙ sym (sum_without_none (λ y. one_if (is_number n (name y))) entries number none);
  }

  -- a record is replaced that names the same
  pub stays : (entries : List (ℕ × X)) (number : ℕ) (x after : X) → value_at entries number ≡ Some x
      → name after ≡ name x
      → (old : List (ℕ × ℕ)) → Counts name old entries → Counts name old (replace_at entries number after)
  stays entries number x after h same old counts = record {
    each = λ n.
        let base = counts.each n in
        let sums = sum_by-set_value (λ y. one_if (is_number n (name y))) (is_at (nat_cmp number)) entries x after h in
        let here : one_if (is_number n (name after)) ≡ one_if (is_number n (name x)) =
        ap (λ (o : Option ℕ). one_if (is_number n o)) same in
        omega arith;
  }

  -- a record is replaced by one that names nothing
  pub leaves : (entries : List (ℕ × X)) (number : ℕ) (x after : X) → value_at entries number ≡ Some x
      → name after ≡ None
      → (old new : List (ℕ × ℕ)) → Counts name old entries → Lowers old new (name x)
      → Counts name new (replace_at entries number after)
  leaves entries number x after h none old new counts lowers = record {
    each = λ n.
        let base = counts.each n in
        let down = lowers.each n in
        let sums = sum_by-set_value (λ y. one_if (is_number n (name y))) (is_at (nat_cmp number)) entries x after h in
        let here : one_if (is_number n (name after)) ≡ 0 = ap (λ (o : Option ℕ). one_if (is_number n o)) none in
        omega arith;
  }

  -- what was counted is taken back
  pub undone : (entries : List (ℕ × X)) (old raised new : List (ℕ × ℕ)) (named : Option ℕ) → Counts name old entries
      → Raises old raised named → Lowers raised new named → Counts name new entries
  undone entries old raised new named counts raises lowers = record {
    each = λ n.
        let base = counts.each n in
        let up = raises.each n in
        let down = lowers.each n in
        omega arith;
  }

  -- what a record names is counted
  pub is_there : (entries : List (ℕ × X)) (number : ℕ) (x : X) → value_at entries number ≡ Some x
      → (counts : List (ℕ × ℕ)) → Counts name counts entries → (k : ℕ) → name x ≡ Some k → 0 < count_at counts k
  is_there entries number x h counts true_counts k is =
      let base = true_counts.each k in
      let sums = sum_without (λ y. one_if (is_number k (name y))) entries number x h in
      let one = named_one k (name x) is in
      omega arith

  any_named : (n : ℕ) (entries : List (ℕ × X))
      → nat_lt 0 (sum_by (λ x. one_if (is_number n (name x))) (values_of entries))
      ≡ list_any (λ (entry : ℕ × X). is_number n (name entry.1)) entries
  any_named n [] = refl
  any_named n (e ∷ es) =
      ap (nat_lt 0) (sum_by-cons (λ (x : X). one_if (is_number n (name x))) e.1 (values_of es))
      ∙ (positive (one_if (is_number n (name e.1))) (sum_by (λ x. one_if (is_number n (name x))) (values_of es))
      ∙ (λ i. one_passes (is_number n (name e.1)) i || any_named n es i))

  -- a number above 0 says that a record names it
  pub counted_any : (n : ℕ) (test : X → Bool) → ((x : X) → is_number n (name x) ≡ test x)
      → (entries : List (ℕ × X)) (counts : List (ℕ × ℕ)) → Counts name counts entries
      → nat_lt 0 (count_at counts n) ≡ list_any (λ (entry : ℕ × X). test entry.1) entries
  counted_any n test same entries counts true_counts =
      ap (nat_lt 0) (true_counts.each n)
      ∙ (any_named n entries ∙ (λ i. list_any (λ (entry : ℕ × X). same entry.1 i) entries))
