-- How a tally counts, after a number or a key comes or goes.
use Rattle.std.proofs.Common.{◌≡◌, refl, ap, ◌∙◌, sym, ℕ, ◌+◌, ◌<◌, ◌≤◌, List, [], ◌∷◌, Bool, true, false, cond, arith}
use Rattle.std.specs.Prelude.{Option, Some, None, unwrap_or, ◌==◌, nat_lt}
use Rattle.std.specs.Option.{is_some}
use Rattle.std.specs.Ordering.{nat_cmp, is_eq, match_ordering}
use Rattle.std.specs.declared.cmp.Ordering.{Ordering}
use Rattle.std.specs.declared.cmp.Ordering.TheVariants.{Less, Equal, Greater}
use Rattle.std.specs.BTreeMap.{is_at}
use Rattle.std.proofs.lemmas.Bool.{and_parts, lt-ltb}
use Rattle.std.proofs.lemmas.Map.Entries.{sum_by-set_value}
use Rattle.std.proofs.lemmas.List.Sums.{sum_by_push, sum_by-remove}
use Rattle.std.proofs.Common.{◌++◌, length, get_or}
use Rattle.std.specs.Prelude.{count_by, sum, ◌&&◌, vec_capacity}
use Rattle.std.specs.List.{remove}
use Rattle.std.specs.Map.{values_of}
use Rattle.sentry_plain.specs.Counts.{count_at, one_if}
use Rattle.sentry_plain.specs.Tables.{value_at, replace_at, put, without}
use Rattle.sentry_plain.proofs.NumberLemmas.{nat_cmp_same, same_number, equal_to_itself}
use Rattle.sentry_plain.proofs.ChangeLemmas.{sum_put, sum_without, weighs_at_most}
use Rattle.sentry_plain.proofs.CountLemmas.{count_come, count_gone}
use Rattle.sentry_hub_table.specs.declared.tally.Key.{Key}
use Rattle.sentry_hub_table.specs.declared.tally.Tally.{Tally}
use Rattle.sentry_hub_table.specs.Entries.{is_key}
use Rattle.sentry_hub_table.specs.Tallies.{tally_at, Keeps}

zero_if : (b : Bool) (n : ℕ) → (b ≡ true → n ≡ 0) → cond b n 0 ≡ 0
zero_if true n h = h refl
zero_if false n h = refl

-- an entry of 0 at a number without one changes no count
count_entered : (counts : List (ℕ × ℕ)) (k n : ℕ) → value_at counts k ≡ None → count_at (put counts k 0) n ≡ count_at counts n
count_entered counts k n h =
    let come = count_come counts k 0 n h in
    let none = zero_if (k == n) 0 (λ _. refl) in
    omega arith

-- without an entry of 0, no count changes
count_forgotten : (counts left : List (ℕ × ℕ)) (k n : ℕ) → value_at counts k ≡ Some 0
    → ((m : ℕ) → value_at left m ≡ cond (is_eq (nat_cmp k m)) None (value_at counts m)) → count_at left n ≡ count_at counts n
count_forgotten counts left k n h gone =
    let goes = count_gone counts left k 0 n h (gone n) in
    let none = zero_if (k == n) 0 (λ _. refl) in
    omega arith

-- the sum of the entries after one was written
pub sum_replaced : (counts : List (ℕ × ℕ)) (k v w : ℕ) → value_at counts k ≡ Some v
    → sum (values_of (replace_at counts k w)) + v ≡ sum (values_of counts) + w
sum_replaced counts k v w h = sum_by-set_value (λ (x : ℕ). x) (is_at (nat_cmp k)) counts v w h

-- one more in the list
pub late_pushed : (late : List Key) (name key : Key)
    → count_by (is_key key) (late ++ name ∷ []) ≡ count_by (is_key key) late + one_if (is_key key name)
late_pushed late name key = sum_by_push (λ other. cond (is_key key other) 1 0) late name

-- a key that was found is the one that was looked for
pub same_key : (key other : Key) → is_key key other ≡ true → other ≡ key
same_key key other h =
    let parts = and_parts (other.tag == key.tag) (other.number == key.number) h in
    λ i. record { tag = same_number other.tag key.tag parts.0 i; number = same_number other.number key.number parts.1 i }

-- one less in the list
pub late_removed : (late : List Key) (i : ℕ) (name key : Key) → i < length late → get_or late i name ≡ name
    → count_by (is_key key) late ≡ count_by (is_key key) (remove late i) + one_if (is_key key name)
late_removed late i name key inside is =
    sym (sum_by-remove (λ other. cond (is_key key other) 1 0) late i name inside)
    ∙ ap (λ found. count_by (is_key key) (remove late i) + one_if (is_key key found)) is

-- a key is itself
pub key_itself : (key : Key) → is_key key key ≡ true
key_itself key = λ i. equal_to_itself key.tag i && equal_to_itself key.number i

-- a key that is found in the list is counted
pub late_found : (late : List Key) (i : ℕ) (key : Key) → i < length late → is_key key (get_or late i key) ≡ true
    → 0 < count_by (is_key key) late
late_found late i key inside is =
    let found : get_or late i key ≡ key = same_key key (get_or late i key) is in
    let removed = late_removed late i key key inside found in
    let one : one_if (is_key key key) ≡ 1 = ap one_if (key_itself key) in
    omega arith

-- what is more than something that is more than 0
pub more : (a b : ℕ) → 0 < b → true ≡ nat_lt 0 (a + b)
more a b h = sym (lt-ltb 0 (a + b) (omega arith))

-- ---- entries

module _ {X : Type 0} where
  here_put-at : (o : Ordering) (e : ℕ × X) (es : List (ℕ × X)) (k : ℕ) (x : X) → nat_cmp k e.0 ≡ o
      → is_some (value_at (put es k x) k) ≡ true
      → is_some (value_at (match_ordering o ((k, x) ∷ e ∷ es) ((e.0, x) ∷ es) (e ∷ put es k x)) k) ≡ true
  here_put-at Less e es k x q rest = ap (λ b. is_some (cond b (Some x) (value_at (e ∷ es) k))) (nat_cmp_same k k ∙ equal_to_itself k)
  here_put-at Equal e es k x q rest = ap (λ (o : Ordering). is_some (cond (is_eq o) (Some x) (value_at es k))) q
  here_put-at Greater e es k x q rest =
      ap (λ (o : Ordering). is_some (cond (is_eq o) (Some e.1) (value_at (put es k x) k))) q ∙ rest

  -- a number has the value that came
  pub here_put : (entries : List (ℕ × X)) (k : ℕ) (x : X) → is_some (value_at (put entries k x) k) ≡ true
  here_put [] k x = ap (λ b. is_some (cond b (Some x) None)) (nat_cmp_same k k ∙ equal_to_itself k)
  here_put (e ∷ es) k x = here_put-at (nat_cmp k e.0) e es k x refl (here_put es k x)

-- where nothing stands at the number of a record, its number is how often its key stands in the list
pub late_alone : (tally : Tally) (key : Key) → ((key.tag == tally.tag) ≡ true → count_at tally.counts key.number ≡ 0)
    → tally_at tally key ≡ count_by (is_key key) tally.late.items
late_alone tally key none =
    let here : cond (key.tag == tally.tag) (count_at tally.counts key.number) 0 ≡ 0 =
    zero_if (key.tag == tally.tag) (count_at tally.counts key.number) none in
    omega arith

-- what stands at a number is no more than all
pub entry_at_most : (counts : List (ℕ × ℕ)) (n : ℕ) → count_at counts n ≤ sum (values_of counts)
entry_at_most counts n = by_value (value_at counts n) refl
  where
    by_value : (o : Option ℕ) → value_at counts n ≡ o → count_at counts n ≤ sum (values_of counts)
    by_value None e = let none : count_at counts n ≡ 0 = ap (λ (o : Option ℕ). unwrap_or o 0) e in omega arith
    by_value (Some v) e =
        let here : count_at counts n ≡ v = ap (λ (o : Option ℕ). unwrap_or o 0) e in
        let most = weighs_at_most (λ (m : ℕ). m) counts n v e in omega arith

-- ---- a tally whose entries change at one number without a count

-- an entry of 0 that comes changes no number
pub entered : (old new : Tally) (number : ℕ) → value_at old.counts number ≡ None → new.tag ≡ old.tag
    → new.counts ≡ put old.counts number 0 → new.late ≡ old.late → Keeps old new
entered old new number none tag counts late =
    let same : sum (values_of (put old.counts number 0)) ≡ sum (values_of old.counts) =
    sum_put (λ (n : ℕ). n) old.counts number 0 none ∙ omega arith in
    record {
      each = λ key. (λ i. cond (key.tag == tag i) (count_at (counts i) key.number) 0 + count_by (is_key key) (late i).items)
          ∙ ap (λ n. cond (key.tag == old.tag) n 0 + count_by (is_key key) old.late.items) (count_entered old.counts number key.number none);
      total = (λ i. sum (values_of (counts i)) + length (late i).items) ∙ ap (λ n. n + length old.late.items) same;
      room = let caps : vec_capacity new.late ≡ vec_capacity old.late = ap vec_capacity late in omega arith;
    }

-- an entry of 0 that goes changes no number
pub forgotten : (old new : Tally) (number : ℕ) → value_at old.counts number ≡ Some 0 → new.tag ≡ old.tag
    → new.counts ≡ without old.counts number → new.late ≡ old.late
    → ((n : ℕ) → value_at (without old.counts number) n ≡ cond (is_eq (nat_cmp number n)) None (value_at old.counts n))
    → Keeps old new
forgotten old new number zero tag counts late gone =
    let same : sum (values_of (without old.counts number)) ≡ sum (values_of old.counts) =
    let sums = sum_without (λ (n : ℕ). n) old.counts number 0 zero in omega arith in
    record {
      each = λ key. (λ i. cond (key.tag == tag i) (count_at (counts i) key.number) 0 + count_by (is_key key) (late i).items)
          ∙ ap (λ n. cond (key.tag == old.tag) n 0 + count_by (is_key key) old.late.items)
          (count_forgotten old.counts (without old.counts number) number key.number zero gone);
      total = (λ i. sum (values_of (counts i)) + length (late i).items) ∙ ap (λ n. n + length old.late.items) same;
      room = let caps : vec_capacity new.late ≡ vec_capacity old.late = ap vec_capacity late in omega arith;
    }
