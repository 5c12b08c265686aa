-- Counts of sessions: the counts of one more session are the counts of the others, with one more at its key.
use Rattle.std.proofs.Common.{◌≡◌, ◌+◌, ◌-◌, ◌^◌, ◌||◌, ◌&&◌, min, ℕ, Bool, true, false, cond, Option, Some, None, List, [], ◌∷◌, map, refl, sym, ap, ◌∙◌, arith, Ordering, Less, Equal, Greater, is_eq}
use Rattle.std.proofs.lemmas.Bool.{or_parts}
use Rattle.std.proofs.lemmas.Cmp.{on_total}
use Rattle.std.proofs.lemmas.List.Sums.{sum_by-cons}
use Rattle.std.proofs.lemmas.Map.Lookups.{exact_pairs, exact_unsigned, exact_bytes}
use Rattle.std.specs.BTreeMap.{insert_entry, is_at}
use Rattle.std.specs.Cmp.{IsTotalOrder}
use Rattle.std.specs.FinMap.{entries, insert, get, find, put, entries-insert, get-entries, get-from_entries, get-insert, same_map, IsAntisymmetric}
use Rattle.std.specs.List.{list_any}
use Rattle.std.specs.Map.{lookup}
use Rattle.std.specs.Option.{option_cmp}
use Rattle.std.specs.Ordering.{eq_by_cmp, match_ordering, nat_cmp}
use Rattle.std.specs.Prelude.{count_by, unwrap_or}
use Rattle.sentry_base.specs.declared.protocol.session.SessionUpdate.{SessionUpdate}
use Rattle.sentry_plain.specs.Texts.{Bytes, text_cmp}
use Rattle.sentry_sessions.specs.AggregateOrder.{minute_cmp_total}
use Rattle.sentry_sessions.specs.SessionQueues.{aggregate_cmp, key_of, has_exited, has_errored, was_abnormal, has_crashed, count_at, counts_at, counts_of}
use Rattle.sentry_sessions.specs.QueueSteps.{add_if, no_counts, count_update, counts_under, count}
use Rattle.sentry_sessions.specs.declared.session.aggregates.AggregateCounts.{AggregateCounts}
use Rattle.sentry_sessions.specs.declared.session.aggregates.AggregateKey.{AggregateKey}

-- ---- the order of the keys

key_total : IsTotalOrder aggregate_cmp
key_total = on_total (λ (key : AggregateKey). (key.started, key.distinct_id)) minute_cmp_total

is_equal : (o : Ordering) → is_eq o ≡ true → o ≡ Equal
is_equal Less h = cc
is_equal Equal h = refl
is_equal Greater h = cc

exact_ids : (a b : Option Bytes) → option_cmp text_cmp a b ≡ Equal → a ≡ b
exact_ids None None h = refl
exact_ids None (Some y) h = cc
exact_ids (Some x) None h = cc
exact_ids (Some x) (Some y) h = ap Some (exact_bytes x y h)

key_exact : IsAntisymmetric aggregate_cmp
key_exact x y h =
    ap (λ (p : ℕ × Option Bytes). record { started = p.0; distinct_id = p.1 })
    (exact_pairs nat_cmp (option_cmp text_cmp) exact_unsigned exact_ids (x.started, x.distinct_id) (y.started, y.distinct_id) h)

same_key : (q k : AggregateKey) → eq_by_cmp aggregate_cmp q k ≡ true → q ≡ k
same_key q k h = key_exact q k (is_equal (aggregate_cmp q k) h)

-- ---- lists of entries, in the words of `FinMap` and of `BTreeMap`

module _ {K X : Type 0} (R : K → K → Ordering) where
  find_is : (q : K) (es : List (K × X)) → find R q es ≡ lookup (is_at (R q)) es
  find_is q [] = refl
  find_is q (e ∷ es) = ap (cond (eq_by_cmp R q e.0) (Some e.1)) (find_is q es)

  put_here : (o : Ordering) (k : K) (v : X) (e : K × X) (es rest : List (K × X)) → put R k v es ≡ rest → R k e.0 ≡ o
      → put R k v (e ∷ es) ≡ match_ordering o ((k, v) ∷ e ∷ es) ((e.0, v) ∷ es) (e ∷ rest)
  put_here Less k v e es rest h p = rw p refl
  put_here Equal k v e es rest h p = rw p refl
  put_here Greater k v e es rest h p = rw p (ap (λ (xs : List (K × X)). e ∷ xs) h)

  put_is : (k : K) (v : X) (es : List (K × X)) → put R k v es ≡ insert_entry R es k v
  put_is k v [] = refl
  put_is k v (e ∷ es) = put_here (R k e.0) k v e es (insert_entry R es k v) (put_is k v es) refl

-- ---- counts

-- some update has the key
abbrev has_key : AggregateKey → List SessionUpdate → Bool
has_key key updates = list_any (λ update. eq_by_cmp aggregate_cmp key (key_of update)) updates

module _ (f : AggregateKey → AggregateCounts) (q : AggregateKey) where
  find_here : (b a : Bool) (k : AggregateKey) (o : Option AggregateCounts) → eq_by_cmp aggregate_cmp q k ≡ b → o ≡ cond a (Some (f q)) None
      → cond b (Some (f k)) o ≡ cond (b || a) (Some (f q)) None
  find_here true a k o p h = ap (λ (key : AggregateKey). Some (f key)) (sym (same_key q k p))
  find_here false a k o p h = h

  find_mapped : (updates : List SessionUpdate) → find aggregate_cmp q (map (λ update. (key_of update, f (key_of update))) updates) ≡ cond (has_key q updates) (Some (f q)) None
  find_mapped [] = refl
  find_mapped (u ∷ us) = find_here (eq_by_cmp aggregate_cmp q (key_of u)) (has_key q us) (key_of u) _ refl (find_mapped us)

get_counts : (updates : List SessionUpdate) (q : AggregateKey) → get (counts_of updates) q ≡ cond (has_key q updates) (Some (counts_at updates q)) None
unfolding counts_of
get_counts updates q = get-from_entries key_total _ q ∙ find_mapped (counts_at updates) q updates

none_counted : (test : SessionUpdate → Bool) (updates : List SessionUpdate) (key : AggregateKey) → has_key key updates ≡ false
    → count_by (λ update. eq_by_cmp aggregate_cmp key (key_of update) && test update) updates ≡ 0
none_counted test [] key h = refl
none_counted test (u ∷ us) key h =
    let none = or_parts (eq_by_cmp aggregate_cmp key (key_of u)) (has_key key us) h in
    rw (none.0, none_counted test us key none.1) refl

no_counts_at : (updates : List SessionUpdate) (key : AggregateKey) → has_key key updates ≡ false → no_counts ≡ counts_at updates key
no_counts_at updates key h =
    rw (none_counted has_exited updates key h, none_counted has_errored updates key h, none_counted was_abnormal updates key h, none_counted has_crashed updates key h) refl

found_or_none : (updates : List SessionUpdate) (key : AggregateKey) (b : Bool) → has_key key updates ≡ b
    → unwrap_or (cond b (Some (counts_at updates key)) None) no_counts ≡ counts_at updates key
found_or_none updates key true h = refl
found_or_none updates key false h = no_counts_at updates key h

counts_under_is : (updates : List SessionUpdate) (key : AggregateKey) → counts_under key (entries (counts_of updates)) ≡ counts_at updates key
counts_under_is updates key =
    ap (λ (o : Option AggregateCounts). unwrap_or o no_counts)
    (sym (find_is aggregate_cmp key (entries (counts_of updates))) ∙ (sym (get-entries (counts_of updates) key) ∙ get_counts updates key))
    ∙ found_or_none updates key (has_key key updates) refl

add_one : (b : Bool) (n m : ℕ) → min (cond b 1 0 + n) m ≡ cond b (min (min n m + 1) m) (min n m)
add_one true n m = omega arith
add_one false n m = omega arith

module _ (u : SessionUpdate) (us : List SessionUpdate) (q : AggregateKey) where
  count_here : (test : SessionUpdate → Bool) → eq_by_cmp aggregate_cmp q (key_of u) ≡ true → count_at test (u ∷ us) q ≡ add_if (test u) (count_at test us q)
  count_here test h =
      let others = count_by (λ update. eq_by_cmp aggregate_cmp q (key_of update) && test update) us in
      ap (λ (n : ℕ). min n (2 ^ 32 - 1)) (sum_by-cons (λ (update : SessionUpdate). cond (eq_by_cmp aggregate_cmp q (key_of update) && test update) 1 0) u us)
      ∙ (ap (λ (b : Bool). min (cond (b && test u) 1 0 + others) (2 ^ 32 - 1)) h
      ∙ add_one (test u) others (2 ^ 32 - 1))

  count_elsewhere : (test : SessionUpdate → Bool) → eq_by_cmp aggregate_cmp q (key_of u) ≡ false → count_at test (u ∷ us) q ≡ count_at test us q
  count_elsewhere test h = rw h refl

  counts_here : eq_by_cmp aggregate_cmp q (key_of u) ≡ true → counts_at (u ∷ us) q ≡ count_update u (counts_at us q)
  counts_here h = λ i. record {
    exited = count_here has_exited h i;
    errored = count_here has_errored h i;
    abnormal = count_here was_abnormal h i;
    crashed = count_here has_crashed h i;
  }

  counts_elsewhere : eq_by_cmp aggregate_cmp q (key_of u) ≡ false → counts_at (u ∷ us) q ≡ counts_at us q
  counts_elsewhere h = λ i. record {
    exited = count_elsewhere has_exited h i;
    errored = count_elsewhere has_errored h i;
    abnormal = count_elsewhere was_abnormal h i;
    crashed = count_elsewhere has_crashed h i;
  }

  at_key : (b a : Bool) → eq_by_cmp aggregate_cmp q (key_of u) ≡ b
      → cond (b || a) (Some (counts_at (u ∷ us) q)) None
      ≡ cond b (Some (count_update u (counts_at us (key_of u)))) (cond a (Some (counts_at us q)) None)
  at_key true a h =
      ap Some (counts_here h) ∙ ap (λ (key : AggregateKey). Some (count_update u (counts_at us key))) (same_key q (key_of u) h)
  at_key false a h = ap (λ (counts : AggregateCounts). cond a (Some counts) None) (counts_elsewhere h)

-- one more session is one more at its key
pub count_is : (u : SessionUpdate) (us : List SessionUpdate) → entries (counts_of (u ∷ us)) ≡ count u (entries (counts_of us))
count_is u us =
    let made = count_update u (counts_at us (key_of u)) in
    let same : counts_of (u ∷ us) ≡ insert (counts_of us) (key_of u) made =
    same_map key_total key_exact _ _ (λ q.
    get_counts (u ∷ us) q
    ∙ (at_key u us q (eq_by_cmp aggregate_cmp q (key_of u)) (has_key q us) refl
    ∙ (ap (cond (eq_by_cmp aggregate_cmp q (key_of u)) (Some made)) (sym (get_counts us q))
    ∙ sym (get-insert key_total (counts_of us) (key_of u) made q)))) in
    ap entries same
    ∙ (entries-insert key_total (counts_of us) (key_of u) made
    ∙ (put_is aggregate_cmp (key_of u) made (entries (counts_of us))
    ∙ ap (λ (counts : AggregateCounts). insert_entry aggregate_cmp (entries (counts_of us)) (key_of u) (count_update u counts)) (sym (counts_under_is us (key_of u)))))
