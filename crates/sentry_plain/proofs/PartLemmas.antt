-- Entries in parts: what is done to the part that a key belongs into is done to the whole.
use Rattle.std.proofs.Common.{◌≡◌, ℕ, zero, suc, ◌+◌, ◌<◌, ◌≤◌, length, get_or, set, take, drop, insert, Bool, true, false, not, cond, is_eq, Option, Some, List, [], ◌∷◌, ◌++◌, refl, sym, ap, ◌∙◌, append_assoc, Ordering, Less, Equal, Greater, arith}
use Rattle.std.proofs.lemmas.Bool.{not-false, not-true}
use Rattle.std.proofs.lemmas.Cmp.{nat_list_cmp_total}
use Rattle.std.proofs.lemmas.List.{length-append}
use Rattle.std.proofs.lemmas.Map.Lookups.{exact_bytes}
use Rattle.std.specs.BTreeMap.{is_at}
use Rattle.std.specs.List.{AllZip, remove}
use Rattle.std.specs.List.Sorted.{IsStrictlySortedBy, IsPartitionedBy}
use Rattle.std.specs.Map.{keys_of}
use Rattle.std.specs.Ordering.{is_lt, match_ordering, ordering_reverse}
use Rattle.sentry_plain.proofs.MergeLemmas.{none_below}
use Rattle.sentry_plain.specs.Parts.{joined, AllFilled, begins_after, AllBelow, AllAbove, BelongsAt, part_at}
use Rattle.sentry_plain.specs.Texts.{Bytes, text_cmp, put, without, value_at}

turned : (x y : Bytes) (o : Ordering) → text_cmp x y ≡ o → text_cmp y x ≡ ordering_reverse o
turned x y o h = nat_list_cmp_total.antisymm y x ∙ ap ordering_reverse h

-- below a key that isn't above k
below_begun : (k x y : Bytes) (o : Ordering) → text_cmp k y ≡ o → is_lt o ≡ false → text_cmp x y ≡ Less → text_cmp k x ≡ Greater
below_begun k x y Less is begun less = cc
below_begun k x y Equal is begun less =
    let same : k ≡ y = exact_bytes k y is in
    ap (λ (q : Bytes). text_cmp q x) same ∙ turned x y Less less
below_begun k x y Greater is begun less = turned x k Less (nat_list_cmp_total.trans x y k less (turned k y Greater is))

is_less : (o : Ordering) → is_lt o ≡ true → o ≡ Less
is_less Less h = refl
is_less Equal h = cc
is_less Greater h = cc

unless : (b c : Bool) → (b ≡ true → c ≡ true) → not c ≡ true → not b ≡ true
unless true c h n = let is : c ≡ true = h refl in cc
unless false c h n = refl

module _ {X : Type 0} where
  -- ---- two parts
  value_past : (k : Bytes) (a b : List (Bytes × X)) → AllBelow k a → value_at (a ++ b) k ≡ value_at b k
  value_past k [] b h = refl
  value_past k (e ∷ a) b h = ap (λ o. cond (is_eq o) (Some e.1) (value_at (a ++ b) k)) h.0 ∙ value_past k a b h.1

  value_before : (k : Bytes) (a b : List (Bytes × X)) → AllAbove k b → value_at (a ++ b) k ≡ value_at a k
  value_before k [] b h = none_below k b h
  value_before k (e ∷ a) b h = ap (cond (is_at (text_cmp k) e.0) (Some e.1)) (value_before k a b h)

  put_past : (k : Bytes) (v : X) (a b : List (Bytes × X)) → AllBelow k a → put (a ++ b) k v ≡ a ++ put b k v
  put_past k v [] b h = refl
  put_past k v (e ∷ a) b h =
      ap (λ o. match_ordering o ((k, v) ∷ e ∷ a ++ b) ((e.0, v) ∷ a ++ b) (e ∷ put (a ++ b) k v)) h.0
      ∙ ap (λ (rest : List (Bytes × X)). e ∷ rest) (put_past k v a b h.1)

  put_above : (k : Bytes) (v : X) (b : List (Bytes × X)) → AllAbove k b → put b k v ≡ (k, v) ∷ b
  put_above k v [] h = refl
  put_above k v (e ∷ b) h = ap (λ o. match_ordering o ((k, v) ∷ e ∷ b) ((e.0, v) ∷ b) (e ∷ put b k v)) h.0

  put_here : (k : Bytes) (v : X) (e : Bytes × X) (a b whole : List (Bytes × X)) (o : Ordering) → whole ≡ put a k v ++ b
      → match_ordering o ((k, v) ∷ e ∷ a ++ b) ((e.0, v) ∷ a ++ b) (e ∷ whole) ≡ match_ordering o ((k, v) ∷ e ∷ a) ((e.0, v) ∷ a) (e ∷ put a k v) ++ b
  put_here k v e a b whole Less h = refl
  put_here k v e a b whole Equal h = refl
  put_here k v e a b whole Greater h = ap (λ (rest : List (Bytes × X)). e ∷ rest) h

  put_before : (k : Bytes) (v : X) (a b : List (Bytes × X)) → AllAbove k b → put (a ++ b) k v ≡ put a k v ++ b
  put_before k v [] b h = put_above k v b h
  put_before k v (e ∷ a) b h = put_here k v e a b (put (a ++ b) k v) (text_cmp k e.0) (put_before k v a b h)

  without_past : (k : Bytes) (a b : List (Bytes × X)) → AllBelow k a → without (a ++ b) k ≡ a ++ without b k
  without_past k [] b h = refl
  without_past k (e ∷ a) b h =
      ap (λ o. cond (is_eq o) (a ++ b) (e ∷ without (a ++ b) k)) h.0
      ∙ ap (λ (rest : List (Bytes × X)). e ∷ rest) (without_past k a b h.1)

  without_above : (k : Bytes) (b : List (Bytes × X)) → AllAbove k b → without b k ≡ b
  without_above k [] h = refl
  without_above k (e ∷ b) h =
      ap (λ o. cond (is_eq o) b (e ∷ without b k)) h.0
      ∙ ap (λ (rest : List (Bytes × X)). e ∷ rest) (without_above k b h.1)

  without_here : (e : Bytes × X) (a b less whole : List (Bytes × X)) (t : Bool) → whole ≡ less ++ b
      → cond t (a ++ b) (e ∷ whole) ≡ cond t a (e ∷ less) ++ b
  without_here e a b less whole true h = refl
  without_here e a b less whole false h = ap (λ (rest : List (Bytes × X)). e ∷ rest) h

  without_before : (k : Bytes) (a b : List (Bytes × X)) → AllAbove k b → without (a ++ b) k ≡ without a k ++ b
  without_before k [] b h = without_above k b h
  without_before k (e ∷ a) b h = without_here e a b (without a k) (without (a ++ b) k) (is_at (text_cmp k) e.0) (without_before k a b h)

  -- ---- many parts
  pub belongs_inside : (k : Bytes) (parts : List (List (Bytes × X))) (i : ℕ) → BelongsAt k parts i → i < length parts
  belongs_inside k [] i at = absurd at
  belongs_inside k (part ∷ parts) zero at = omega arith
  belongs_inside k (part ∷ parts) (suc i) at = omega (arith, belongs_inside k parts i at.1)

  pub value_in : (k : Bytes) (parts : List (List (Bytes × X))) (i : ℕ) → BelongsAt k parts i → value_at (joined parts) k ≡ value_at (part_at parts i) k
  value_in k [] i at = absurd at
  value_in k (part ∷ parts) zero at = value_before k part (joined parts) at
  value_in k (part ∷ parts) (suc i) at = value_past k part (joined parts) at.0 ∙ value_in k parts i at.1

  pub put_in : (k : Bytes) (v : X) (parts : List (List (Bytes × X))) (i : ℕ) → BelongsAt k parts i → put (joined parts) k v ≡ joined (set parts i (put (part_at parts i) k v))
  put_in k v [] i at = absurd at
  put_in k v (part ∷ parts) zero at = put_before k v part (joined parts) at
  put_in k v (part ∷ parts) (suc i) at = put_past k v part (joined parts) at.0 ∙ ap (λ (rest : List (Bytes × X)). part ++ rest) (put_in k v parts i at.1)

  pub without_in : (k : Bytes) (parts : List (List (Bytes × X))) (i : ℕ) → BelongsAt k parts i → without (joined parts) k ≡ joined (set parts i (without (part_at parts i) k))
  without_in k [] i at = absurd at
  without_in k (part ∷ parts) zero at = without_before k part (joined parts) at
  without_in k (part ∷ parts) (suc i) at = without_past k part (joined parts) at.0 ∙ ap (λ (rest : List (Bytes × X)). part ++ rest) (without_in k parts i at.1)

  pub length_set : (parts : List (List (Bytes × X))) (i : ℕ) (part : List (Bytes × X)) → i < length parts
      → length (joined (set parts i part)) + length (part_at parts i) ≡ length (joined parts) + length part
  length_set [] i part lt = absurd (omega arith)
  length_set (first ∷ parts) zero part lt = omega (arith, length-append first (joined parts), length-append part (joined parts))
  length_set (first ∷ parts) (suc i) part lt =
      omega (arith, length_set parts i part (omega arith), length-append first (joined parts), length-append first (joined (set parts i part)))

  -- ---- parts in order
  below_left : (x : Bytes) (a b : List (Bytes × X)) → AllAbove x (a ++ b) → AllAbove x a
  below_left x [] b h = tt
  below_left x (e ∷ a) b h = (h.0, below_left x a b h.1)

  below_right : (x : Bytes) (a b : List (Bytes × X)) → AllAbove x (a ++ b) → AllAbove x b
  below_right x [] b h = h
  below_right x (e ∷ a) b h = below_right x a b h.1

  sorted_left : (a b : List (Bytes × X)) → IsStrictlySortedBy text_cmp (keys_of (a ++ b)) → IsStrictlySortedBy text_cmp (keys_of a)
  unfolding IsStrictlySortedBy
  sorted_left [] b h = tt
  sorted_left (e ∷ a) b h = (below_left e.0 a b h.0, sorted_left a b h.1)

  pub sorted_right : (a b : List (Bytes × X)) → IsStrictlySortedBy text_cmp (keys_of (a ++ b)) → IsStrictlySortedBy text_cmp (keys_of b)
  unfolding IsStrictlySortedBy
  sorted_right [] b h = h
  sorted_right (e ∷ a) b h = sorted_right a b h.1

  pub sorted_part : (parts : List (List (Bytes × X))) (i : ℕ) → IsStrictlySortedBy text_cmp (keys_of (joined parts)) → IsStrictlySortedBy text_cmp (keys_of (part_at parts i))
  unfolding IsStrictlySortedBy
  sorted_part [] i h = tt
  sorted_part (part ∷ parts) zero h = sorted_left part (joined parts) h
  sorted_part (part ∷ parts) (suc i) h = sorted_part parts i (sorted_right part (joined parts) h)

  -- a part that is read is the one at its place
  pub at_place : (parts : List (List (Bytes × X))) (i : ℕ) (d : List (Bytes × X)) → i < length parts → get_or parts i d ≡ part_at parts i
  at_place [] i d lt = absurd (omega arith)
  at_place (part ∷ parts) zero d lt = refl
  at_place (part ∷ parts) (suc i) d lt = at_place parts i d (omega arith)

  -- ---- none is empty
  pub filled_set : (parts : List (List (Bytes × X))) (i : ℕ) (part : List (Bytes × X)) → AllFilled parts → 0 < length part → AllFilled (set parts i part)
  filled_set [] i part h some = tt
  filled_set (first ∷ parts) zero part h some = (some, h.1)
  filled_set (first ∷ parts) (suc i) part h some = (h.0, filled_set parts i part h.1 some)

  pub filled_here : (parts : List (List (Bytes × X))) (i : ℕ) → AllFilled (remove parts i) → 0 < length (part_at parts i) → AllFilled parts
  filled_here [] i h some = tt
  filled_here (first ∷ parts) zero h some = (some, h)
  filled_here (first ∷ parts) (suc i) h some = (h.0, filled_here parts i h.1 some)

  nothing : (part : List (Bytes × X)) → length part ≡ 0 → part ≡ []
  nothing [] h = refl
  nothing (e ∷ part) h = absurd (omega arith)

  pub joined_remove : (parts : List (List (Bytes × X))) (i : ℕ) → length (part_at parts i) ≡ 0 → joined (remove parts i) ≡ joined parts
  joined_remove [] zero h = refl
  joined_remove [] (suc i) h = refl
  joined_remove (first ∷ parts) zero h = ap (λ (part : List (Bytes × X)). part ++ joined parts) (sym (nothing first h))
  joined_remove (first ∷ parts) (suc i) h = ap (λ (rest : List (Bytes × X)). first ++ rest) (joined_remove parts i h)

  -- a part in halves
  pub joined_halves : (parts : List (List (Bytes × X))) (i : ℕ) (lower upper : List (Bytes × X)) → i < length parts → lower ++ upper ≡ part_at parts i
      → joined (set (insert parts (suc i) upper) i lower) ≡ joined parts
  joined_halves [] i lower upper lt h = absurd (omega arith)
  joined_halves (first ∷ parts) zero lower upper lt h =
      sym (append_assoc lower upper (joined parts)) ∙ ap (λ (part : List (Bytes × X)). part ++ joined parts) h
  joined_halves (first ∷ parts) (suc i) lower upper lt h = ap (λ (rest : List (Bytes × X)). first ++ rest) (joined_halves parts i lower upper (omega arith) h)

  pub filled_insert : (parts : List (List (Bytes × X))) (i : ℕ) (part : List (Bytes × X)) → AllFilled parts → 0 < length part → AllFilled (insert parts i part)
  filled_insert parts zero part h some = (some, h)
  filled_insert [] (suc i) part h some = (some, tt)
  filled_insert (first ∷ parts) (suc i) part h some = (h.0, filled_insert parts i part h.1 some)

  pub some_take : (n : ℕ) (l : List (Bytes × X)) → 0 < n → 0 < length l → 0 < length (take n l)
  some_take zero l lt some = absurd (omega arith)
  some_take (suc n) [] lt some = absurd (omega arith)
  some_take (suc n) (e ∷ l) lt some = omega arith

  pub some_drop : (n : ℕ) (l : List (Bytes × X)) → n < length l → 0 < length (drop n l)
  some_drop zero l lt = lt
  some_drop (suc n) [] lt = absurd (omega arith)
  some_drop (suc n) (e ∷ l) lt = some_drop n l (omega arith)

  -- a key that is put in is there
  some_match : (o : Ordering) (xs ys zs : List (Bytes × X)) → 0 < length xs → 0 < length ys → 0 < length zs → 0 < length (match_ordering o xs ys zs)
  some_match Less xs ys zs a b c = a
  some_match Equal xs ys zs a b c = b
  some_match Greater xs ys zs a b c = c

  pub some_put : (m : List (Bytes × X)) (k : Bytes) (v : X) → 0 < length (put m k v)
  some_put [] k v = omega arith
  some_put (e ∷ m) k v = some_match (text_cmp k e.0) _ _ _ (omega arith) (omega arith) (omega arith)

  -- ---- where a key belongs
  all_above : (k x : Bytes) (es : List (Bytes × X)) → text_cmp k x ≡ Less → AllAbove x es → AllAbove k es
  all_above k x [] less h = tt
  all_above k x (e ∷ es) less h = (nat_list_cmp_total.trans k x e.0 less h.0, all_above k x es less h.1)

  -- entries that begin above a key are above it
  above_first : (k : Bytes) (part rest : List (Bytes × X)) → IsStrictlySortedBy text_cmp (keys_of (part ++ rest)) → begins_after k part ≡ true → AllAbove k (part ++ rest)
  unfolding IsStrictlySortedBy
  above_first k [] rest sorted after = cc
  above_first k (e ∷ part) rest sorted after =
      let less : text_cmp k e.0 ≡ Less = is_less (text_cmp k e.0) after in
      (less, all_above k e.0 (part ++ rest) less sorted.0)

  begins_above : (k : Bytes) (part rest : List (Bytes × X)) → 0 < length part → AllAbove k (part ++ rest) → begins_after k part ≡ true
  begins_above k [] rest some h = absurd (omega arith)
  begins_above k (e ∷ part) rest some h = ap is_lt h.0

  later_begins : (k : Bytes) (parts : List (List (Bytes × X))) (j : ℕ) (d : List (Bytes × X)) → AllFilled parts → AllAbove k (joined parts) → j < length parts → begins_after k (get_or parts j d) ≡ true
  later_begins k [] j d filled above lt = absurd (omega arith)
  later_begins k (part ∷ parts) zero d filled above lt = begins_above k part (joined parts) filled.0 above
  later_begins k (part ∷ parts) (suc j) d filled above lt = later_begins k parts j d filled.1 (below_right k part (joined parts) above) (omega arith)

  -- a search may halve the parts
  pub parted : (k : Bytes) (parts : List (List (Bytes × X))) → IsStrictlySortedBy text_cmp (keys_of (joined parts)) → AllFilled parts
      → IsPartitionedBy (λ part. not (begins_after k part)) parts
  parted k [] sorted filled i j d le lt h = absurd (omega arith)
  parted k (part ∷ parts) sorted filled zero j d le lt h =
      unless (begins_after k part) (begins_after k (get_or (part ∷ parts) j d))
      (λ after. later_begins k (part ∷ parts) j d filled (above_first k part (joined parts) sorted after) lt) h
  parted k (part ∷ parts) sorted filled (suc i) zero d le lt h = absurd (omega arith)
  parted k (part ∷ parts) sorted filled (suc i) (suc j) d le lt h =
      parted k parts (sorted_right part (joined parts) sorted) filled.1 i j d (omega arith) (omega arith) h

  above_rest : (k : Bytes) (parts : List (List (Bytes × X))) → IsStrictlySortedBy text_cmp (keys_of (joined parts))
      → ((j : ℕ) (d : List (Bytes × X)) → 0 ≤ j → j < length parts → not (begins_after k (get_or parts j d)) ≡ false) → AllAbove k (joined parts)
  above_rest k [] sorted after = tt
  above_rest k (part ∷ parts) sorted after =
      above_first k part (joined parts) sorted (not-false (begins_after k part) (after 0 part (omega arith) (omega arith)))

  below_first : (k : Bytes) (e : Bytes × X) (first rest : List (Bytes × X)) → IsStrictlySortedBy text_cmp (keys_of (first ++ e ∷ rest)) → is_lt (text_cmp k e.0) ≡ false → AllBelow k first
  unfolding IsStrictlySortedBy
  below_first k e [] rest sorted begun = tt
  below_first k e (x ∷ first) rest sorted begun =
      (below_begun k x.0 e.0 (text_cmp k e.0) refl begun (below_right x.0 first (e ∷ rest) sorted.0).0, below_first k e first rest sorted.1 begun)

  below_part : (k : Bytes) (first part rest : List (Bytes × X)) → 0 < length part → IsStrictlySortedBy text_cmp (keys_of (first ++ (part ++ rest))) → begins_after k part ≡ false → AllBelow k first
  below_part k first [] rest some sorted begun = absurd (omega arith)
  below_part k first (e ∷ part) rest some sorted begun = below_first k e first (part ++ rest) sorted begun

  -- where a search ends, there the key belongs
  pub belongs : (k : Bytes) (first : List (Bytes × X)) (others : List (List (Bytes × X))) (n : ℕ) → IsStrictlySortedBy text_cmp (keys_of (first ++ joined others)) → AllFilled others → n ≤ length others
      → ((j : ℕ) (d : List (Bytes × X)) → 0 ≤ j → j < n → not (begins_after k (get_or others j d)) ≡ true)
      → ((j : ℕ) (d : List (Bytes × X)) → n ≤ j → j < length others → not (begins_after k (get_or others j d)) ≡ false)
      → BelongsAt k (first ∷ others) n
  belongs k first others zero sorted filled le before after = above_rest k others (sorted_right first (joined others) sorted) after
  belongs k first [] (suc n) sorted filled le before after = absurd (omega arith)
  belongs k first (part ∷ others) (suc n) sorted filled le before after = (
    below_part k first part (joined others) filled.0 sorted (not-true (begins_after k part) (before 0 part (omega arith) (omega arith))),
    belongs k part others n (sorted_right first (part ++ joined others) sorted) filled.1 (omega arith)
        (λ j d low high. before (suc j) d (omega arith) (omega arith))
        (λ j d low high. after (suc j) d (omega arith) (omega arith)),
  )

  -- ---- clones
  pub same_zip : (parts copies : List (List (Bytes × X))) → AllZip (λ old new. new ≡ old) parts copies → copies ≡ parts
  same_zip [] [] h = refl
  same_zip [] (c ∷ copies) h = absurd h
  same_zip (p ∷ parts) [] h = absurd h
  same_zip (p ∷ parts) (c ∷ copies) h = λ i. h.0 i ∷ same_zip parts copies h.1 i

  -- ---- counting
  less_here : (t : Bool) (e : Bytes × X) (m less : List (Bytes × X)) (o : Option X) (v : X) → cond t (Some e.1) o ≡ Some v → (o ≡ Some v → length less + 1 ≡ length m)
      → length (cond t m (e ∷ less)) + 1 ≡ length (e ∷ m)
  less_here true e m less o v h later = omega arith
  less_here false e m less o v h later = omega (arith, later h)

  pub length_without : (m : List (Bytes × X)) (k : Bytes) (v : X) → value_at m k ≡ Some v → length (without m k) + 1 ≡ length m
  length_without [] k v h = cc
  length_without (e ∷ m) k v h = less_here (is_at (text_cmp k) e.0) e m (without m k) (value_at m k) v h (length_without m k v)
