-- A list of entries whose keys rise, where a binary search ended in it.
use Rattle.std.proofs.Common.{◌≡◌, ℕ, zero, suc, ◌<◌, ◌≤◌, length, get_or, set, Bool, true, false, cond, is_eq, Some, None, List, [], ◌∷◌, refl, sym, ap, ◌∙◌, subst, Ordering, Less, Equal, Greater, arith, IfOk, IfErr, Result, Ok, Err}
use Rattle.std.specs.Cmp.{IsTotalOrder}
use Rattle.std.specs.Ordering.{match_ordering, ordering_reverse, ordering_index}
use Rattle.std.specs.List.{AllByRecursion, insert, remove}
use Rattle.std.specs.List.Sorted.{IsStrictlySortedBy, IsBinarySearchResult, IsSearchInRange, IsNonDecreasingBy}
use Rattle.std.specs.Map.{keys_of, lookup, remove_entry}
use Rattle.std.specs.BTreeMap.{insert_entry, is_at}
use Rattle.sentry_plain.specs.Places.{IsAt, IsGap}

at_most_two : (o : Ordering) → ordering_index o ≤ 2
at_most_two Less = omega arith
at_most_two Equal = omega arith
at_most_two Greater = omega arith

module _ {K : Type 0} (cmp : K → K → Ordering) (total : IsTotalOrder cmp) where
  turned : (x y : K) (o : Ordering) → cmp x y ≡ o → cmp y x ≡ ordering_reverse o
  turned x y o h = total.antisymm y x ∙ ap ordering_reverse h

  -- a key below one that is equal to k is below k
  below_equal : (x y k : K) → cmp x y ≡ Less → cmp y k ≡ Equal → cmp x k ≡ Less
  below_equal x y k less same = total.antisymm x k ∙ ap ordering_reverse (sym (total.congr y k x same) ∙ turned x y Less less)

  pub rises_by : (k x y : K) (o : Ordering) → cmp x y ≡ Less → cmp y k ≡ o → ordering_index (cmp x k) ≤ ordering_index o
  rises_by k x y Less less is = subst (λ o. ordering_index o ≤ 0) (sym (total.trans x y k less is)) (omega arith)
  rises_by k x y Equal less is = subst (λ o. ordering_index o ≤ 1) (sym (below_equal x y k less is)) (omega arith)
  rises_by k x y Greater less is = at_most_two (cmp x k)

  module _ {X : Type 0} where
    all_above : (x : K) (ks : List (K × X)) (i : ℕ) (d : K × X) → AllByRecursion (λ y. cmp x y ≡ Less) (keys_of ks) → i < length ks → cmp x (get_or ks i d).0 ≡ Less
    all_above x [] i d h lt = absurd (omega arith)
    all_above x (e ∷ es) zero d h lt = h.0
    all_above x (e ∷ es) (suc i) d h lt = all_above x es i d h.1 (omega arith)

    tail_at : (e : K × X) (es : List (K × X)) (k : K) (i : ℕ) → IsAt cmp (e ∷ es) k (suc i) → IsAt cmp es k i
    tail_at e es k i at = record { inside = omega (arith, at.inside); equal = λ d. at.equal d }

    -- the first key is below k, if k is further on
    first_below : (e : K × X) (es : List (K × X)) (k : K) (i : ℕ) → IsStrictlySortedBy cmp (keys_of (e ∷ es)) → IsAt cmp (e ∷ es) k (suc i) → cmp k e.0 ≡ Greater
    unfolding IsStrictlySortedBy
    first_below e es k i sorted at =
        let within : i < length es = omega (arith, at.inside) in
        turned e.0 k Less (below_equal e.0 (get_or es i e).0 k (all_above e.0 es i e sorted.0 within) (at.equal e))

    tail_gap : (e : K × X) (es : List (K × X)) (k : K) (i : ℕ) → IsGap cmp (e ∷ es) k (suc i) → IsGap cmp es k i
    tail_gap e es k i gap = record {
      inside = omega (arith, gap.inside);
      before = λ j d lt. gap.before (suc j) d (omega arith);
      after = λ j d le lt. gap.after (suc j) d (omega arith) (omega arith);
    }

    -- at the place of the key
    pub lookup_at : (l : List (K × X)) (k : K) (i : ℕ) (d : K × X) → IsStrictlySortedBy cmp (keys_of l) → IsAt cmp l k i → lookup (is_at (cmp k)) l ≡ Some (get_or l i d).1
    unfolding IsStrictlySortedBy
    lookup_at [] k i d sorted at = absurd (omega (arith, at.inside))
    lookup_at (e ∷ es) k zero d sorted at = ap (λ o. cond (is_eq o) (Some e.1) (lookup (is_at (cmp k)) es)) (turned e.0 k Equal (at.equal d))
    lookup_at (e ∷ es) k (suc i) d sorted at =
        ap (λ o. cond (is_eq o) (Some e.1) (lookup (is_at (cmp k)) es)) (first_below e es k i sorted at)
        ∙ lookup_at es k i d sorted.1 (tail_at e es k i at)

    pub put_at : (l : List (K × X)) (k : K) (v : X) (i : ℕ) (d : K × X) → IsStrictlySortedBy cmp (keys_of l) → IsAt cmp l k i → insert_entry cmp l k v ≡ set l i ((get_or l i d).0, v)
    unfolding IsStrictlySortedBy
    put_at [] k v i d sorted at = absurd (omega (arith, at.inside))
    put_at (e ∷ es) k v zero d sorted at = ap (λ o. match_ordering o ((k, v) ∷ e ∷ es) ((e.0, v) ∷ es) (e ∷ insert_entry cmp es k v)) (turned e.0 k Equal (at.equal d))
    put_at (e ∷ es) k v (suc i) d sorted at =
        ap (λ o. match_ordering o ((k, v) ∷ e ∷ es) ((e.0, v) ∷ es) (e ∷ insert_entry cmp es k v)) (first_below e es k i sorted at)
        ∙ ap (λ (rest : List (K × X)). e ∷ rest) (put_at es k v i d sorted.1 (tail_at e es k i at))

    pub without_at : (l : List (K × X)) (k : K) (i : ℕ) → IsStrictlySortedBy cmp (keys_of l) → IsAt cmp l k i → remove_entry (is_at (cmp k)) l ≡ remove l i
    unfolding IsStrictlySortedBy
    without_at [] k i sorted at = absurd (omega (arith, at.inside))
    without_at (e ∷ es) k zero sorted at = ap (λ o. cond (is_eq o) es (e ∷ remove_entry (is_at (cmp k)) es)) (turned e.0 k Equal (at.equal e))
    without_at (e ∷ es) k (suc i) sorted at =
        ap (λ o. cond (is_eq o) es (e ∷ remove_entry (is_at (cmp k)) es)) (first_below e es k i sorted at)
        ∙ ap (λ (rest : List (K × X)). e ∷ rest) (without_at es k i sorted.1 (tail_at e es k i at))

    -- in the gap for it
    lookup_after : (l : List (K × X)) (k : K) → ((j : ℕ) (d : K × X) → j < length l → cmp (get_or l j d).0 k ≡ Greater) → lookup (is_at (cmp k)) l ≡ None
    lookup_after [] k after = refl
    lookup_after (e ∷ es) k after =
        ap (λ o. cond (is_eq o) (Some e.1) (lookup (is_at (cmp k)) es)) (turned e.0 k Greater (after 0 e (omega arith)))
        ∙ lookup_after es k (λ j d lt. after (suc j) d (omega arith))

    pub lookup_gap : (l : List (K × X)) (k : K) (i : ℕ) → IsGap cmp l k i → lookup (is_at (cmp k)) l ≡ None
    lookup_gap l k zero gap = lookup_after l k (λ j d lt. gap.after j d (omega arith) lt)
    lookup_gap [] k (suc i) gap = refl
    lookup_gap (e ∷ es) k (suc i) gap =
        ap (λ o. cond (is_eq o) (Some e.1) (lookup (is_at (cmp k)) es)) (turned e.0 k Less (gap.before 0 e (omega arith)))
        ∙ lookup_gap es k i (tail_gap e es k i gap)

    -- nothing is removed at a key that has a gap
    without_after : (l : List (K × X)) (k : K) → ((j : ℕ) (d : K × X) → j < length l → cmp (get_or l j d).0 k ≡ Greater) → remove_entry (is_at (cmp k)) l ≡ l
    without_after [] k after = refl
    without_after (e ∷ es) k after =
        ap (λ o. cond (is_eq o) es (e ∷ remove_entry (is_at (cmp k)) es)) (turned e.0 k Greater (after 0 e (omega arith)))
        ∙ ap (λ (rest : List (K × X)). e ∷ rest) (without_after es k (λ j d lt. after (suc j) d (omega arith)))

    pub without_gap : (l : List (K × X)) (k : K) (i : ℕ) → IsGap cmp l k i → remove_entry (is_at (cmp k)) l ≡ l
    without_gap l k zero gap = without_after l k (λ j d lt. gap.after j d (omega arith) lt)
    without_gap [] k (suc i) gap = refl
    without_gap (e ∷ es) k (suc i) gap =
        ap (λ o. cond (is_eq o) es (e ∷ remove_entry (is_at (cmp k)) es)) (turned e.0 k Less (gap.before 0 e (omega arith)))
        ∙ ap (λ (rest : List (K × X)). e ∷ rest) (without_gap es k i (tail_gap e es k i gap))

    pub put_gap : (l : List (K × X)) (k : K) (v : X) (i : ℕ) → IsGap cmp l k i → insert_entry cmp l k v ≡ insert l i (k, v)
    put_gap [] k v zero gap = refl
    put_gap [] k v (suc i) gap = absurd (omega (arith, gap.inside))
    put_gap (e ∷ es) k v zero gap = ap (λ o. match_ordering o ((k, v) ∷ e ∷ es) ((e.0, v) ∷ es) (e ∷ insert_entry cmp es k v)) (turned e.0 k Greater (gap.after 0 e (omega arith) (omega arith)))
    put_gap (e ∷ es) k v (suc i) gap =
        ap (λ o. match_ordering o ((k, v) ∷ e ∷ es) ((e.0, v) ∷ es) (e ∷ insert_entry cmp es k v)) (turned e.0 k Less (gap.before 0 e (omega arith)))
        ∙ ap (λ (rest : List (K × X)). e ∷ rest) (put_gap es k v i (tail_gap e es k i gap))

    -- entries stay in order
    below_match : (x : K) (o : Ordering) (xs ys zs : List (K × X)) → AllByRecursion (λ y. cmp x y ≡ Less) (keys_of xs) → AllByRecursion (λ y. cmp x y ≡ Less) (keys_of ys) → AllByRecursion (λ y. cmp x y ≡ Less) (keys_of zs)
        → AllByRecursion (λ y. cmp x y ≡ Less) (keys_of (match_ordering o xs ys zs))
    below_match x Less xs ys zs a b c = a
    below_match x Equal xs ys zs a b c = b
    below_match x Greater xs ys zs a b c = c

    below_put : (x k : K) (v : X) (l : List (K × X)) → cmp x k ≡ Less → AllByRecursion (λ y. cmp x y ≡ Less) (keys_of l) → AllByRecursion (λ y. cmp x y ≡ Less) (keys_of (insert_entry cmp l k v))
    below_put x k v [] less h = (less, tt)
    below_put x k v (e ∷ es) less h =
        below_match x (cmp k e.0) ((k, v) ∷ e ∷ es) ((e.0, v) ∷ es) (e ∷ insert_entry cmp es k v) (less, h) h (h.0, below_put x k v es less h.1)

    all_below : (x k : K) (l : List (K × X)) → cmp k x ≡ Less → AllByRecursion (λ y. cmp x y ≡ Less) (keys_of l) → AllByRecursion (λ y. cmp k y ≡ Less) (keys_of l)
    all_below x k [] less h = tt
    all_below x k (e ∷ es) less h = (total.trans k x e.0 less h.0, all_below x k es less h.1)

    sorted_match : (k : K) (v : X) (e : K × X) (es more : List (K × X)) (o : Ordering) → cmp k e.0 ≡ o → IsStrictlySortedBy cmp (keys_of (e ∷ es)) → IsStrictlySortedBy cmp (keys_of more)
        → (cmp e.0 k ≡ Less → AllByRecursion (λ y. cmp e.0 y ≡ Less) (keys_of more)) → IsStrictlySortedBy cmp (keys_of (match_ordering o ((k, v) ∷ e ∷ es) ((e.0, v) ∷ es) (e ∷ more)))
    unfolding IsStrictlySortedBy
    sorted_match k v e es more Less is sorted after below = ((is, all_below e.0 k es is sorted.0), sorted)
    sorted_match k v e es more Equal is sorted after below = sorted
    sorted_match k v e es more Greater is sorted after below = (below (turned k e.0 Greater is), after)

    pub sorted_put : (l : List (K × X)) (k : K) (v : X) → IsStrictlySortedBy cmp (keys_of l) → IsStrictlySortedBy cmp (keys_of (insert_entry cmp l k v))
    unfolding IsStrictlySortedBy
    sorted_put [] k v sorted = (tt, tt)
    sorted_put (e ∷ es) k v sorted =
        sorted_match k v e es (insert_entry cmp es k v) (cmp k e.0) refl sorted (sorted_put es k v sorted.1)
        (λ less. below_put e.0 k v es less sorted.0)

    below_cond : (x : K) (b : Bool) (xs ys : List (K × X)) → AllByRecursion (λ y. cmp x y ≡ Less) (keys_of xs) → AllByRecursion (λ y. cmp x y ≡ Less) (keys_of ys) → AllByRecursion (λ y. cmp x y ≡ Less) (keys_of (cond b xs ys))
    below_cond x true xs ys h k = h
    below_cond x false xs ys h k = k

    below_without : (x k : K) (l : List (K × X)) → AllByRecursion (λ y. cmp x y ≡ Less) (keys_of l) → AllByRecursion (λ y. cmp x y ≡ Less) (keys_of (remove_entry (is_at (cmp k)) l))
    below_without x k [] h = tt
    below_without x k (e ∷ es) h = below_cond x (is_at (cmp k) e.0) es (e ∷ remove_entry (is_at (cmp k)) es) h.1 (h.0, below_without x k es h.1)

    sorted_cond : (b : Bool) (xs ys : List (K × X)) → IsStrictlySortedBy cmp (keys_of xs) → IsStrictlySortedBy cmp (keys_of ys) → IsStrictlySortedBy cmp (keys_of (cond b xs ys))
    sorted_cond true xs ys h k = h
    sorted_cond false xs ys h k = k

    pub sorted_without : (l : List (K × X)) (k : K) → IsStrictlySortedBy cmp (keys_of l) → IsStrictlySortedBy cmp (keys_of (remove_entry (is_at (cmp k)) l))
    unfolding IsStrictlySortedBy
    sorted_without [] k sorted = tt
    sorted_without (e ∷ es) k sorted =
        sorted_cond (is_at (cmp k) e.0) es (e ∷ remove_entry (is_at (cmp k)) es) sorted.1
        (below_without e.0 k es sorted.0, sorted_without es k sorted.1)

    -- the comparisons with k rise along the list, as a binary search asks
    rises : (l : List (K × X)) (k : K) → IsStrictlySortedBy cmp (keys_of l) → IsNonDecreasingBy (λ e. ordering_index (cmp e.0 k)) l
    unfolding IsStrictlySortedBy
    rises [] k sorted i j d le lt = absurd (omega arith)
    rises (e ∷ es) k sorted zero zero d le lt = omega arith
    rises (e ∷ es) k sorted zero (suc j) d le lt = rises_by k e.0 (get_or es j d).0 (cmp (get_or es j d).0 k) (all_above e.0 es j d sorted.0 (omega arith)) refl
    rises (e ∷ es) k sorted (suc i) zero d le lt = absurd (omega arith)
    rises (e ∷ es) k sorted (suc i) (suc j) d le lt = rises es k sorted.1 i j d (omega arith) (omega arith)

    -- where a binary search by key ends
    pub searched : (l : List (K × X)) (k : K) (r : Result ℕ ℕ) → IsStrictlySortedBy cmp (keys_of l) → IsSearchInRange r (length l) → IsBinarySearchResult (λ e. cmp e.0 k) l r
        → IfOk r (IsAt cmp l k) × IfErr r (IsGap cmp l k)
    searched l k (Ok i) sorted inside equal = (record { inside = inside; equal = equal }, tt)
    searched l k (Err i) sorted inside parts =
        let both = parts (rises l k sorted) in
        (tt, record { inside = inside; before = λ j d lt. both.0 j d (omega arith) lt; after = λ j d le lt. both.1 j d le lt })
