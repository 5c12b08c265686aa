-- The entries of a map from texts, in the order of the keys.
use Rattle.std.proofs.Common.{◌≡◌, ℕ, List, [], ◌∷◌, set, ap, ◌∙◌, sym, subst, get_or}
use Rattle.std.proofs.lemmas.Cmp.{nat_list_cmp_total}
use Rattle.std.proofs.lemmas.Map.Lookups.{exact_bytes}
use Rattle.std.specs.List.Sorted.{IsStrictlySortedBy}
use Rattle.std.specs.Map.{keys_of}
use Rattle.sentry_plain.specs.Places.{IsAt}
use Rattle.sentry_plain.specs.Texts.{Bytes, put, text_cmp}
use Rattle.sentry_plain.proofs.SortedLemmas.{put_at}

module _ {V : Type 0} where
  -- no entries are in order
  pub empty_sorted : (m : List (Bytes × V)) → m ≡ [] → IsStrictlySortedBy text_cmp (keys_of m)
  unfolding IsStrictlySortedBy
  empty_sorted m e = subst (λ (l : List (Bytes × V)). IsStrictlySortedBy text_cmp (keys_of l)) (sym e) tt

  -- so is one entry
  pub one_sorted : (m : List (Bytes × V)) (k : Bytes) (v : V) → m ≡ (k, v) ∷ [] → IsStrictlySortedBy text_cmp (keys_of m)
  unfolding IsStrictlySortedBy
  one_sorted m k v e = subst (λ (l : List (Bytes × V)). IsStrictlySortedBy text_cmp (keys_of l)) (sym e) (tt, tt)

  -- a key that is there takes the value
  pub set_here : (l : List (Bytes × V)) (k : Bytes) (v : V) (i : ℕ) → IsStrictlySortedBy text_cmp (keys_of l) → IsAt text_cmp l k i → set l i (k, v) ≡ put l k v
  set_here l k v i sorted at =
      let same : (get_or l i (k, v)).0 ≡ k = exact_bytes (get_or l i (k, v)).0 k (at.equal (k, v)) in
      sym (put_at text_cmp nat_list_cmp_total l k v i (k, v) sorted at ∙ ap (λ (q : Bytes). set l i (q, v)) same)
