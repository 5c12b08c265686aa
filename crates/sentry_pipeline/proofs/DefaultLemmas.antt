-- What becomes of no attributes, once the defaults were put in.
use Rattle.std.proofs.Common.{◌≡◌, refl, sym, ap, ◌∙◌, subst, List, [], ◌∷◌, ◌++◌, Bool, false, cond, Option, Some, None, is_eq, append_assoc, append-nil, Less, Greater}
use Rattle.std.proofs.lemmas.Cmp.{nat_list_cmp_total}
use Rattle.std.specs.Option.{is_some}
use Rattle.std.specs.Ordering.{ordering_reverse}
use Rattle.std.specs.List.{AllByRecursion}
use Rattle.std.specs.List.Sorted.{IsStrictlySortedBy}
use Rattle.std.specs.Map.{keys_of}
use Rattle.sentry_plain.specs.Texts.{Bytes, text_cmp, put, value_at}
use Rattle.sentry_plain.specs.Defaults.{with_default}
use Rattle.sentry_plain.proofs.MergeLemmas.{put_last}
use Rattle.sentry_base.specs.declared.protocol.log.LogAttribute.{LogAttribute}
use Rattle.sentry_scope.specs.Fills.{Attributes}
use Rattle.sentry_pipeline.specs.Pipeline.{fill_defaults}

-- the key of an entry is above those before it
above_first : (k : Bytes) (done : Attributes) (e : Bytes × LogAttribute) (more : Attributes)
    → AllByRecursion (λ y. text_cmp k y ≡ Less) (keys_of (done ++ e ∷ more)) → text_cmp k e.0 ≡ Less
above_first k [] e more h = h.0
above_first k (x ∷ done) e more h = above_first k done e more h.1

-- nothing before an entry has its key
none_before : (done : Attributes) (e : Bytes × LogAttribute) (more : Attributes)
    → IsStrictlySortedBy text_cmp (keys_of (done ++ e ∷ more)) → value_at done e.0 ≡ None
unfolding IsStrictlySortedBy
none_before [] e more h = refl
none_before (first ∷ done) e more h =
    let above : text_cmp e.0 first.0 ≡ Greater =
    nat_list_cmp_total.antisymm e.0 first.0 ∙ ap ordering_reverse (above_first first.0 done e more h.0) in
    ap (λ o. cond (is_eq o) (Some first.1) (value_at done e.0)) above ∙ none_before done e more h.1

-- a default above all that were put in goes last
default_last : (done : Attributes) (e : Bytes × LogAttribute) (more : Attributes)
    → IsStrictlySortedBy text_cmp (keys_of (done ++ e ∷ more)) → with_default e.0 e.1 done ≡ done ++ e ∷ []
default_last done e more h =
    ap (λ o. cond (is_some o) done (put done e.0 e.1)) (none_before done e more h) ∙ put_last done e more h

-- defaults above all that were put in go last
filled_above : (done defaults : Attributes) → IsStrictlySortedBy text_cmp (keys_of (done ++ defaults))
    → fill_defaults defaults done ≡ done ++ defaults
filled_above done [] h = sym (append-nil done)
filled_above done (e ∷ es) h =
    let all : done ++ e ∷ es ≡ (done ++ e ∷ []) ++ es = sym (append_assoc done (e ∷ []) es) in
    ap (fill_defaults es) (default_last done e es h)
    ∙ filled_above (done ++ e ∷ []) es (subst (λ (all : Attributes). IsStrictlySortedBy text_cmp (keys_of all)) all h)
    ∙ sym all

-- no attributes become the defaults
pub filled_nil : (defaults : Attributes) → IsStrictlySortedBy text_cmp (keys_of defaults) → fill_defaults defaults [] ≡ defaults
filled_nil defaults h = filled_above [] defaults h
