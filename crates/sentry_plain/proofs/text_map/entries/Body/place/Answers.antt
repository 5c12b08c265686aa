use Rattle.std.proofs.Common.{◌≡◌, ◌∷◌, ◌++◌, not, rules, sym, subst}
use Rattle.std.proofs.lemmas.Fn.{always_returns_same}
use Rattle.std.specs.List.Sorted.{IsStrictlySortedBy}
use Rattle.std.specs.Map.{keys_of}
use Rattle.sentry_plain.proofs.BodyLemmas.{apart}
use Rattle.sentry_plain.proofs.PartLemmas.{belongs, parted, sorted_right}
use Rattle.sentry_plain.specs.Parts.{AllFilled, BelongsAt, begins_after, joined}
use Rattle.sentry_plain.specs.Texts.{text_cmp}
use Rattle.sentry_plain.proofs.text_map.entries.Body.place.Goals as goal

-- the parts that don't begin after the key come first
pub returns : goal.returns
returns g c =
    let body = c.args.self.now in
    let key = c.args.key.now in
    let count = c.partition_point-begun.result in
    let others = c.as_slice.result.now in
    let same : others ≡ body.others.items = c.as_slice.ensures.value in
    let sorted = subst (λ ps. IsStrictlySortedBy text_cmp (keys_of (body.first ++ joined ps))) (sym same) c.requires.order in
    let filled = subst AllFilled (sym same) c.requires.filled in
    let parts = parted key others (sorted_right body.first (joined others) sorted) filled in
    let facts = c.partition_point-begun.ensures in
    let point = facts.partitioned (λ part. not (begins_after key part)) (always_returns_same _ _ _ (λ a r f called. (search rules, search rules))) parts in
    let at : BelongsAt key (body.first ∷ others) count = belongs key body.first others count sorted filled facts.bound point.0 point.1 in
    apart key body.first body.others.items count _ c.checked_sub.ensures (subst (λ ps. BelongsAt key (body.first ∷ ps) count) same at)
