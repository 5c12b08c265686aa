use Rattle.std.proofs.Common.{◌∙◌, subst}
use Rattle.std.specs.List.Sorted.{IsStrictlySortedBy}
use Rattle.std.specs.Map.{keys_of}
use Rattle.sentry_plain.specs.Texts.{text_cmp}
use Rattle.sentry_plain.proofs.text_map.TextMap.iter.Goals as goal

pub returns-in_default-clause-ordered : goal.returns-in_default-clause-ordered
unfolding IsStrictlySortedBy
returns-in_default-clause-ordered g c =
    subst (λ m. IsStrictlySortedBy text_cmp (keys_of m)) (c.in_default.ensures ∙ c.self.view_is) tt
