use Rattle.std.proofs.Common.{subst}
use Rattle.std.specs.List.Sorted.{IsStrictlySortedBy}
use Rattle.std.specs.Map.{keys_of}
use Rattle.sentry_plain.proofs.TextLemmas.{sorted_bytes}
use Rattle.sentry_plain.specs.Texts.{text_cmp}
use Rattle.sentry_plain.specs.ValueView.{data_of}
use Rattle.sentry_plain.proofs.value.ValueMap.iter.Goals as goal

pub returns-clause-ordered : goal.returns-clause-ordered
returns-clause-ordered c =
    subst (λ m. IsStrictlySortedBy text_cmp (keys_of m)) c.self.view_is (sorted_bytes data_of c.self.inside.entries.entries c.iter.ensures.ordered)
