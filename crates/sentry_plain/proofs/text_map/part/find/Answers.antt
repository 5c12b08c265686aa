use Rattle.std.proofs.Common.{rules}
use Rattle.std.proofs.lemmas.Fn.{always_returns_same}
use Rattle.std.proofs.lemmas.Cmp.{nat_list_cmp_total}
use Rattle.sentry_plain.specs.Texts.{text_cmp}
use Rattle.sentry_plain.proofs.SortedLemmas.{searched}
use Rattle.sentry_plain.proofs.text_map.part.find.Goals as goal

-- each call compares a key with the one that is looked for
pub returns : goal.returns
returns g c =
    let facts = c.binary_search_by.ensures in
    let by_key = facts.position (λ entry. text_cmp entry.0 c.args.key.now) (always_returns_same _ _ _ (λ a r f called. (search rules, search rules))) in
    let both = searched text_cmp nat_list_cmp_total c.args.entries.now c.args.key.now _ c.requires facts.bound by_key in
    record { found = both.0; absent = both.1 }
