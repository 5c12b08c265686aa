use Rattle.std.proofs.Common.{rules}
use Rattle.std.proofs.lemmas.List.Sorted.{answers_always}
use Rattle.sentry_plain.proofs.RowLemmas.{searched_rows}
use Rattle.sentry_plain.specs.Rows.{number_of}
use Rattle.sentry_plain.proofs.table.rows.search.Goals as goal

pub returns : goal.returns
returns g c =
    let facts = c.binary_search_by_key.ensures in
    let by_key = facts.position number_of (answers_always _ _ _ (λ f a r h called. search rules)) in
    let both = searched_rows c.args.rows.now c.args.number _ c.requires facts.bound by_key in
    record { found = both.0; absent = both.1 }
