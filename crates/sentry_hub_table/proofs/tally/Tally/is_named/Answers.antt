use Rattle.std.proofs.Common.{◌<◌, List, cond, subst}
use Rattle.std.specs.Prelude.{count_by, ◌==◌}
use Rattle.sentry_plain.specs.Counts.{count_at}
use Rattle.sentry_hub_table.specs.declared.tally.Key.{Key}
use Rattle.sentry_hub_table.specs.Entries.{is_key}
use Rattle.sentry_hub_table.proofs.TallyLemmas.{late_found, more}
use Rattle.sentry_hub_table.proofs.tally.Tally.is_named.Goals as goal

-- its key stands in the list
pub returns-in-Some : goal.returns-in-Some
returns-in-Some c =
    let tally = c.args.self.now in
    let key = c.args.key in
    let counted : 0 < count_by (is_key key) tally.late.items =
    subst (λ (late : List Key). 0 < count_by (is_key key) late) c.as_slice.ensures.value
    (late_found c.as_slice.result.now c.in-Some._place key c.in-Some.ensures.0 (c.in-Some.ensures.1 key)) in
    more (cond (key.tag == tally.tag) (count_at tally.counts key.number) 0) (count_by (is_key key) tally.late.items) counted
