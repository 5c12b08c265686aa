use Rattle.std.proofs.Common.{◌∙◌, sym}
use Rattle.sentry_plain.proofs.StepLemmas.{skips, stops_at}
use Rattle.sentry_plain.proofs.table.rows.next_row.Goals as goal

pub returns-then-is_next : goal.returns-then-is_next
returns-then-is_next g c =
    stops_at c.args.after c.args.rows.now c.loop-place.place c.number.result c.index-rows-place.result c.requires c.loop-place-test.true c.index-rows-place.is
    (sym c.is_next.ensures ∙ c.if-is_next.true) c.loop-place.invariant c.number.ensures

pub loop-place-preserved : goal.loop-place-preserved
loop-place-preserved g c =
    skips c.args.after c.args.rows.now c.loop-place.place c.index-rows-place.result c.loop-place-test.true c.index-rows-place.is
    (sym c.is_next.ensures ∙ c.if-is_next.false) c.loop-place.invariant
