use Rattle.std.proofs.Common.{◌∙◌, ap, sym}
use Rattle.std.specs.Slice.Iter.{iter_rest}
use Rattle.sentry_plain.specs.Rows.{live_rows, with_row}
use Rattle.sentry_plain.proofs.table.iter.next_full.Goals as goal

pub returns-in-Full : goal.returns-in-Full
returns-in-Full g c =
    sym c.loop-row.invariant
    ∙ ap live_rows c.in-Some.ensures.steps
    ∙ ap (λ r. with_row r (live_rows (iter_rest c.next.new.self))) c.in-Full.is
