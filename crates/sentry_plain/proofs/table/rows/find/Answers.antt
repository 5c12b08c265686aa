use Rattle.std.proofs.Common.{◌-◌, arith, length}
use Rattle.sentry_plain.proofs.RowLemmas.{past_last_row}
use Rattle.sentry_plain.proofs.table.rows.find.Goals as goal

pub returns-then-last-number-2-clause-absent : goal.returns-then-last-number-2-clause-absent
returns-then-last-number-2-clause-absent g c =
    past_last_row c.args.rows.now c.args.number (length c.args.rows.now - 1) c.index-rows-count.result c.requires
    (omega (arith, c.if-count-eq0.false)) c.index-rows-count.is (omega (arith, c.number-last.ensures, c.if-last-number-2.true))
