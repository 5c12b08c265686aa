use Rattle.std.proofs.Common.{sym}
use Rattle.sentry_plain.proofs.TableLemmas.{gap_of, without_absent}
use Rattle.sentry_plain.proofs.table.rows.drop_value.Goals as goal

pub returns-in-Err-clause-live : goal.returns-in-Err-clause-live
returns-in-Err-clause-live g c =
    sym (without_absent c.args.rows.now.items c.args.full.now c.args.number c.in-Err.field-0 c.requires
    (gap_of c.as_slice.result.now c.args.rows.now.items c.args.number c.in-Err.field-0 c.as_slice.ensures.value c.in-Err.ensures.absent))
