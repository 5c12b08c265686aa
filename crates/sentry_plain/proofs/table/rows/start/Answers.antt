use Rattle.std.proofs.Common.{◌≡◌, ◌+◌, [], arith, take, subst, sym}
use Rattle.sentry_plain.proofs.StepLemmas.{none_before_gap, none_to_row}
use Rattle.sentry_plain.specs.Rows.{live_rows}
use Rattle.sentry_plain.specs.Tables.{entries_after}
use Rattle.sentry_plain.proofs.table.rows.start.Goals as goal

pub returns-in-Ok : goal.returns-in-Ok
returns-in-Ok g c =
    subst (λ a. entries_after a (live_rows (take (c.in-Ok.place + 1) c.args.rows.now)) ≡ []) (sym c.in-Some.is)
    (none_to_row c.args.rows.now c.in-Some.number c.in-Ok.place c.requires c.in-Ok.ensures.found)

pub returns-in-Err : goal.returns-in-Err
returns-in-Err g c =
    subst (λ a. entries_after a (live_rows (take c.in-Err.place c.args.rows.now)) ≡ []) (sym c.in-Some.is)
    (none_before_gap c.args.rows.now c.in-Some.number c.in-Err.place c.in-Err.ensures.absent)
