use Rattle.std.proofs.Common.{◌∙◌, ap, sym}
use Rattle.sentry_plain.proofs.TableLemmas.{gap_of, row_of, value_absent, value_row}
use Rattle.sentry_plain.specs.Tables.{value_at}
use Rattle.sentry_plain.proofs.table.Table.get_near.Goals as goal

pub returns-in-Ok : goal.returns-in-Ok
returns-in-Ok g c =
    let rows = c.self.inside.rows.items in
    let at = row_of c.as_slice.result.now rows c.args.number c.in-Ok.place c.as_slice.ensures.value c.in-Ok.ensures.found in
    c.value.ensures
    ∙ sym (value_row rows c.self.inside.full c.args.number c.in-Ok.place c.self.invariant at c.index.result.now c.index.ensures)
    ∙ ap (λ m. value_at m c.args.number) c.self.view_is

pub returns-in-Err : goal.returns-in-Err
returns-in-Err g c =
    let rows = c.self.inside.rows.items in
    let gap = gap_of c.as_slice.result.now rows c.args.number c.in-Err.field-0 c.as_slice.ensures.value c.in-Err.ensures.absent in
    sym (value_absent rows c.self.inside.full c.args.number c.in-Err.field-0 c.self.invariant gap)
    ∙ ap (λ m. value_at m c.args.number) c.self.view_is
