use Rattle.std.proofs.Common.{◌∙◌, IfErr, IfOk, subst, sym}
use Rattle.sentry_plain.proofs.RowLemmas.{value_gap}
use Rattle.sentry_plain.proofs.TableLemmas.{value_none}
use Rattle.sentry_plain.specs.Rows.{IsRowGap, IsRowOf}
use Rattle.sentry_plain.proofs.table.rows.if_full.Goals as goal

pub returns-in_default-clause-absent : goal.returns-in_default-clause-absent
returns-in_default-clause-absent g c =
    let gap = subst (λ found. IfErr found (IsRowGap c.args.rows.now c.args.number)) c.in_default.is c.requires.gap in
    value_gap c.args.rows.now c.args.number c.in_default.field-0 gap

pub returns-then-not-is_full-clause-absent : goal.returns-then-not-is_full-clause-absent
returns-then-not-is_full-clause-absent g c =
    let at = subst (λ found. IfOk found (IsRowOf c.args.rows.now c.args.number)) c.in-Ok.is c.requires.row in
    value_none c.args.rows.now c.args.number c.in-Ok.place c.index-rows-place.result c.requires.sorted at c.index-rows-place.is (sym c.is_full.ensures ∙ c.if-not-is_full.true)
