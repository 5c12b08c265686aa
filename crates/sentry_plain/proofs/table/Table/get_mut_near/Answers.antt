use Rattle.std.proofs.Common.{◌∙◌, ap, inl, sym}
use Rattle.sentry_plain.proofs.TableLemmas.{replace_row, row_of, table_replaced, value_row}
use Rattle.sentry_plain.specs.Tables.{replace_at, value_at}
use Rattle.sentry_plain.proofs.table.Table.get_mut_near.Goals as goal

pub invariant_of-self-lent : goal.invariant_of-self-lent
invariant_of-self-lent g c w =
    let rows = c.self.inside.rows.items in
    let at = row_of c.as_slice-rows.result.now rows c.args.number c.in_ok-place.place c.as_slice-rows.ensures.value c.in_ok-place.ensures.found in
    table_replaced rows c.self.inside.full c.args.number c.in_ok-place.place c.self.invariant at c.index_mut.result.now c.index_mut.ensures.value c.value_mut.result.now w c.value_mut.ensures.value

pub returns : goal.returns
returns g c =
    let rows = c.self.inside.rows.items in
    let at = row_of c.as_slice-rows.result.now rows c.args.number c.in_ok-place.place c.as_slice-rows.ensures.value c.in_ok-place.ensures.found in
    let written = λ (w : g.row.T.Denot).
    sym (replace_row rows c.self.inside.full c.args.number c.in_ok-place.place c.self.invariant at c.index_mut.result.now c.index_mut.ensures.value c.value_mut.result.now w c.value_mut.ensures.value)
    ∙ ap (λ m. replace_at m c.args.number w) c.self.view_is in (
      λ i. inl (c.value_mut.result.ghost_name, λ w. written w i),
      record {
        writes_back = tt;
        value =
            sym c.value_mut.ensures.value
            ∙ sym (value_row rows c.self.inside.full c.args.number c.in_ok-place.place c.self.invariant at c.index_mut.result.now c.index_mut.ensures.value)
            ∙ ap (λ m. value_at m c.args.number) c.self.view_is;
      },
    )
