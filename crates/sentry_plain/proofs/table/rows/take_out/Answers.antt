use Rattle.std.proofs.Common.{◌-◌, ◌∙◌, arith, sym}
use Rattle.sentry_plain.proofs.TableLemmas.{fewer, table_taken, value_row, without_row}
use Rattle.sentry_plain.proofs.table.rows.take_out.Goals as goal

pub returns-in_err-value-clause-value : goal.returns-in_err-value-clause-value
returns-in_err-value-clause-value g c =
    c.from_residual.ensures ∙ sym c.in_err-value.was ∙ c.take.ensures.value
    ∙ sym (value_row c.args.rows.now.items c.args.full.now c.args.number c.args.place c.requires.table c.requires.at c.index_mut.result.now c.index_mut.ensures.value)

pub returns-in_err-value-clause-live : goal.returns-in_err-value-clause-live
returns-in_err-value-clause-live g c =
    sym (without_row c.args.rows.now.items c.args.full.now c.args.number c.args.place c.requires.table c.requires.at c.index_mut.result.now c.index_mut.ensures.value c.take.new.self c.take.ensures.rest)

pub overflow_sub-full : goal.overflow_sub-full
overflow_sub-full g c =
    let less = fewer c.args.rows.now.items c.args.full.now c.args.number c.args.place c.requires.table c.requires.at c.index_mut.result.now c.index_mut.ensures.value c.in_ok-value.value c.take.new.self
    (sym c.take.ensures.value ∙ c.in_ok-value.was) c.take.ensures.rest in
    omega (arith, less)

pub returns-clause-value : goal.returns-clause-value
returns-clause-value g c =
    sym c.in_ok-value.was ∙ c.take.ensures.value
    ∙ sym (value_row c.args.rows.now.items c.args.full.now c.args.number c.args.place c.requires.table c.requires.at c.index_mut.result.now c.index_mut.ensures.value)

pub returns-clause-live : goal.returns-clause-live
returns-clause-live g c =
    sym (without_row c.args.rows.now.items c.args.full.now c.args.number c.args.place c.requires.table c.requires.at c.index_mut.result.now c.index_mut.ensures.value c.take.new.self c.take.ensures.rest)

pub returns-clause-table : goal.returns-clause-table
returns-clause-table g c =
    let some = sym c.take.ensures.value ∙ c.in_ok-value.was in
    let less = fewer c.args.rows.now.items c.args.full.now c.args.number c.args.place c.requires.table c.requires.at c.index_mut.result.now c.index_mut.ensures.value c.in_ok-value.value c.take.new.self some c.take.ensures.rest in
    table_taken c.args.rows.now.items c.args.full.now c.args.number c.args.place c.requires.table c.requires.at c.index_mut.result.now c.index_mut.ensures.value (c.args.full.now - 1) c.in_ok-value.value c.take.new.self some c.take.ensures.rest
    (omega (arith, less))
