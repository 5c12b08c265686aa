use Rattle.std.proofs.Common.{◌-◌, ◌∙◌, arith, sym}
use Rattle.sentry_plain.proofs.TableLemmas.{fewer_cleared, table_cleared, without_row}
use Rattle.sentry_plain.proofs.table.rows.clear_row.Goals as goal

pub overflow_sub-full : goal.overflow_sub-full
overflow_sub-full g c =
    let some = sym c.clear.ensures.was ∙ c.if-clear.true in
    let less = fewer_cleared c.args.rows.now.items c.args.full.now c.args.number c.args.place c.requires.table c.requires.at c.index_mut.result.now c.index_mut.ensures.value c.clear.new.self some c.clear.ensures.rest in
    omega (arith, less)

pub returns-then-clear-clause-live : goal.returns-then-clear-clause-live
returns-then-clear-clause-live g c =
    sym (without_row c.args.rows.now.items c.args.full.now c.args.number c.args.place c.requires.table c.requires.at c.index_mut.result.now c.index_mut.ensures.value c.clear.new.self c.clear.ensures.rest)

pub returns-then-clear-clause-table : goal.returns-then-clear-clause-table
returns-then-clear-clause-table g c =
    let some = sym c.clear.ensures.was ∙ c.if-clear.true in
    let less = fewer_cleared c.args.rows.now.items c.args.full.now c.args.number c.args.place c.requires.table c.requires.at c.index_mut.result.now c.index_mut.ensures.value c.clear.new.self some c.clear.ensures.rest in
    table_cleared c.args.rows.now.items c.args.full.now c.args.number c.args.place c.requires.table c.requires.at c.index_mut.result.now c.index_mut.ensures.value (c.args.full.now - 1) c.clear.new.self some c.clear.ensures.rest
    (omega (arith, less))

pub returns-else-clear-clause-live : goal.returns-else-clear-clause-live
returns-else-clear-clause-live g c =
    sym (without_row c.args.rows.now.items c.args.full.now c.args.number c.args.place c.requires.table c.requires.at c.index_mut.result.now c.index_mut.ensures.value c.clear.new.self c.clear.ensures.rest)
