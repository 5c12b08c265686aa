use Rattle.std.proofs.Common.{arith, set, subst, sym}
use Rattle.sentry_plain.proofs.RowLemmas.{length-live}
use Rattle.sentry_plain.proofs.TableLemmas.{put_row, table_filled}
use Rattle.sentry_plain.specs.Rows.{IsTable}
use Rattle.sentry_plain.specs.declared.table.rows.Row.TheVariants.{Full}
use Rattle.sentry_plain.proofs.table.rows.fill.Goals as goal

pub count_with-count-requires : goal.count_with-count-requires
count_with-count-requires g c = let most = length-live c.args.rows.now.items in omega (arith, most, c.requires.table.count)

pub returns-clause-live : goal.returns-clause-live
returns-clause-live g c = sym (put_row c.args.rows.now.items c.args.full c.args.number c.args.place c.requires.table c.requires.at c.index.result.now c.index.ensures c.args.value)

pub returns-clause-table : goal.returns-clause-table
returns-clause-table g c =
    subst (IsTable (set c.args.rows.now.items c.args.place (Full c.args.number c.args.value))) (sym c.count_with-count.ensures)
    (table_filled c.args.rows.now.items c.args.full c.args.number c.args.place c.requires.table c.requires.at c.index.result.now c.index.ensures c.args.value)
