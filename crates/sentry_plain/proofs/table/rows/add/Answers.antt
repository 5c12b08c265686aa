use Rattle.std.proofs.Common.{◌+◌, ◌++◌, ◌∷◌, ◌∙◌, [], ap, arith, subst, sym}
use Rattle.sentry_plain.proofs.RowLemmas.{length-live}
use Rattle.sentry_plain.proofs.TableLemmas.{pushed, put_absent, table_added}
use Rattle.sentry_plain.specs.Rows.{live_rows, IsTable}
use Rattle.sentry_plain.specs.declared.table.rows.Row.TheVariants.{Full}
use Rattle.sentry_plain.proofs.table.rows.add.Goals as goal

pub returns-then-place-len-clause-live : goal.returns-then-place-len-clause-live
returns-then-place-len-clause-live g c =
    ap live_rows (pushed c.args.rows.now.items c.push_reserved.new.self.items c.args.number c.args.place c.args.value (omega (arith, c.if-place-len.true, c.len.ensures))
    (c.push_reserved.ensures.items ∙ ap (λ rows. rows ++ Full c.args.number c.args.value ∷ []) c.reserve.ensures.items))
    ∙ sym (put_absent c.args.rows.now.items c.args.full c.args.number c.args.place c.requires.table c.requires.at c.args.value)

pub returns-then-place-len-clause-table : goal.returns-then-place-len-clause-table
returns-then-place-len-clause-table g c =
    subst (λ rows. IsTable rows (c.args.full + 1))
    (sym (pushed c.args.rows.now.items c.push_reserved.new.self.items c.args.number c.args.place c.args.value (omega (arith, c.if-place-len.true, c.len.ensures))
    (c.push_reserved.ensures.items ∙ ap (λ rows. rows ++ Full c.args.number c.args.value ∷ []) c.reserve.ensures.items)))
    (table_added c.args.rows.now.items c.args.full c.args.number c.args.place c.requires.table c.requires.at c.args.value)

pub overflow_add-result-2 : goal.overflow_add-result-2
overflow_add-result-2 g c = let most = length-live c.args.rows.now.items in omega (arith, most, c.requires.table.count)

pub overflow_add-result : goal.overflow_add-result
overflow_add-result g c = let most = length-live c.args.rows.now.items in omega (arith, most, c.requires.table.count)

pub returns-clause-live : goal.returns-clause-live
returns-clause-live g c =
    ap live_rows c.in_ok-insert.ensures.items
    ∙ sym (put_absent c.args.rows.now.items c.args.full c.args.number c.args.place c.requires.table c.requires.at c.args.value)

pub returns-clause-table : goal.returns-clause-table
returns-clause-table g c =
    subst (λ rows. IsTable rows (c.args.full + 1)) (sym c.in_ok-insert.ensures.items)
    (table_added c.args.rows.now.items c.args.full c.args.number c.args.place c.requires.table c.requires.at c.args.value)
