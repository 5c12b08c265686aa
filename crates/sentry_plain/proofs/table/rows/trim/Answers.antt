use Rattle.sentry_plain.proofs.TableLemmas.{table_full}
use Rattle.sentry_plain.proofs.table.rows.trim.Goals as goal

pub returns-then-count-full-clause-table : goal.returns-then-count-full-clause-table
returns-then-count-full-clause-table g c =
    table_full c.drop_last_empty.new.rows.items c.compact.new.rows.items c.args.full c.drop_last_empty.ensures.table c.compact.ensures.live c.compact.ensures.numbers
