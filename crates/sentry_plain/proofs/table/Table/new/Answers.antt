use Rattle.sentry_plain.proofs.TableLemmas.{table_empty}
use Rattle.sentry_plain.proofs.table.Table.new.Goals as goal

pub invariant_of-result : goal.invariant_of-result
invariant_of-result g c = table_empty c.new.result.items c.new.ensures.items
