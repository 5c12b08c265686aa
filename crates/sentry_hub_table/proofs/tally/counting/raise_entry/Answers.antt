use Rattle.std.proofs.Common.{sym, arith, ◌+◌}
use Rattle.sentry_plain.proofs.CountLemmas.{count_raised}
use Rattle.sentry_hub_table.proofs.TallyLemmas.{sum_replaced}
use Rattle.sentry_hub_table.proofs.tally.counting.raise_entry.Goals as goal

-- one more at the number
pub returns-clause-each : goal.returns-clause-each
returns-clause-each c = λ n.
    count_raised c.args.counts.now c.args.number c.in-Some.count.now n (sym c.in-Some.ensures.value)

pub returns-clause-total : goal.returns-clause-total
returns-clause-total c =
    let up = sum_replaced c.args.counts.now c.args.number c.in-Some.count.now (c.in-Some.count.now + 1) (sym c.in-Some.ensures.value) in
    omega arith
