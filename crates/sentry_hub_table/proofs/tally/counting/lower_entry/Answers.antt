use Rattle.std.proofs.Common.{sym, arith, ◌-◌}
use Rattle.sentry_plain.proofs.CountLemmas.{count_lowered}
use Rattle.sentry_hub_table.proofs.TallyLemmas.{sum_replaced}
use Rattle.sentry_hub_table.proofs.tally.counting.lower_entry.Goals as goal

-- one less at the number
pub returns-clause-each : goal.returns-clause-each
returns-clause-each c = λ n.
    let some = c.if-count-eq0.false in
    count_lowered c.args.counts.now c.args.number c.in-Some.count.now n (sym c.in-Some.ensures.value) (omega (arith, some))

pub returns-clause-total : goal.returns-clause-total
returns-clause-total c =
    let some = c.if-count-eq0.false in
    let down = sum_replaced c.args.counts.now c.args.number c.in-Some.count.now (c.in-Some.count.now - 1) (sym c.in-Some.ensures.value) in
    omega (arith, some)
