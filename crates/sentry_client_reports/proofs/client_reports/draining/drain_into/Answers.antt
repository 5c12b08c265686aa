use Rattle.std.proofs.Common.{ap, ◌∙◌, get_or}
use Rattle.sentry_client_reports.proofs.LossDrains.{drain_first}
use Rattle.sentry_client_reports.proofs.client_reports.draining.drain_into.Goals as goal

-- what was taken under the first flag that was up
pub drain_from-requires-clause-quiet : goal.drain_from-requires-clause-quiet
drain_from-requires-clause-quiet c =
    (drain_first c.in-Some.first c.args.part.now.seat.me.0.steps c.first_up.new.part.seat.me.0.steps c.take_counters.new.part.seat.me.0.steps
    c.take_counters.new.taken c.in-Some.ensures.steps c.take_counters.ensures.steps
    (λ i apart. c.take_counters.ensures.others i apart ∙ ap (λ l. get_or l i 0) c.clear.ensures)).1

-- and then under the others
pub returns-clause-steps : goal.returns-clause-steps
returns-clause-steps c =
    c.drain_from.ensures.steps c.args.part.now.seat.me.0.steps
    (drain_first c.in-Some.first c.args.part.now.seat.me.0.steps c.first_up.new.part.seat.me.0.steps c.take_counters.new.part.seat.me.0.steps
    c.take_counters.new.taken c.in-Some.ensures.steps c.take_counters.ensures.steps
    (λ i apart. c.take_counters.ensures.others i apart ∙ ap (λ l. get_or l i 0) c.clear.ensures)).0
