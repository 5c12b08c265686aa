use Rattle.sentry_transport.proofs.QueueLemmas.{taken_then_queued, queue_is_bounded}
use Rattle.sentry_transport.proofs.queueing.queue_core.queue_keeps_order.Goals as goal

pub returns-clause-order : goal.returns-clause-order
returns-clause-order c = taken_then_queued

pub returns-clause-bound : goal.returns-clause-bound
returns-clause-bound c = queue_is_bounded
