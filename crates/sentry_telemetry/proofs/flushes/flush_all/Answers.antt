use Rattle.std.proofs.Common.{ap}
use Rattle.sentry_state.specs.declared.state.Queues.{Queues}
use Rattle.sentry_telemetry.proofs.flushes.flush_all.Goals as goal

-- each queue stands for its history with a flush
pub returns-clause-queues : goal.returns-clause-queues
returns-clause-queues c = λ options before is.
    let sessions = c.mark_flushed.ensures options.session_mode before.sessions (ap (λ (queues : Queues). queues.sessions) is) in
    let logs = c.take.ensures.queue options.max_batch_items before.logs before.log_tick (ap (λ (queues : Queues). queues.logs) is) in
    let metrics = c.take-2.ensures.queue options.max_batch_items before.metrics before.metric_tick (ap (λ (queues : Queues). queues.metrics) is) in
    λ i. record { sessions = sessions i; session_tick = (is i).session_tick; logs = logs i; metrics = metrics i }

pub returns-clause-logs : goal.returns-clause-logs
returns-clause-logs c = λ options before is.
    c.take.ensures.batch options.max_batch_items before.logs before.log_tick (ap (λ (queues : Queues). queues.logs) is)

pub returns-clause-metrics : goal.returns-clause-metrics
returns-clause-metrics c = λ options before is.
    c.take-2.ensures.batch options.max_batch_items before.metrics before.metric_tick (ap (λ (queues : Queues). queues.metrics) is)
