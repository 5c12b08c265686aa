use Rattle.std.proofs.Common.{ap, ◌∙◌}
use Rattle.sentry_sessions.specs.QueueSteps.{enqueue}
use Rattle.sentry_sessions.proofs.QueueLemmas.{enqueue_is}
use Rattle.sentry_sessions.proofs.session.queue.SessionQueue.mark_enqueued.Goals as goal

pub returns-clause-after : goal.returns-clause-after
returns-clause-after c = λ mode history old.
    c.in_ok-keep.ensures.after ∙ (ap (enqueue c.args.update) old ∙ enqueue_is mode c.args.update history)
