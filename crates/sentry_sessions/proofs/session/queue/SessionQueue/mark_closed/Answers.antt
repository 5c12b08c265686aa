use Rattle.std.proofs.Common.{ap, ◌∙◌}
use Rattle.sentry_sessions.specs.QueueSteps.{enqueue}
use Rattle.sentry_sessions.specs.Sessions.{update_of}
use Rattle.sentry_sessions.specs.SessionSteps.{close}
use Rattle.sentry_sessions.proofs.QueueLemmas.{enqueue_is}
use Rattle.sentry_sessions.proofs.session.queue.SessionQueue.mark_closed.Goals as goal

pub returns-clause-after : goal.returns-clause-after
returns-clause-after c = λ mode history old.
    let update = update_of (close c.args.status c.args.now c.args.session.now) in
    c.in_ok-keep_closed.ensures.after ∙ (ap (enqueue update) old ∙ enqueue_is mode update history)
