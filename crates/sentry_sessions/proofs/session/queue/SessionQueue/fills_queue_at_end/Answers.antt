use Rattle.std.proofs.Common.{sym, ◌∙◌}
use Rattle.sentry_sessions.specs.Sessions.{update_of}
use Rattle.sentry_sessions.specs.SessionSteps.{close}
use Rattle.sentry_sessions.proofs.QueueLemmas.{quiet_is}
use Rattle.sentry_sessions.proofs.SessionLemmas.{close_init}
use Rattle.sentry_sessions.proofs.session.queue.SessionQueue.fills_queue_at_end.Goals as goal

pub returns-clause-test : goal.returns-clause-test
returns-clause-test c = λ status now.
    c.is_hundredth-sends.ensures (update_of (close status now c.args.session.now)) (close_init status now c.args.session.now)

pub returns-clause-none : goal.returns-clause-none
returns-clause-none c = λ mode history status now is down.
    let update = update_of (close status now c.args.session.now) in
    quiet_is mode update history c.args.self.now is
    (sym (c.is_hundredth-sends.ensures update (close_init status now c.args.session.now)) ∙ down)
