use Rattle.std.proofs.Common.{sym, ◌∙◌}
use Rattle.sentry_sessions.specs.Sessions.{update_of}
use Rattle.sentry_sessions.specs.SessionSteps.{close}
use Rattle.sentry_sessions.proofs.QueueLemmas.{appended_is}
use Rattle.sentry_sessions.proofs.SessionLemmas.{close_init}
use Rattle.sentry_sessions.proofs.session.queue.SessionQueue.keep_closed.Goals as goal

pub returns-clause-after : goal.returns-clause-after
returns-clause-after c =
    let update = update_of (close c.args.status c.args.now c.args.session.now) in
    c.in_ok-append.ensures.after
    ∙ appended_is update c.args.self.now
    (sym (c.counts_session.ensures update (close_init c.args.status c.args.now c.args.session.now)) ∙ c.if-counts_session.false)
    (sym c.lacks_one.ensures ∙ c.if-lacks_one.false)
