use Rattle.std.proofs.Common.{◌∙◌}
use Rattle.sentry_sessions.proofs.QueueLemmas.{sent_is, left_is}
use Rattle.sentry_sessions.proofs.session.queue.SessionQueue.take_on.Goals as goal

pub returns-clause-sent : goal.returns-clause-sent
returns-clause-sent c = λ mode history old.
    c.in_ok-taken.ensures.sent ∙ sent_is mode c.args.update history c.args.self.now old c.requires

pub returns-clause-after : goal.returns-clause-after
returns-clause-after c = λ mode history old.
    c.in_ok-taken.ensures.after ∙ left_is mode c.args.update history c.args.self.now old c.requires
