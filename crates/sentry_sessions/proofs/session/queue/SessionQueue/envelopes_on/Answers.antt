use Rattle.std.proofs.Common.{ap, ◌∙◌}
use Rattle.sentry_sessions.specs.QueueSteps.{envelopes_on_enqueue}
use Rattle.sentry_sessions.proofs.QueueLemmas.{envelopes_on_is}
use Rattle.sentry_sessions.proofs.session.queue.SessionQueue.envelopes_on.Goals as goal

pub returns : goal.returns
returns c = λ mode history now.
    c.in_ok-envelopes.ensures ∙ (ap (envelopes_on_enqueue c.args.update.now) now ∙ envelopes_on_is mode c.args.update.now history)
