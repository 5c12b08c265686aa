use Rattle.std.proofs.Common.{ap, ◌∙◌}
use Rattle.sentry_sessions.specs.QueueSteps.{clear}
use Rattle.sentry_sessions.proofs.QueueLemmas.{clear_is}
use Rattle.sentry_sessions.proofs.session.queue.SessionQueue.mark_flushed.Goals as goal

pub returns : goal.returns
returns c = λ mode history old. c.clear.ensures ∙ (ap clear old ∙ clear_is mode history)
