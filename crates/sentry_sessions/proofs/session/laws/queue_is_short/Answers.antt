use Rattle.sentry_sessions.proofs.QueueLemmas.{queue_is_short_is}
use Rattle.sentry_sessions.proofs.session.laws.queue_is_short.Goals as goal

pub returns : goal.returns
returns c = queue_is_short_is
