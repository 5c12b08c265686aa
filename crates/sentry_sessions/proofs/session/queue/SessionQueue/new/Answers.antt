use Rattle.std.proofs.Common.{◌∙◌}
use Rattle.sentry_sessions.proofs.QueueLemmas.{new_is}
use Rattle.sentry_sessions.proofs.session.queue.SessionQueue.new.Goals as goal

pub returns : goal.returns
returns c = c.nothing.ensures ∙ new_is c.args.mode
