use Rattle.sentry_transport.proofs.RecordingLemmas.{stands_new}
use Rattle.sentry_transport.proofs.queueing.queue_core.QueueCore.new.Goals as goal

pub returns-clause-stands : goal.returns-clause-stands
returns-clause-stands c = stands_new _ c.args.recorder _ _ _ c.max-capacity.ensures c.in_ok-envelopes.ensures.items c.none.ensures
