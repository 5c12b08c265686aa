use Rattle.sentry_transport.proofs.MadeLemmas.{made_within}
use Rattle.sentry_transport.proofs.timed_queue.TimedQueue.len.Goals as goal

pub returns-clause-within : goal.returns-clause-within
returns-clause-within g c = made_within c.args.self.now.queue c.len.result c.len.ensures c.args.self.now.made
