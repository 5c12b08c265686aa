use Rattle.sentry_transport.specs.QueueHistories.{limit_call}
use Rattle.sentry_transport.proofs.MadeLemmas.{made_after_call}
use Rattle.sentry_transport.proofs.timed_queue.TimedQueue.limit.Goals as goal

pub invariant_of-self : goal.invariant_of-self
invariant_of-self g c =
    let self = c.args.self.now in
    let call = limit_call c.args.category c.args.until in
    record { made = made_after_call call self.queue c.limit.new.self c.limit.ensures self.made }
