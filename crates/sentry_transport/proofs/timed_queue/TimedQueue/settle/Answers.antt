use Rattle.sentry_transport.specs.QueueHistories.{settle_call}
use Rattle.sentry_transport.proofs.MadeLemmas.{made_after_call}
use Rattle.sentry_transport.proofs.timed_queue.TimedQueue.settle.Goals as goal

pub invariant_of-self : goal.invariant_of-self
invariant_of-self g c =
    let self = c.args.self.now in
    record { made = made_after_call settle_call self.queue c.settle.new.self c.settle.ensures.stands self.made }
