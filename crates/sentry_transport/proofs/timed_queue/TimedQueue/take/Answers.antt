use Rattle.sentry_transport.specs.QueueHistories.{take_call}
use Rattle.sentry_transport.proofs.MadeLemmas.{made_after_call}
use Rattle.sentry_transport.proofs.timed_queue.TimedQueue.take.Goals as goal

pub invariant_of-self : goal.invariant_of-self
invariant_of-self g c =
    let self = c.args.self.now in
    record { made = made_after_call take_call self.queue c.take.new.self c.take.ensures.stands self.made }
