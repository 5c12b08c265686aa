use Rattle.sentry_transport.specs.QueueHistories.{offer_call}
use Rattle.sentry_transport.proofs.MadeLemmas.{made_after_call}
use Rattle.sentry_transport.proofs.timed_queue.TimedQueue.offer.Goals as goal

pub invariant_of-self : goal.invariant_of-self
invariant_of-self g c =
    let self = c.args.self.now in
    let call = offer_call c.args.envelope c.now-now.result in
    record { made = made_after_call call self.queue c.offer.new.self c.offer.ensures self.made }

pub returns : goal.returns
returns g c = (c.now-now.result, c.offer.ensures)
