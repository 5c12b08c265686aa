use Rattle.sentry_lock.proofs.Labels.{labelled_with_fewer, was_there}
use Rattle.sentry_lock.proofs.Sound.{with_fewer}
use Rattle.sentry_lock.proofs.locked.Core.forget_place.Goals as goal

pub invariant_of-self : goal.invariant_of-self
invariant_of-self g c =
    let self = c.args.self.now in
    let there = was_there c.args.number self.drainers c.remove.new.self c.remove.ensures.updates in
    record {
      sound = with_fewer self.engine self.drainers c.remove.new.self there self.sound;
      labelled = labelled_with_fewer self.tag self.drainers c.remove.new.self there self.labelled;
    }
