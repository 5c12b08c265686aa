use Rattle.sentry_state.specs.Outcomes.{memory}
use Rattle.sentry_lock.proofs.Keeps.{tick_keeps}
use Rattle.sentry_lock.proofs.Sound.{after_call}
use Rattle.sentry_lock.proofs.locked.Core.tick.Goals as goal

pub invariant_of-self : goal.invariant_of-self
invariant_of-self g c =
    let self = c.drained.new.self in
    record {
      sound = after_call memory self.engine c.tick.new.self c.tick.result _ self.drainers c.tick.ensures
          (λ world. tick_keeps g.P.EventCallback.gives g.C.Callbacks.meanings c.args.client c.args.now world) self.sound;
      labelled = self.labelled;
    }
