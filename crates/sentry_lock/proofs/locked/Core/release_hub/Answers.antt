use Rattle.sentry_state.specs.Outcomes.{memory}
use Rattle.sentry_lock.proofs.KeepsHubs.{release_hub_keeps}
use Rattle.sentry_lock.proofs.Sound.{after_call}
use Rattle.sentry_lock.proofs.locked.Core.release_hub.Goals as goal

pub invariant_of-self : goal.invariant_of-self
invariant_of-self g c =
    let self = c.drained.new.self in
    record {
      sound = after_call memory self.engine c.release_hub.new.self c.release_hub.result _ self.drainers c.release_hub.ensures
          (λ world. release_hub_keeps g.P.EventCallback.gives g.C.Callbacks.meanings c.args.hub c.args.now world) self.sound;
      labelled = self.labelled;
    }
