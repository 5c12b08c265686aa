use Rattle.sentry_state.specs.Outcomes.{memory}
use Rattle.sentry_lock.proofs.KeepsHubs.{new_hub_keeps}
use Rattle.sentry_lock.proofs.Sound.{after_call}
use Rattle.sentry_lock.proofs.locked.Core.new_hub.Goals as goal

pub invariant_of-self : goal.invariant_of-self
invariant_of-self g c =
    let self = c.args.self.now in
    record {
      sound = after_call memory self.engine c.new_hub.new.self c.new_hub.result _ self.drainers c.new_hub.ensures
          (λ world. new_hub_keeps g.P.EventCallback.gives g.C.Callbacks.meanings c.args.client c.args.scope world) self.sound;
      labelled = self.labelled;
    }
