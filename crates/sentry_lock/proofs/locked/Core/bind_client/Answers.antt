use Rattle.sentry_state.specs.Outcomes.{nothing}
use Rattle.sentry_lock.proofs.KeepsHubs.{bind_client_keeps}
use Rattle.sentry_lock.proofs.Sound.{after_call}
use Rattle.sentry_lock.proofs.locked.Core.bind_client.Goals as goal

pub invariant_of-self : goal.invariant_of-self
invariant_of-self g c =
    let self = c.args.self.now in
    record {
      sound = after_call nothing self.engine c.bind_client.new.self c.bind_client.result _ self.drainers c.bind_client.ensures
          (λ world. bind_client_keeps g.P.EventCallback.gives g.C.Callbacks.meanings c.args.hub c.args.client world) self.sound;
      labelled = self.labelled;
    }
