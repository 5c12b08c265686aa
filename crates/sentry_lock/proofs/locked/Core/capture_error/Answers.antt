use Rattle.sentry_state.specs.Outcomes.{memory}
use Rattle.sentry_lock.proofs.KeepsHubs.{capture_error_keeps}
use Rattle.sentry_lock.proofs.Sound.{after_call}
use Rattle.sentry_lock.proofs.locked.Core.capture_error.Goals as goal

pub invariant_of-self : goal.invariant_of-self
invariant_of-self g c =
    let self = c.drained.new.self in
    record {
      sound = after_call memory self.engine c.capture_error.new.self c.capture_error.result _ self.drainers c.capture_error.ensures
          (λ world. capture_error_keeps g.P.EventCallback.gives g.C.Callbacks.meanings c.args.hub c.args.links.now c.args.fresh world) self.sound;
      labelled = self.labelled;
    }
