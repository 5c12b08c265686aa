use Rattle.sentry_state.specs.Outcomes.{memory}
use Rattle.sentry_lock.proofs.Keeps.{capture_log_keeps}
use Rattle.sentry_lock.proofs.Sound.{after_call}
use Rattle.sentry_lock.proofs.locked.Core.client_capture_log.Goals as goal

pub invariant_of-self : goal.invariant_of-self
invariant_of-self g c =
    let self = c.drained.new.self in
    record {
      sound = after_call memory self.engine c.client_capture_log.new.self c.client_capture_log.result _ self.drainers c.client_capture_log.ensures
          (λ world. capture_log_keeps g.P.EventCallback.gives g.C.Callbacks.meanings c.args.client c.args.log _ world) self.sound;
      labelled = self.labelled;
    }
