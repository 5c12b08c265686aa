use Rattle.sentry_state.specs.Outcomes.{memory}
use Rattle.sentry_lock.proofs.Keeps.{capture_event_keeps}
use Rattle.sentry_lock.proofs.Sound.{after_call}
use Rattle.sentry_lock.proofs.locked.Core.client_capture_event.Goals as goal

pub invariant_of-self : goal.invariant_of-self
invariant_of-self g c =
    let self = c.drained.new.self in
    record {
      sound = after_call memory self.engine c.client_capture_event.new.self c.client_capture_event.result _ self.drainers c.client_capture_event.ensures
          (λ world. capture_event_keeps g.P.EventCallback.gives g.C.Callbacks.meanings c.args.client c.args.event _ c.args.fresh world) self.sound;
      labelled = self.labelled;
    }
