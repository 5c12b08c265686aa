use Rattle.sentry_state.specs.Outcomes.{memory}
use Rattle.sentry_lock.proofs.KeepsHubs.{capture_event_keeps}
use Rattle.sentry_lock.proofs.Sound.{after_call}
use Rattle.sentry_lock.proofs.locked.Core.capture_event.Goals as goal

pub invariant_of-self : goal.invariant_of-self
invariant_of-self g c =
    let self = c.drained.new.self in
    record {
      sound = after_call memory self.engine c.capture_event.new.self c.capture_event.result _ self.drainers c.capture_event.ensures
          (λ world. capture_event_keeps g.P.EventCallback.gives g.C.Callbacks.meanings c.args.hub c.args.event c.args.fresh world) self.sound;
      labelled = self.labelled;
    }
