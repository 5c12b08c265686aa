use Rattle.sentry_state.specs.Outcomes.{memory}
use Rattle.sentry_lock.proofs.Keeps.{prepare_event_keeps}
use Rattle.sentry_lock.proofs.Sound.{after_call}
use Rattle.sentry_lock.proofs.locked.Core.prepare_event.Goals as goal

pub invariant_of-self : goal.invariant_of-self
invariant_of-self g c =
    let self = c.args.self.now in
    record {
      sound = after_call memory self.engine c.prepare_event.new.self c.prepare_event.result _ self.drainers c.prepare_event.ensures
          (λ world. prepare_event_keeps g.P.EventCallback.gives g.C.Callbacks.meanings c.args.client c.args.event _ c.args.fresh world) self.sound;
      labelled = self.labelled;
    }
