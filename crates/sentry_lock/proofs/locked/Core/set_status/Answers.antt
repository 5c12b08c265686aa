use Rattle.sentry_state.specs.Outcomes.{memory}
use Rattle.sentry_lock.proofs.KeepsSpans.{set_status_keeps}
use Rattle.sentry_lock.proofs.Sound.{after_call}
use Rattle.sentry_lock.proofs.locked.Core.set_status.Goals as goal

pub invariant_of-self : goal.invariant_of-self
invariant_of-self g c =
    let self = c.args.self.now in
    record {
      sound = after_call memory self.engine c.set_status.new.self c.set_status.result _ self.drainers c.set_status.ensures
          (λ world. set_status_keeps g.P.EventCallback.gives g.C.Callbacks.meanings c.args.span c.args.status world) self.sound;
      labelled = self.labelled;
    }
