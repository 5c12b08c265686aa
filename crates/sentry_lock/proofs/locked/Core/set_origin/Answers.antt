use Rattle.sentry_state.specs.Outcomes.{memory}
use Rattle.sentry_lock.proofs.KeepsSpans.{set_origin_keeps}
use Rattle.sentry_lock.proofs.Sound.{after_call}
use Rattle.sentry_lock.proofs.locked.Core.set_origin.Goals as goal

pub invariant_of-self : goal.invariant_of-self
invariant_of-self g c =
    let self = c.args.self.now in
    record {
      sound = after_call memory self.engine c.set_origin.new.self c.set_origin.result _ self.drainers c.set_origin.ensures
          (λ world. set_origin_keeps g.P.EventCallback.gives g.C.Callbacks.meanings c.args.transaction c.args.origin.now world) self.sound;
      labelled = self.labelled;
    }
