use Rattle.sentry_state.specs.Outcomes.{memory}
use Rattle.sentry_lock.proofs.Keeps.{close_keeps}
use Rattle.sentry_lock.proofs.Sound.{after_call}
use Rattle.sentry_lock.proofs.locked.Core.close.Goals as goal

pub invariant_of-self : goal.invariant_of-self
invariant_of-self g c =
    let self = c.drained.new.self in
    record {
      sound = after_call memory self.engine c.close.new.self c.close.result _ self.drainers c.close.ensures
          (λ world. close_keeps g.P.EventCallback.gives g.C.Callbacks.meanings c.args.client world) self.sound;
      labelled = self.labelled;
    }
