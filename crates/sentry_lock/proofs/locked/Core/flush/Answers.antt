use Rattle.sentry_state.specs.Outcomes.{memory}
use Rattle.sentry_lock.proofs.Keeps.{flush_keeps}
use Rattle.sentry_lock.proofs.Sound.{after_call}
use Rattle.sentry_lock.proofs.locked.Core.flush.Goals as goal

pub invariant_of-self : goal.invariant_of-self
invariant_of-self g c =
    let self = c.drained.new.self in
    record {
      sound = after_call memory self.engine c.flush.new.self c.flush.result _ self.drainers c.flush.ensures
          (λ world. flush_keeps g.P.EventCallback.gives g.C.Callbacks.meanings c.args.client world) self.sound;
      labelled = self.labelled;
    }
