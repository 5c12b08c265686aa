use Rattle.sentry_state.specs.Outcomes.{memory}
use Rattle.sentry_lock.proofs.KeepsHubs.{configure_keeps}
use Rattle.sentry_lock.proofs.Sound.{after_call}
use Rattle.sentry_lock.proofs.locked.Core.configure.Goals as goal

pub invariant_of-self : goal.invariant_of-self
invariant_of-self g c =
    let self = c.drained.new.self in
    record {
      sound = after_call memory self.engine c.configure.new.self c.configure.result _ self.drainers c.configure.ensures
          (λ world. configure_keeps g.P.EventCallback.gives g.C.Callbacks.meanings c.args.hub c.args.edits.items c.args.now world) self.sound;
      labelled = self.labelled;
    }
