use Rattle.sentry_state.specs.Outcomes.{memory}
use Rattle.sentry_lock.proofs.KeepsSpans.{set_name_keeps}
use Rattle.sentry_lock.proofs.Sound.{after_call}
use Rattle.sentry_lock.proofs.locked.Core.set_name.Goals as goal

pub invariant_of-self : goal.invariant_of-self
invariant_of-self g c =
    let self = c.args.self.now in
    record {
      sound = after_call memory self.engine c.set_name.new.self c.set_name.result _ self.drainers c.set_name.ensures
          (λ world. set_name_keeps g.P.EventCallback.gives g.C.Callbacks.meanings c.args.span c.args.name.now world) self.sound;
      labelled = self.labelled;
    }
