use Rattle.sentry_state.specs.Outcomes.{memory}
use Rattle.sentry_lock.proofs.KeepsSpans.{start_child_keeps}
use Rattle.sentry_lock.proofs.Sound.{after_call}
use Rattle.sentry_lock.proofs.locked.Core.start_child.Goals as goal

pub invariant_of-self : goal.invariant_of-self
invariant_of-self g c =
    let self = c.args.self.now in
    record {
      sound = after_call memory self.engine c.start_child.new.self c.start_child.result _ self.drainers c.start_child.ensures
          (λ world. start_child_keeps g.P.EventCallback.gives g.C.Callbacks.meanings c.args.parent c.args.op.now c.args.description.now c.args.fresh world) self.sound;
      labelled = self.labelled;
    }
