use Rattle.sentry_state.specs.Outcomes.{memory}
use Rattle.sentry_lock.proofs.Keeps.{push_scope_keeps}
use Rattle.sentry_lock.proofs.Sound.{after_call}
use Rattle.sentry_lock.proofs.locked.Core.push_scope.Goals as goal

pub invariant_of-self : goal.invariant_of-self
invariant_of-self g c =
    let self = c.args.self.now in
    record {
      sound = after_call memory self.engine c.push_scope.new.self c.push_scope.result _ self.drainers c.push_scope.ensures
          (λ world. push_scope_keeps g.P.EventCallback.gives g.C.Callbacks.meanings c.args.hub world) self.sound;
      labelled = self.labelled;
    }
