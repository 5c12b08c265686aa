use Rattle.sentry_engine.specs.Replies.{without_value}
use Rattle.sentry_state.specs.Outcomes.{memory}
use Rattle.sentry_lock.proofs.Keeps.{pop_scope_keeps}
use Rattle.sentry_lock.proofs.Sound.{after_call}
use Rattle.sentry_lock.proofs.locked.Core.pop_scope.Goals as goal

pub invariant_of-self : goal.invariant_of-self
invariant_of-self g c =
    let self = c.drained.new.self in
    record {
      sound = after_call memory self.engine c.pop_scope.new.self (without_value c.pop_scope.result) _ self.drainers c.pop_scope.ensures.does
          (λ world. pop_scope_keeps g.P.EventCallback.gives g.C.Callbacks.meanings c.args.guard.0 c.args.guard.1 c.args.now world) self.sound;
      labelled = self.labelled;
    }
