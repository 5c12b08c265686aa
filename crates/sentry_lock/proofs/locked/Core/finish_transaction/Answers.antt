use Rattle.sentry_state.specs.Outcomes.{memory}
use Rattle.sentry_lock.proofs.KeepsSpans.{finish_transaction_keeps}
use Rattle.sentry_lock.proofs.Sound.{after_call}
use Rattle.sentry_lock.proofs.locked.Core.finish_transaction.Goals as goal

pub invariant_of-self : goal.invariant_of-self
invariant_of-self g c =
    let self = c.drained.new.self in
    record {
      sound = after_call memory self.engine c.finish_transaction.new.self c.finish_transaction.result _ self.drainers c.finish_transaction.ensures
          (λ world. finish_transaction_keeps g.P.EventCallback.gives g.C.Callbacks.meanings c.args.transaction c.args.hub c.args.moment world) self.sound;
      labelled = self.labelled;
    }
