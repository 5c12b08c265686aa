use Rattle.sentry_state.specs.Outcomes.{memory}
use Rattle.sentry_lock.proofs.KeepsSpans.{end_transaction_keeps}
use Rattle.sentry_lock.proofs.Sound.{after_call}
use Rattle.sentry_lock.proofs.locked.Core.end_transaction.Goals as goal

pub invariant_of-self : goal.invariant_of-self
invariant_of-self g c =
    let self = c.drained.new.self in
    record {
      sound = after_call memory self.engine c.end_transaction.new.self c.end_transaction.result _ self.drainers c.end_transaction.ensures
          (λ world. end_transaction_keeps g.P.EventCallback.gives g.C.Callbacks.meanings c.args.transaction c.args.hub c.args.moment world) self.sound;
      labelled = self.labelled;
    }
