use Rattle.sentry_state.specs.Outcomes.{memory}
use Rattle.sentry_lock.proofs.KeepsSpans.{start_transaction_keeps}
use Rattle.sentry_lock.proofs.Sound.{after_call}
use Rattle.sentry_lock.proofs.locked.Core.start_transaction.Goals as goal

pub invariant_of-self : goal.invariant_of-self
invariant_of-self g c =
    let self = c.args.self.now in
    record {
      sound = after_call memory self.engine c.start_transaction.new.self c.start_transaction.result _ self.drainers c.start_transaction.ensures
          (λ world. start_transaction_keeps g.P.EventCallback.gives g.C.Callbacks.meanings c.args.hub c.args.context c.args.fresh world) self.sound;
      labelled = self.labelled;
    }
