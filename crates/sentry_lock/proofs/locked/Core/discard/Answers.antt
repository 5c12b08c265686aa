use Rattle.sentry_state.specs.Outcomes.{nothing}
use Rattle.sentry_lock.proofs.KeepsSpans.{discard_keeps}
use Rattle.sentry_lock.proofs.Sound.{after_call}
use Rattle.sentry_lock.proofs.locked.Core.discard.Goals as goal

pub invariant_of-self : goal.invariant_of-self
invariant_of-self g c =
    let self = c.args.self.now in
    record {
      sound = after_call nothing self.engine c.discard.new.self c.discard.result _ self.drainers c.discard.ensures
          (λ world. discard_keeps g.P.EventCallback.gives g.C.Callbacks.meanings c.args.span world) self.sound;
      labelled = self.labelled;
    }
