use Rattle.sentry_state.specs.Outcomes.{memory}
use Rattle.sentry_lock.proofs.Keeps.{send_envelope_keeps}
use Rattle.sentry_lock.proofs.Sound.{after_call}
use Rattle.sentry_lock.proofs.locked.Core.send_envelope.Goals as goal

pub invariant_of-self : goal.invariant_of-self
invariant_of-self g c =
    let self = c.drained.new.self in
    record {
      sound = after_call memory self.engine c.send_envelope.new.self c.send_envelope.result _ self.drainers c.send_envelope.ensures
          (λ world. send_envelope_keeps g.P.EventCallback.gives g.C.Callbacks.meanings c.args.client c.args.envelope world) self.sound;
      labelled = self.labelled;
    }
