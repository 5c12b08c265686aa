use Rattle.sentry_state.specs.Outcomes.{memory}
use Rattle.sentry_lock.proofs.Keeps.{take_report_keeps}
use Rattle.sentry_lock.proofs.Sound.{after_call}
use Rattle.sentry_lock.proofs.locked.Core.take_report.Goals as goal

pub invariant_of-self : goal.invariant_of-self
invariant_of-self g c =
    let self = c.args.self.now in
    record {
      sound = after_call memory self.engine c.take_report.new.self c.take_report.result _ self.drainers c.take_report.ensures
          (λ world. take_report_keeps g.P.EventCallback.gives g.C.Callbacks.meanings c.args.label world) self.sound;
      labelled = self.labelled;
    }
