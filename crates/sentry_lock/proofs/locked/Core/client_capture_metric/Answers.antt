use Rattle.sentry_state.specs.Outcomes.{memory}
use Rattle.sentry_lock.proofs.Keeps.{capture_metric_keeps}
use Rattle.sentry_lock.proofs.Sound.{after_call}
use Rattle.sentry_lock.proofs.locked.Core.client_capture_metric.Goals as goal

pub invariant_of-self : goal.invariant_of-self
invariant_of-self g c =
    let self = c.drained.new.self in
    record {
      sound = after_call memory self.engine c.client_capture_metric.new.self c.client_capture_metric.result _ self.drainers c.client_capture_metric.ensures
          (λ world. capture_metric_keeps g.P.EventCallback.gives g.C.Callbacks.meanings c.args.client c.args.draft _ c.args.now world) self.sound;
      labelled = self.labelled;
    }
