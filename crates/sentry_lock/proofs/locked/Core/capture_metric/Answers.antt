use Rattle.sentry_state.specs.Outcomes.{memory}
use Rattle.sentry_lock.proofs.KeepsHubs.{capture_metric_keeps}
use Rattle.sentry_lock.proofs.Sound.{after_call}
use Rattle.sentry_lock.proofs.locked.Core.capture_metric.Goals as goal

pub invariant_of-self : goal.invariant_of-self
invariant_of-self g c =
    let self = c.drained.new.self in
    record {
      sound = after_call memory self.engine c.capture_metric.new.self c.capture_metric.result _ self.drainers c.capture_metric.ensures
          (λ world. capture_metric_keeps g.P.EventCallback.gives g.C.Callbacks.meanings c.args.hub c.args.draft c.args.now world) self.sound;
      labelled = self.labelled;
    }
