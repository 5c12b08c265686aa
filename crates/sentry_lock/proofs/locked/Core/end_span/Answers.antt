use Rattle.sentry_state.specs.Outcomes.{memory}
use Rattle.sentry_lock.proofs.KeepsSpans.{end_span_keeps}
use Rattle.sentry_lock.proofs.Sound.{after_call}
use Rattle.sentry_lock.proofs.locked.Core.end_span.Goals as goal

pub invariant_of-self : goal.invariant_of-self
invariant_of-self g c =
    let self = c.args.self.now in
    record {
      sound = after_call memory self.engine c.end_span.new.self c.end_span.result _ self.drainers c.end_span.ensures
          (λ world. end_span_keeps g.P.EventCallback.gives g.C.Callbacks.meanings c.args.span c.args.moment world) self.sound;
      labelled = self.labelled;
    }
