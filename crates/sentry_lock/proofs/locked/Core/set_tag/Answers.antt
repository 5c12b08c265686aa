use Rattle.sentry_state.specs.Outcomes.{memory}
use Rattle.sentry_lock.proofs.KeepsSpans.{set_tag_keeps}
use Rattle.sentry_lock.proofs.Sound.{after_call}
use Rattle.sentry_lock.proofs.locked.Core.set_tag.Goals as goal

pub invariant_of-self : goal.invariant_of-self
invariant_of-self g c =
    let self = c.args.self.now in
    record {
      sound = after_call memory self.engine c.set_tag.new.self c.set_tag.result _ self.drainers c.set_tag.ensures
          (λ world. set_tag_keeps g.P.EventCallback.gives g.C.Callbacks.meanings c.args.span c.args.key.now c.args.value.now world) self.sound;
      labelled = self.labelled;
    }
