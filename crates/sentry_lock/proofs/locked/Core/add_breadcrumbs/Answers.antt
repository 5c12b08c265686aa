use Rattle.sentry_state.specs.Outcomes.{memory}
use Rattle.sentry_lock.proofs.KeepsHubs.{add_breadcrumbs_keeps}
use Rattle.sentry_lock.proofs.Sound.{after_call}
use Rattle.sentry_lock.proofs.locked.Core.add_breadcrumbs.Goals as goal

pub invariant_of-self : goal.invariant_of-self
invariant_of-self g c =
    let self = c.args.self.now in
    record {
      sound = after_call memory self.engine c.add_breadcrumbs.new.self c.add_breadcrumbs.result _ self.drainers c.add_breadcrumbs.ensures
          (λ world. add_breadcrumbs_keeps g.P.EventCallback.gives g.C.Callbacks.meanings c.args.hub c.args.breadcrumbs world) self.sound;
      labelled = self.labelled;
    }
