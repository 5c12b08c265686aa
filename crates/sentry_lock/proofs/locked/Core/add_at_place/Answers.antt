use Rattle.std.proofs.Common.{◌∙◌, subst, sym}
use Rattle.std.specs.Option.{is_some}
use Rattle.sentry_lock.specs.Locked.{IsSound}
use Rattle.sentry_lock.specs.Words.{AreLabelled, Drainers}
use Rattle.sentry_lock.proofs.Labels.{labelled_after_new, own_label}
use Rattle.sentry_lock.proofs.Sound.{after_add}
use Rattle.sentry_lock.proofs.locked.Core.add_at_place.Goals as goal

pub invariant_of-self : goal.invariant_of-self
invariant_of-self g c =
    let self = c.args.self.now in
    let a = c.args in
    let is = sym c.set.ensures in
    record {
      sound =
          subst (λ (d : Drainers). ∥ IsSound c.add_with.new.engine d ∥₁) is
          (after_add g.C.Callbacks.meanings a.options (is_some a.transport) a.label a.now self.engine
          c.add_with.new.engine c.in-Ok-add_with.out self.drainers a.drainer c.in-Ok-add_with.ensures.done
          c.requires.free c.requires.place c.requires.none self.sound);
      labelled =
          subst (AreLabelled self.tag) is
          (labelled_after_new self.tag a.label.number self.drainers a.drainer c.requires.place
          (c.requires.label ∙ own_label a.label self.tag c.requires.tag) self.labelled);
    }
