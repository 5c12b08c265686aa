use Rattle.std.proofs.Common.{◌∙◌, ap}
use Rattle.std.specs.Prelude.{None}
use Rattle.sentry_plain.specs.Tables.{value_at, put}
use Rattle.sentry_laws.proofs.Tables.{own_put}
use Rattle.sentry_lock.specs.Locked.{IsSound}
use Rattle.sentry_lock.specs.Words.{AreLabelled, Drainers}
use Rattle.sentry_lock.proofs.Choices.{either_way}
use Rattle.sentry_lock.proofs.Labels.{labelled_after_place}
use Rattle.sentry_lock.proofs.Sound.{after_place}
use Rattle.sentry_lock.proofs.locked.Core.make_place.Goals as goal

pub invariant_of-self : goal.invariant_of-self
invariant_of-self g c =
    let self = c.args.self.now in
    let placed = put self.drainers c.args.number None in
    record {
      sound =
          either_way c.insert.result self.drainers c.insert.new.self placed
          (λ (d : Drainers). ∥ IsSound self.engine d ∥₁) c.insert.ensures.ok c.insert.ensures.err
          (after_place self.engine self.drainers c.args.number self.sound) self.sound;
      labelled =
          either_way c.insert.result self.drainers c.insert.new.self placed (AreLabelled self.tag)
          c.insert.ensures.ok c.insert.ensures.err
          (labelled_after_place self.tag c.args.number self.drainers self.labelled) self.labelled;
    }

pub returns-clause-place : goal.returns-clause-place
returns-clause-place g c =
    ap (λ (d : Drainers). value_at d c.args.number) c.in_ok-insert.ensures.ok
    ∙ own_put c.args.self.now.drainers c.args.number None
