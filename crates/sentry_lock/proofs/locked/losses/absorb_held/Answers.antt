use Rattle.std.proofs.Common.{◌≡◌, true, rules}
use Rattle.sentry_lock.proofs.Sound.{absorbs_nothing, held_absorbs}
use Rattle.sentry_lock.proofs.locked.losses.absorb_held.Goals as goal

pub returns-then-is_nothing : goal.returns-then-is_nothing
returns-then-is_nothing g c =
    let zero : c.is_nothing.result ≡ true = search rules in
    absorbs_nothing c.args.engine.now c.args.label c.args.losses.now.quantities (c.is_nothing.ensures zero) c.requires.held

pub returns : goal.returns
returns g c =
    held_absorbs c.args.engine.now c.absorb_losses.new.self c.args.label c.args.losses.now.quantities
    c.absorb_losses.result c.requires.stands c.requires.held c.absorb_losses.ensures
