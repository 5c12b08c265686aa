use Rattle.std.proofs.Common.{refl, sym, ap, subst, ◌∙◌, ◌++◌, ◌∷◌, [], false}
use Rattle.sentry_base.specs.Losses.{no_losses}
use Rattle.sentry_client_reports.specs.declared.client_reports.step.LossStep.TheVariants.{Lower}
use Rattle.sentry_client_reports.specs.LossWords.{IsQuiet}
use Rattle.sentry_client_reports.proofs.LossDrains.{drain_none, drain_down}
use Rattle.sentry_client_reports.proofs.LossQuiet.{drain_quiet}
use Rattle.sentry_client_reports.proofs.client_reports.draining.first_up.Goals as goal

pub loop-f-init : goal.loop-f-init
loop-f-init c = record { words = refl; share = refl; drain = drain_none c.args.part.now.seat.me.0.steps; quiet = c.requires }

-- one more flag was down
pub loop-f-preserved : goal.loop-f-preserved
loop-f-preserved c =
    let so_far = c.loop-f.invariant in
    let now = c.loop-f.part.seat.me.0.steps in
    let f = c.loop-f.f in
    let steps = c.lower.ensures.steps ∙ ap (λ b. now ++ Lower f b ∷ []) c.if-lower.false in record {
      words = c.lower.ensures.words ∙ so_far.words;
      share = c.lower.ensures.share ∙ so_far.share;
      drain = drain_down f c.args.part.now.seat.me.0.steps now c.lower.new.self.seat.me.0.steps so_far.drain steps;
      quiet = subst IsQuiet (sym steps) (drain_quiet now f false no_losses so_far.quiet);
    }
