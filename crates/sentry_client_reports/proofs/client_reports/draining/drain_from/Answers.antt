use Rattle.std.proofs.Common.{refl, ◌∙◌}
use Rattle.sentry_client_reports.proofs.LossDrains.{drain_more}
use Rattle.sentry_client_reports.proofs.client_reports.draining.drain_from.Goals as goal

pub loop-f-init : goal.loop-f-init
loop-f-init c = record { words = refl; share = refl; drain = λ start so_far. so_far; quiet = c.requires.quiet }

pub loop-f-preserved : goal.loop-f-preserved
loop-f-preserved c = let s = c.drain_flag.ensures in record {
  words = s.words ∙ c.loop-f.invariant.words;
  share = s.share ∙ c.loop-f.invariant.share;
  drain = λ start so_far. drain_more c.loop-f.f start _ _ c.loop-f.taken c.drain_flag.new.taken c.drain_flag.result (c.loop-f.invariant.drain start so_far) s.steps s.others s.down;
  quiet = s.quiet;
}
