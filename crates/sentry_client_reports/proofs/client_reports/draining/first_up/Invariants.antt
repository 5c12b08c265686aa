use Rattle.std.proofs.Common.{◌≡◌}
use Rattle.sentry_base.specs.Losses.{no_losses}
use Rattle.sentry_client_reports.specs.LossWords.{IsQuiet, IsDrain}
use Rattle.sentry_client_reports.proofs.client_reports.draining.first_up.Given as goal

-- the flags so far were down
abbrev pub invariant-loop-f : goal.invariant-loop-f
invariant-loop-f l = record {
  words : l.part.seat.table_id ≡ l.fn.part.seat.table_id;
  share : l.part.seat.me.0.share ≡ l.fn.part.seat.me.0.share;
  drain : IsDrain l.f l.fn.part.seat.me.0.steps l.part.seat.me.0.steps no_losses;
  quiet : IsQuiet l.part.seat.me.0.steps;
}
