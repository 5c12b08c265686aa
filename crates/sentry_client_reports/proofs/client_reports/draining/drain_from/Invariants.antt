use Rattle.std.proofs.Common.{◌≡◌, List}
use Rattle.sentry_client_reports.specs.declared.client_reports.step.LossStep.{LossStep}
use Rattle.sentry_client_reports.specs.LossWords.{IsQuiet, IsDrain}
use Rattle.sentry_client_reports.proofs.client_reports.draining.drain_from.Given as goal

abbrev pub invariant-loop-f : goal.invariant-loop-f
invariant-loop-f l = record {
  words : l.part.seat.table_id ≡ l.fn.part.seat.table_id;
  share : l.part.seat.me.0.share ≡ l.fn.part.seat.me.0.share;
  drain : (start : List LossStep) → IsDrain l.first start l.fn.part.seat.me.0.steps l.fn.taken → IsDrain l.f start l.part.seat.me.0.steps l.taken;
  quiet : IsQuiet l.part.seat.me.0.steps;
}
