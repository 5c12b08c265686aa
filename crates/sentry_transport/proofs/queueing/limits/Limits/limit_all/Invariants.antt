use Rattle.std.proofs.Common.{◌≡◌, length}
use Rattle.sentry_transport.proofs.LimitLemmas.{AreMoved}
use Rattle.sentry_transport.proofs.queueing.limits.Limits.limit_all.Given as goal

abbrev pub invariant-loop-index : goal.invariant-loop-index
invariant-loop-index l = record {
  moved : AreMoved l.index l.until l.fn.self.until l.self.until;
  long : length l.self.until ≡ 7;
}
