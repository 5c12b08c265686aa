use Rattle.std.proofs.Common.{subst, sym}
use Rattle.sentry_transport.specs.QueueHistories.{Queue, StandsFor}
use Rattle.sentry_transport.proofs.RecordingLemmas.{stands_after_limit}
use Rattle.sentry_transport.proofs.queueing.queue_core.QueueCore.limit.Goals as goal

pub returns : goal.returns
returns c = λ capacity recorder history stands.
    let here = subst (λ (queue : Queue). StandsFor capacity recorder history queue) (sym c.self.view_is) stands in
    stands_after_limit capacity recorder history _ here c.args.category c.args.until c.limit.new.self.until c.limit.ensures
