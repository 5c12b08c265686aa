use Rattle.std.proofs.Common.{subst, sym}
use Rattle.sentry_transport.specs.QueueHistories.{Queue, StandsFor}
use Rattle.sentry_transport.proofs.RecordingLemmas.{stands_after_take}
use Rattle.sentry_transport.proofs.queueing.queue_core.QueueCore.take.Goals as goal

pub returns-clause-stands : goal.returns-clause-stands
returns-clause-stands c = λ capacity recorder history stands.
    let here = subst (λ (queue : Queue). StandsFor capacity recorder history queue) (sym c.self.view_is) stands in
    stands_after_take capacity recorder history _ here _ c.pop_front.ensures.rest
