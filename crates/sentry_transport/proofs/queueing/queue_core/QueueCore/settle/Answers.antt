use Rattle.std.proofs.Common.{subst, sym, ◌∙◌}
use Rattle.sentry_transport.specs.QueueHistories.{Queue, StandsFor}
use Rattle.sentry_transport.proofs.RecordingLemmas.{settled_answer, stands_after_settle}
use Rattle.sentry_transport.proofs.queueing.queue_core.QueueCore.settle.Goals as goal

pub returns-clause-answer : goal.returns-clause-answer
returns-clause-answer c = λ capacity recorder history stands.
    c.is_settled-answer.ensures ∙ settled_answer capacity recorder history c.args.self.now stands

pub returns-clause-stands : goal.returns-clause-stands
returns-clause-stands c = λ capacity recorder history stands.
    let here = subst (λ (queue : Queue). StandsFor capacity recorder history queue) (sym c.self.view_is) stands in
    stands_after_settle capacity recorder history _ here
