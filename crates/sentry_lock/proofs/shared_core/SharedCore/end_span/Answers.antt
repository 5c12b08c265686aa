use Rattle.sentry_lock.proofs.LockAnswers.{if_answered, if_refused, lock_answers, lock_refuses}
use Rattle.sentry_state.specs.Outcomes.{memory}
use Rattle.std.proofs.Common.{Ok, Err, inl}
use Rattle.sentry_spans.specs.Ends as ends
use Rattle.sentry_lock.proofs.shared_core.SharedCore.end_span.Goals as goal

pub returns-in-Ok-clause-done : goal.returns-in-Ok-clause-done
returns-in-Ok-clause-done g c =
    if_answered _ c.in-Ok.discarded
    (lock_answers c.behind-guard.inside.core memory c.end_span.new.self.engine _ (Ok c.in-Ok.discarded)
    c.in-Ok.ensures.done)

pub returns-in-Ok-clause-refused : goal.returns-in-Ok-clause-refused
returns-in-Ok-clause-refused g c =
    if_refused _ c.in-Ok.discarded
    (lock_answers c.behind-guard.inside.core memory c.end_span.new.self.engine _ (Ok c.in-Ok.discarded)
    c.in-Ok.ensures.done)

pub returns-clause-refused : goal.returns-clause-refused
returns-clause-refused g c =
    inl (lock_refuses c.behind-guard.inside.core memory c.end_span.new.self.engine (ends.end_span c.args.span c.args.moment) (Err c.in-Err.refusal) tt
    c.in-Err.ensures.refused)
