use Rattle.sentry_base.specs.declared.protocol.keys.SpanKey.{SpanKey}
use Rattle.sentry_hub.proofs.Handles.{done_for, refused_for}
use Rattle.sentry_lock.specs.Answers.{LockAnswers, LockRefuses}
use Rattle.sentry_spans.specs.Spans as spans
use Rattle.std.proofs.Common.{◌≡◌, false}
use Rattle.sentry_hub.proofs.performance.kinds.Span+L.finish_with_timestamp.Goals as goal

pub returns-in-Some-clause-done : goal.returns-in-Some-clause-done
returns-in-Some-clause-done g c =
    done_for (λ reply. c.args.self.now.1 ≡ false)
    (λ (key : SpanKey). λ reply. LockAnswers g.row.L-Processor.Denot g.row.L-Callbacks.Denot g.row.L-Transport.Denot reply (spans.finish_span key c.args.moment)) _ _ c.key.ensures
    c.finish_span.result c.finish_span.ensures.done

pub returns-in-Some-clause-refused : goal.returns-in-Some-clause-refused
returns-in-Some-clause-refused g c =
    refused_for (λ (key : SpanKey). λ refusal. LockRefuses g.row.L-Processor.Denot g.row.L-Callbacks.Denot g.row.L-Transport.Denot refusal (spans.finish_span key c.args.moment)) _ _ c.key.ensures
    c.finish_span.result c.finish_span.ensures.refused
