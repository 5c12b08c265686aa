use Rattle.sentry_base.specs.declared.protocol.keys.SpanKey.{SpanKey}
use Rattle.sentry_hub.proofs.Handles.{done_for, refused_for}
use Rattle.sentry_lock.specs.Answers.{LockAnswersWithoutMemory, LockRefusesWithoutMemory}
use Rattle.sentry_span_edits.specs.Reads as reads
use Rattle.std.proofs.Common.{◌≡◌, false}
use Rattle.std.specs.Prelude.{replicate}
use Rattle.sentry_hub.proofs.performance.kinds.Span+L.get_span_id.Goals as goal

pub returns-in-Some-clause-done : goal.returns-in-Some-clause-done
returns-in-Some-clause-done g c =
    done_for (λ reply. (c.args.self.now.1 ≡ false) × (reply.0 ≡ replicate 8 0))
    (λ (key : SpanKey). λ reply. LockAnswersWithoutMemory g.row.L-Processor.Denot g.row.L-Callbacks.Denot g.row.L-Transport.Denot reply (reads.get_span_id key)) _ _ c.key.ensures
    c.get_span_id.result c.get_span_id.ensures.done

pub returns-in-Some-clause-refused : goal.returns-in-Some-clause-refused
returns-in-Some-clause-refused g c =
    refused_for (λ (key : SpanKey). λ refusal. LockRefusesWithoutMemory g.row.L-Processor.Denot g.row.L-Callbacks.Denot g.row.L-Transport.Denot refusal (reads.get_span_id key)) _ _ c.key.ensures
    c.get_span_id.result c.get_span_id.ensures.refused
