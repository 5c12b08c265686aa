use Rattle.sentry_base.specs.declared.protocol.keys.TransactionOrSpanKey.{TransactionOrSpanKey}
use Rattle.sentry_hub.proofs.Handles.{done_for, refused_for}
use Rattle.sentry_lock.specs.Answers.{LockAnswersWithoutMemory, LockRefusesWithoutMemory}
use Rattle.sentry_span_edits.specs.Reads as reads
use Rattle.std.proofs.Common.{◌≡◌, false}
use Rattle.sentry_hub.proofs.performance.handle.Handle.is_sampled.Goals as goal

pub returns-in-Some-clause-done : goal.returns-in-Some-clause-done
returns-in-Some-clause-done g c =
    done_for (λ reply. (c.args.self.now.1 ≡ false) × (reply ≡ false))
    (λ (key : TransactionOrSpanKey). λ reply. LockAnswersWithoutMemory g.row.L-Processor.Denot g.row.L-Callbacks.Denot g.row.L-Transport.Denot reply (reads.is_sampled key)) _ _ c.span_key.ensures
    c.is_sampled.result c.is_sampled.ensures.done

pub returns-in-Some-clause-refused : goal.returns-in-Some-clause-refused
returns-in-Some-clause-refused g c =
    refused_for (λ (key : TransactionOrSpanKey). λ refusal. LockRefusesWithoutMemory g.row.L-Processor.Denot g.row.L-Callbacks.Denot g.row.L-Transport.Denot refusal (reads.is_sampled key)) _ _ c.span_key.ensures
    c.is_sampled.result c.is_sampled.ensures.refused
