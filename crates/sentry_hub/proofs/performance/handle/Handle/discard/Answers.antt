use Rattle.sentry_base.specs.declared.protocol.keys.TransactionOrSpanKey.{TransactionOrSpanKey}
use Rattle.sentry_hub.proofs.Handles.{done_for, refused_for}
use Rattle.sentry_lock.specs.Answers.{LockAnswersWithoutMemory, LockRefusesWithoutMemory}
use Rattle.sentry_spans.specs.Discards as discards
use Rattle.std.proofs.Common.{◌≡◌, false}
use Rattle.sentry_hub.proofs.performance.handle.Handle.discard.Goals as goal

pub returns-in-Some-clause-done : goal.returns-in-Some-clause-done
returns-in-Some-clause-done g c =
    done_for (λ reply. c.args.self.now.1 ≡ false)
    (λ (key : TransactionOrSpanKey). λ reply. LockAnswersWithoutMemory g.row.L-Processor.Denot g.row.L-Callbacks.Denot g.row.L-Transport.Denot reply (discards.discard key)) _ _ c.span_key.ensures
    c.discard.result c.discard.ensures.done

pub returns-in-Some-clause-refused : goal.returns-in-Some-clause-refused
returns-in-Some-clause-refused g c =
    refused_for (λ (key : TransactionOrSpanKey). λ refusal. LockRefusesWithoutMemory g.row.L-Processor.Denot g.row.L-Callbacks.Denot g.row.L-Transport.Denot refusal (discards.discard key)) _ _ c.span_key.ensures
    c.discard.result c.discard.ensures.refused
