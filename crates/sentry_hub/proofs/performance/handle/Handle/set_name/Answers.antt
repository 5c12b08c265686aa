use Rattle.sentry_base.specs.declared.protocol.keys.TransactionOrSpanKey.{TransactionOrSpanKey}
use Rattle.sentry_hub.proofs.Handles.{done_for, refused_for}
use Rattle.sentry_lock.specs.Answers.{LockAnswers, LockRefuses}
use Rattle.sentry_span_edits.specs.Setters as setters
use Rattle.std.proofs.Common.{◌≡◌, false}
use Rattle.sentry_hub.proofs.performance.handle.Handle.set_name.Goals as goal

pub returns-in-Some-clause-done : goal.returns-in-Some-clause-done
returns-in-Some-clause-done g c =
    done_for (λ reply. c.args.self.now.1 ≡ false)
    (λ (key : TransactionOrSpanKey). λ reply. LockAnswers g.row.L-Processor.Denot g.row.L-Callbacks.Denot g.row.L-Transport.Denot reply (setters.set_name key c.args.name.now)) _ _ c.span_key.ensures
    c.set_name.result c.set_name.ensures.done

pub returns-in-Some-clause-refused : goal.returns-in-Some-clause-refused
returns-in-Some-clause-refused g c =
    refused_for (λ (key : TransactionOrSpanKey). λ refusal. LockRefuses g.row.L-Processor.Denot g.row.L-Callbacks.Denot g.row.L-Transport.Denot refusal (setters.set_name key c.args.name.now)) _ _ c.span_key.ensures
    c.set_name.result c.set_name.ensures.refused
