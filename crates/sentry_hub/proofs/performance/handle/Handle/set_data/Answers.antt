use Rattle.sentry_base.specs.declared.protocol.keys.TransactionOrSpanKey.{TransactionOrSpanKey}
use Rattle.sentry_base.specs.declared.protocol.refusal.Refusal.TheVariants.{OutOfMemory}
use Rattle.sentry_hub.proofs.Handles.{done_for, refused_or}
use Rattle.sentry_lock.specs.Answers.{LockAnswers, LockRefuses}
use Rattle.sentry_plain.specs.declared.value.Value.{Value}
use Rattle.sentry_span_edits.specs.Setters as setters
use Rattle.std.proofs.Common.{◌≡◌, false, subst}
use Rattle.std.specs.Prelude.{IfErr, IfOk}
use Rattle.sentry_hub.proofs.performance.handle.Handle.set_data.Goals as goal

pub returns-clause-done : goal.returns-clause-done
returns-clause-done g c =
    done_for (λ reply. c.args.self.now.1 ≡ false)
    (λ (key : TransactionOrSpanKey). λ reply. LockAnswers g.row.L-Processor.Denot g.row.L-Callbacks.Denot g.row.L-Transport.Denot reply (setters.set_data key c.args.key.now (g.V.ToValue.value c.args.value)))
    _ _ c.span_key.ensures c.set_data.result
    (subst (λ (value : Value). IfOk c.set_data.result (λ reply. LockAnswers g.row.L-Processor.Denot g.row.L-Callbacks.Denot g.row.L-Transport.Denot reply
    (setters.set_data c.span_key.result c.args.key.now value))) c.in_ok-value.ensures c.set_data.ensures.done)

pub returns-clause-refused : goal.returns-clause-refused
returns-clause-refused g c =
    refused_or (λ refusal. refusal ≡ OutOfMemory)
    (λ (key : TransactionOrSpanKey). λ refusal. LockRefuses g.row.L-Processor.Denot g.row.L-Callbacks.Denot g.row.L-Transport.Denot refusal (setters.set_data key c.args.key.now (g.V.ToValue.value c.args.value)))
    _ _ c.span_key.ensures c.set_data.result
    (subst (λ (value : Value). IfErr c.set_data.result (λ refusal. LockRefuses g.row.L-Processor.Denot g.row.L-Callbacks.Denot g.row.L-Transport.Denot refusal
    (setters.set_data c.span_key.result c.args.key.now value))) c.in_ok-value.ensures c.set_data.ensures.refused)
