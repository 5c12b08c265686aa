use Rattle.sentry_base.specs.declared.protocol.keys.TransactionKey.{TransactionKey}
use Rattle.sentry_base.specs.declared.protocol.refusal.Refusal.TheVariants.{OutOfMemory}
use Rattle.sentry_hub.proofs.Handles.{done_for, refused_or}
use Rattle.sentry_lock.specs.Answers.{LockAnswers, LockRefuses}
use Rattle.sentry_plain.specs.declared.value.Value.{Value}
use Rattle.sentry_span_edits.specs.Setters as setters
use Rattle.std.proofs.Common.{◌≡◌, false, subst}
use Rattle.std.specs.Prelude.{IfErr, IfOk}
use Rattle.sentry_hub.proofs.performance.kinds.Transaction+L.set_extra.Goals as goal

pub returns-clause-done : goal.returns-clause-done
returns-clause-done g c =
    done_for (λ reply. c.args.self.now.1 ≡ false)
    (λ (key : TransactionKey). λ reply. LockAnswers g.row.L-Processor.Denot g.row.L-Callbacks.Denot g.row.L-Transport.Denot reply (setters.set_extra key c.args.key.now (g.V.ToValue.value c.args.value)))
    _ _ c.key.ensures c.set_extra.result
    (subst (λ (value : Value). IfOk c.set_extra.result (λ reply. LockAnswers g.row.L-Processor.Denot g.row.L-Callbacks.Denot g.row.L-Transport.Denot reply
    (setters.set_extra c.key.result c.args.key.now value))) c.in_ok-value.ensures c.set_extra.ensures.done)

pub returns-clause-refused : goal.returns-clause-refused
returns-clause-refused g c =
    refused_or (λ refusal. refusal ≡ OutOfMemory)
    (λ (key : TransactionKey). λ refusal. LockRefuses g.row.L-Processor.Denot g.row.L-Callbacks.Denot g.row.L-Transport.Denot refusal (setters.set_extra key c.args.key.now (g.V.ToValue.value c.args.value)))
    _ _ c.key.ensures c.set_extra.result
    (subst (λ (value : Value). IfErr c.set_extra.result (λ refusal. LockRefuses g.row.L-Processor.Denot g.row.L-Callbacks.Denot g.row.L-Transport.Denot refusal
    (setters.set_extra c.key.result c.args.key.now value))) c.in_ok-value.ensures c.set_extra.ensures.refused)
