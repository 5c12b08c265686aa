use Rattle.sentry_base.specs.declared.protocol.keys.TransactionOrSpanKey.{TransactionOrSpanKey}
use Rattle.sentry_lock.specs.Answers.{LockRefuses}
use Rattle.sentry_spans.specs.Spans as spans
use Rattle.std.proofs.Common.{inr, refl, subst}
use Rattle.sentry_hub.proofs.performance.handle.Handle.start_child.Goals as goal

pub returns-in-Ok-clause-done : goal.returns-in-Ok-clause-done
returns-in-Ok-clause-done g c =
    inr (rw c.of_key.ensures refl, rw (c.of_key.ensures, ← c.span_key.ensures) c.in-Ok.ensures.done)

pub returns-in-Err-clause-refused : goal.returns-in-Err-clause-refused
returns-in-Err-clause-refused g c =
    inr (subst (λ (key : TransactionOrSpanKey). LockRefuses g.row.L-Processor.Denot g.row.L-Callbacks.Denot g.row.L-Transport.Denot c.in-Err.refusal
    (spans.start_child key c.args.op.now c.args.description.now c.args.fresh)) c.span_key.ensures c.in-Err.ensures.refused)
