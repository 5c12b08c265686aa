-- What calls on a transaction or a span answer, by the key of either.
use Rattle.std.specs.Prelude.{◌⊎◌, ℕ, [], None, Ok, Err, replicate, ⊤}
use Rattle.sentry_base.specs.declared.protocol.context.TraceContext.{TraceContext}
use Rattle.sentry_base.specs.declared.protocol.keys.HubKey.{HubKey}
use Rattle.sentry_base.specs.declared.protocol.keys.TransactionOrSpanKey.{TransactionOrSpanKey}
use Rattle.sentry_base.specs.declared.protocol.keys.TransactionOrSpanKey.TheVariants.{Transaction, Span}
use Rattle.sentry_base.specs.declared.protocol.refusal.Refusal.{Refusal}
use Rattle.sentry_lock.specs.Answers.{LockAnswers, LockDrainsAndAnswers, LockRefuses}
use Rattle.sentry_spans.specs.Ends as ends
use Rattle.sentry_spans.specs.Spans as spans

-- the place of what names nothing
abbrev pub context_of_zeros : TraceContext
context_of_zeros = record {
  trace_id = record { 0 = replicate 16 0 };
  span_id = record { 0 = replicate 8 0 };
  parent_span_id = None;
  op = None;
  description = None;
  status = None;
  origin = None;
  data_ = [];
}

-- at a moment, and a transaction on this hub
module _ (P C T : Type 0) (hub : HubKey) (moment : ℕ) where
  -- it finished
  abbrev pub Finishes : TransactionOrSpanKey → Type 0
  Finishes (Transaction key) = LockDrainsAndAnswers P C T tt (spans.finish_transaction key hub moment)
  Finishes (Span key) = LockAnswers P C T tt (spans.finish_span key moment)

  -- what refused the finish of a span
  abbrev pub FinishesNot : TransactionOrSpanKey → Refusal → Type 0
  FinishesNot (Transaction key) refusal = ⊤
  FinishesNot (Span key) refusal = LockRefuses P C T refusal (spans.finish_span key moment)

  -- it finished and was forgotten
  abbrev pub Ends : TransactionOrSpanKey → Type 0
  Ends (Transaction key) = LockDrainsAndAnswers P C T (Ok tt) (ends.end_transaction key hub moment)
  Ends (Span key) = LockAnswers P C T (Ok tt) (ends.end_span key moment)

  -- what refused the finish of a span, or that it is forgotten
  abbrev pub EndsNot : TransactionOrSpanKey → Refusal → Type 0
  EndsNot (Transaction key) refusal = ⊤
  EndsNot (Span key) refusal =
      LockRefuses P C T refusal (ends.end_span key moment) ⊎ LockAnswers P C T (Err refusal) (ends.end_span key moment)
