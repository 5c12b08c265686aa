-- What the calls on transactions and spans leave of what the books absorbed.
use Rattle.std.proofs.Common.{refl, ℕ}
use Rattle.std.specs.Prelude.{Result, Ok, Err}
use Rattle.sentry_plain.specs.Texts.{Bytes}
use Rattle.sentry_plain.specs.declared.value.Value.{Value}
use Rattle.sentry_base.specs.Callbacks.{Partial}
use Rattle.sentry_base.specs.declared.protocol.context.SpanStatus.{SpanStatus}
use Rattle.sentry_base.specs.declared.protocol.fresh.Fresh.{Fresh}
use Rattle.sentry_base.specs.declared.protocol.ids.SpanId.{SpanId}
use Rattle.sentry_base.specs.declared.protocol.keys.HubKey.{HubKey}
use Rattle.sentry_base.specs.declared.protocol.keys.SpanKey.{SpanKey}
use Rattle.sentry_base.specs.declared.protocol.keys.TransactionKey.{TransactionKey}
use Rattle.sentry_base.specs.declared.protocol.keys.TransactionOrSpanKey.{TransactionOrSpanKey}
use Rattle.sentry_base.specs.declared.protocol.keys.TransactionOrSpanKey.TheVariants as key_of
use Rattle.sentry_base.specs.declared.protocol.refusal.Refusal.{Refusal}
use Rattle.sentry_base.specs.declared.protocol.request.Request.{Request}
use Rattle.sentry_options.specs.Meanings.{Meanings}
use Rattle.sentry_trace.specs.declared.performance.context.TransactionContext.{TransactionContext}
use Rattle.sentry_calls.specs.SpanCalls.{span_step}
use Rattle.sentry_calls.specs.declared.call.spans.records.SpanCall.TheVariants as on_span
use Rattle.sentry_spans.specs.Discards as discards
use Rattle.sentry_span_edits.specs.Setters as setters
use Rattle.sentry_spans.specs.Ends as ends
use Rattle.sentry_spans.specs.Spans as spans
use Rattle.sentry_state.specs.declared.state.Out.{Out}
use Rattle.sentry_state.specs.Outcomes.{Outcome}
use Rattle.sentry_state.specs.Worlds.{World}
use Rattle.sentry_calls.specs.declared.call.Call.TheVariants as group
use Rattle.sentry_laws.proofs.Absorbed.{KeepsBooks, call_keeps, then_keeps}

module _ {P C : Type 0} where
  -- a finish that keeps books, and then a discard that does
  discard_after_keeps : (answer : Result (Out (Unit {0})) Refusal) (world middle : World P C)
      (go : World P C → Outcome P C (Unit {0})) → KeepsBooks world.books middle.books
      → ((world : World P C) → KeepsBooks world.books (go world).after.books)
      → KeepsBooks world.books (ends.discard_after answer middle go).after.books
  discard_after_keeps (Ok out) world middle go k l =
      then_keeps world.books middle.books (go middle).after.books k (l middle)
  discard_after_keeps (Err refusal) world middle go k l = k

module _ {P C : Type 0} (gives : P → Partial) (meanings : C → Meanings) where
  pub start_transaction_keeps : (hub : HubKey) (context : TransactionContext) (fresh : Fresh) (world : World P C)
      → KeepsBooks world.books (spans.start_transaction meanings hub context fresh world).after.books
  unfolding span_step
  start_transaction_keeps hub context fresh world =
      call_keeps gives meanings (group.Span (on_span.StartTransaction hub context fresh)) world refl

  pub start_transaction_with_timestamp_keeps : (hub : HubKey) (context : TransactionContext) (start : ℕ) (fresh : Fresh) (world : World P C)
      → KeepsBooks world.books (spans.start_transaction_with_timestamp meanings hub context start fresh world).after.books
  unfolding span_step
  start_transaction_with_timestamp_keeps hub context start fresh world =
      call_keeps gives meanings (group.Span (on_span.StartTransactionWithTimestamp hub context start fresh)) world refl

  pub start_child_keeps : (parent : TransactionOrSpanKey) (op : Bytes) (description : Bytes) (fresh : Fresh) (world : World P C)
      → KeepsBooks world.books (spans.start_child parent op description fresh world).after.books
  unfolding span_step
  start_child_keeps parent op description fresh world =
      call_keeps gives meanings (group.Span (on_span.StartChild parent op description fresh)) world refl

  pub start_child_with_details_keeps : (parent : TransactionOrSpanKey) (op : Bytes) (description : Bytes) (id : SpanId) (start : ℕ) (world : World P C)
      → KeepsBooks world.books (spans.start_child_with_details parent op description id start world).after.books
  unfolding span_step
  start_child_with_details_keeps parent op description id start world =
      call_keeps gives meanings (group.Span (on_span.StartChildWithDetails parent op description id start)) world refl

  pub finish_span_keeps : (span : SpanKey) (moment : ℕ) (world : World P C)
      → KeepsBooks world.books (spans.finish_span span moment world).after.books
  unfolding span_step
  finish_span_keeps span moment world =
      call_keeps gives meanings (group.Span (on_span.FinishSpan span moment)) world refl

  pub finish_transaction_keeps : (transaction : TransactionKey) (hub : HubKey) (moment : ℕ) (world : World P C)
      → KeepsBooks world.books (spans.finish_transaction transaction hub moment world).after.books
  unfolding span_step
  finish_transaction_keeps transaction hub moment world =
      call_keeps gives meanings (group.Span (on_span.FinishTransaction transaction hub moment)) world refl

  pub discard_keeps : (span : TransactionOrSpanKey) (world : World P C)
      → KeepsBooks world.books (discards.discard span world).after.books
  unfolding span_step
  discard_keeps span world =
      call_keeps gives meanings (group.Span (on_span.Discard span)) world refl

  pub end_span_keeps : (span : SpanKey) (moment : ℕ) (world : World P C)
      → KeepsBooks world.books (ends.end_span span moment world).after.books
  end_span_keeps span moment world =
      discard_after_keeps (spans.finish_span span moment world).answer world _ (discards.discard (key_of.Span span))
      (finish_span_keeps span moment world) (discard_keeps (key_of.Span span))

  pub end_transaction_keeps : (transaction : TransactionKey) (hub : HubKey) (moment : ℕ) (world : World P C)
      → KeepsBooks world.books (ends.end_transaction transaction hub moment world).after.books
  end_transaction_keeps transaction hub moment world =
      discard_after_keeps (spans.finish_transaction transaction hub moment world).answer world _
      (discards.discard (key_of.Transaction transaction))
      (finish_transaction_keeps transaction hub moment world) (discard_keeps (key_of.Transaction transaction))

  pub set_data_keeps : (span : TransactionOrSpanKey) (key : Bytes) (value : Value) (world : World P C)
      → KeepsBooks world.books (setters.set_data span key value world).after.books
  unfolding span_step
  set_data_keeps span key value world =
      call_keeps gives meanings (group.Span (on_span.SetData span key value)) world refl

  pub set_tag_keeps : (span : TransactionOrSpanKey) (key : Bytes) (value : Bytes) (world : World P C)
      → KeepsBooks world.books (setters.set_tag span key value world).after.books
  unfolding span_step
  set_tag_keeps span key value world =
      call_keeps gives meanings (group.Span (on_span.SetTag span key value)) world refl

  pub set_extra_keeps : (transaction : TransactionKey) (key : Bytes) (value : Value) (world : World P C)
      → KeepsBooks world.books (setters.set_extra transaction key value world).after.books
  unfolding span_step
  set_extra_keeps transaction key value world =
      call_keeps gives meanings (group.Span (on_span.SetExtra transaction key value)) world refl

  pub set_status_keeps : (span : TransactionOrSpanKey) (status : SpanStatus) (world : World P C)
      → KeepsBooks world.books (setters.set_status span status world).after.books
  unfolding span_step
  set_status_keeps span status world =
      call_keeps gives meanings (group.Span (on_span.SetStatus span status)) world refl

  pub set_op_keeps : (span : TransactionOrSpanKey) (op : Bytes) (world : World P C)
      → KeepsBooks world.books (setters.set_op span op world).after.books
  unfolding span_step
  set_op_keeps span op world =
      call_keeps gives meanings (group.Span (on_span.SetOp span op)) world refl

  pub set_name_keeps : (span : TransactionOrSpanKey) (name : Bytes) (world : World P C)
      → KeepsBooks world.books (setters.set_name span name world).after.books
  unfolding span_step
  set_name_keeps span name world =
      call_keeps gives meanings (group.Span (on_span.SetName span name)) world refl

  pub set_request_keeps : (span : TransactionOrSpanKey) (request : Request) (world : World P C)
      → KeepsBooks world.books (setters.set_request span request world).after.books
  unfolding span_step
  set_request_keeps span request world =
      call_keeps gives meanings (group.Span (on_span.SetRequest span request)) world refl

  pub set_origin_keeps : (transaction : TransactionKey) (origin : Bytes) (world : World P C)
      → KeepsBooks world.books (setters.set_origin transaction origin world).after.books
  unfolding span_step
  set_origin_keeps transaction origin world =
      call_keeps gives meanings (group.Span (on_span.SetOrigin transaction origin)) world refl
