-- One call on transactions and spans.
use Rattle.sentry_options.specs.Meanings.{Meanings}
use Rattle.sentry_calls.specs.Replies.{map_reply}
use Rattle.sentry_calls.specs.declared.call.spans.records.SpanCall.{SpanCall}
use Rattle.sentry_calls.specs.declared.call.spans.records.SpanCall.TheVariants.{StartTransaction, StartTransactionWithTimestamp, StartChild, StartChildWithDetails, ContinueFromSpan, SetData, SetTag, SetExtra, SetStatus, SetOp, SetName, SetRequest, SetOrigin, GetStatus, GetTraceContext, GetSpanId, Data, IterHeaders, IsSampled, FinishTransaction, FinishSpan, Discard}
use Rattle.sentry_calls.specs.declared.call.spans.records.SpanReply.{SpanReply}
use Rattle.sentry_calls.specs.declared.call.spans.records.SpanReply.TheVariants as reply
use Rattle.sentry_spans.specs.Discards.{discard}
use Rattle.sentry_span_edits.specs.Reads as reads
use Rattle.sentry_span_edits.specs.Setters as setters
use Rattle.sentry_spans.specs.Spans as spans
use Rattle.sentry_state.specs.Outcomes.{Outcome, Need, memory, nothing}
use Rattle.sentry_state.specs.Worlds.{World}

-- what a call may run out of
abbrev pub needs : SpanCall → Need
needs (GetStatus span) = nothing
needs (GetSpanId span) = nothing
needs (IsSampled span) = nothing
needs (Discard span) = nothing
needs call = memory

module _ {P C : Type 0} (meanings : C → Meanings) where
  -- what a call replies, hands out and leaves
  unfoldable pub span_step : SpanCall → World P C → Outcome P C SpanReply
  span_step (StartTransaction hub context fresh) world =
      map_reply reply.Transaction (spans.start_transaction meanings hub context fresh world)
  span_step (StartTransactionWithTimestamp hub context start fresh) world =
      map_reply reply.Transaction (spans.start_transaction_with_timestamp meanings hub context start fresh world)
  span_step (StartChild parent op description fresh) world =
      map_reply reply.Span (spans.start_child parent op description fresh world)
  span_step (StartChildWithDetails parent op description id start) world =
      map_reply reply.Span (spans.start_child_with_details parent op description id start world)
  span_step (ContinueFromSpan name op span fresh) world =
      map_reply reply.Context (spans.continue_from_span name op span fresh world)
  span_step (SetData span key value) world = map_reply (λ _. reply.Done) (setters.set_data span key value world)
  span_step (SetTag span key value) world = map_reply (λ _. reply.Done) (setters.set_tag span key value world)
  span_step (SetExtra transaction key value) world =
      map_reply (λ _. reply.Done) (setters.set_extra transaction key value world)
  span_step (SetStatus span status) world = map_reply (λ _. reply.Done) (setters.set_status span status world)
  span_step (SetOp span op) world = map_reply (λ _. reply.Done) (setters.set_op span op world)
  span_step (SetName span name) world = map_reply (λ _. reply.Done) (setters.set_name span name world)
  span_step (SetRequest span request) world = map_reply (λ _. reply.Done) (setters.set_request span request world)
  span_step (SetOrigin transaction origin) world =
      map_reply (λ _. reply.Done) (setters.set_origin transaction origin world)
  span_step (GetStatus span) world = map_reply reply.Status (reads.get_status span world)
  span_step (GetTraceContext span) world = map_reply reply.TraceContext (reads.get_trace_context span world)
  span_step (GetSpanId span) world = map_reply reply.SpanId (reads.get_span_id span world)
  span_step (Data span) world = map_reply reply.Data (reads.read_data span world)
  span_step (IterHeaders span) world = map_reply reply.Headers (reads.iter_headers span world)
  span_step (IsSampled span) world = map_reply reply.Decision (reads.is_sampled span world)
  span_step (FinishTransaction transaction hub moment) world =
      map_reply (λ _. reply.Done) (spans.finish_transaction transaction hub moment world)
  span_step (FinishSpan span moment) world = map_reply (λ _. reply.Done) (spans.finish_span span moment world)
  span_step (Discard span) world = map_reply (λ _. reply.Done) (discard span world)
