-- The calls that read a transaction or a span.
use Rattle.std.specs.Prelude.{Bool, Option, List, [], if◌then◌else◌}
use Rattle.std.specs.Option.{is_some}
use Rattle.sentry_plain.specs.Texts.{Bytes}
use Rattle.sentry_plain.specs.Values.{Data}
use Rattle.sentry_base.specs.declared.protocol.context.SpanStatus.{SpanStatus}
use Rattle.sentry_base.specs.declared.protocol.context.TraceContext.{TraceContext}
use Rattle.sentry_base.specs.declared.protocol.ids.SpanId.{SpanId}
use Rattle.sentry_base.specs.declared.protocol.keys.SpanKey.{SpanKey}
use Rattle.sentry_base.specs.declared.protocol.keys.TransactionOrSpanKey.{TransactionOrSpanKey}
use Rattle.sentry_base.specs.declared.protocol.keys.TransactionOrSpanKey.TheVariants.{Transaction, Span}
use Rattle.sentry_base.specs.declared.protocol.refusal.Refusal.TheVariants.{Stale}
use Rattle.sentry_scope.specs.Scopes.{propagation_from}
use Rattle.sentry_span_table.specs.SpanTables.{is_traced, place_in}
use Rattle.sentry_span_table.specs.declared.table.records.SpanPlace.{SpanPlace}
use Rattle.sentry_span_table.specs.declared.table.records.SpanRecord.{SpanRecord}
use Rattle.sentry_span_table.specs.declared.table.records.TransactionRecord.{TransactionRecord}
use Rattle.sentry_state.specs.Outcomes.{Outcome, stored_transaction_at, reply_with, require_some, span_at}
use Rattle.sentry_state.specs.Worlds.{World, span_table}
use Rattle.sentry_trace.specs.HeaderLists.{trace_of}
use Rattle.sentry_trace.specs.TraceHeaders.{headers_of}
use Rattle.sentry_trace.specs.TraceTexts.{trace_text}
use Rattle.sentry_trace.specs.declared.headers.trace_headers.TraceHeadersIter.{TraceHeadersIter}

-- the headers that pass a trace on from a place in it
abbrev pub headers_at : SpanPlace → TraceHeadersIter
headers_at place = headers_of (trace_text (trace_of (propagation_from place)))

-- the data of a transaction, which counts only while it is unfinished
abbrev pub open_data : TransactionRecord → List (Bytes × Data)
open_data held = if is_some held.unfinished then held.context.data_ else []

module _ {P C : Type 0} where
  -- a call that reads a transaction or a span
  abbrev pub read : {T : Type 0} → (TransactionRecord → T) → (SpanRecord → T) → TransactionOrSpanKey → World P C
      → Outcome P C T
  read of_transaction of_span (Transaction key) world =
      require_some Stale world (stored_transaction_at world key) (λ held. reply_with (of_transaction held) [] world)
  read of_transaction of_span (Span key) world =
      require_some Stale world (span_at world key) (λ held. reply_with (of_span held) [] world)

  -- ---- calls

  unfoldable pub get_status : TransactionOrSpanKey → World P C → Outcome P C (Option SpanStatus)
  get_status span world = read (λ held. held.context.status) (λ held. held.span.status) span world

  unfoldable pub read_data : TransactionOrSpanKey → World P C → Outcome P C (List (Bytes × Data))
  read_data span world = read open_data (λ held. held.span.data_) span world

  -- whether tracing was enabled when the transaction started, and it was sampled
  unfoldable pub is_sampled : TransactionOrSpanKey → World P C → Outcome P C Bool
  is_sampled span world = read (λ held. is_traced held.tracing) (λ held. is_traced held.tracing) span world

  unfoldable pub get_span_id : SpanKey → World P C → Outcome P C SpanId
  get_span_id key world =
      require_some Stale world (span_at world key) (λ held. reply_with held.span.span_id [] world)

  -- the place of a transaction in its trace; that of a span is its transaction's
  unfoldable pub get_trace_context : TransactionOrSpanKey → World P C → Outcome P C TraceContext
  get_trace_context (Transaction key) world =
      require_some Stale world (stored_transaction_at world key) (λ held. reply_with held.context [] world)
  get_trace_context (Span key) world =
      require_some Stale world (span_at world key) (λ held.
      require_some Stale world (stored_transaction_at world held.transaction) (λ kept. reply_with kept.context [] world))

  -- the headers that pass the trace on to the next service
  unfoldable pub iter_headers : TransactionOrSpanKey → World P C → Outcome P C TraceHeadersIter
  iter_headers key world =
      require_some Stale world (place_in (span_table world) key) (λ place. reply_with (headers_at place) [] world)
