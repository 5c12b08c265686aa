-- Spans, and the traces of their transactions.
use Rattle.std.specs.Prelude.{◌≡◌, Option, Some, None, List, [], ◌∷◌, Result, Ok, Err}
use Rattle.std.specs.List.{AllByRecursion}
use Rattle.std.specs.Option.{option_and_then}
use Rattle.sentry_base.specs.declared.protocol.envelope.DynamicSamplingContext.{DynamicSamplingContext}
use Rattle.sentry_base.specs.declared.protocol.envelope.Envelope.{Envelope}
use Rattle.sentry_base.specs.declared.protocol.envelope.EnvelopeHeaders.{EnvelopeHeaders}
use Rattle.sentry_base.specs.declared.protocol.envelope.EnvelopeItem.{EnvelopeItem}
use Rattle.sentry_base.specs.declared.protocol.envelope.EnvelopeItem.TheVariants as item
use Rattle.sentry_base.specs.declared.protocol.ids.TraceId.{TraceId}
use Rattle.sentry_base.specs.declared.protocol.keys.ClientKey.{ClientKey}
use Rattle.sentry_base.specs.declared.protocol.keys.SpanKey.{SpanKey}
use Rattle.sentry_base.specs.declared.protocol.keys.TransactionKey.{TransactionKey}
use Rattle.sentry_base.specs.declared.protocol.refusal.Refusal.{Refusal}
use Rattle.sentry_base.specs.declared.protocol.span.Span.{Span}
use Rattle.sentry_span_table.specs.declared.table.records.SpanRecord.{SpanRecord}
use Rattle.sentry_span_table.specs.declared.table.records.TransactionRecord.{TransactionRecord}
use Rattle.sentry_state.specs.declared.state.Out.{Out}
use Rattle.sentry_state.specs.Outcomes.{stored_transaction_at, span_at}
use Rattle.sentry_state.specs.Worlds.{World}
use Rattle.sentry_calls.specs.declared.call.Call.{Call}
use Rattle.sentry_calls.specs.declared.call.Reply.{Reply}
use Rattle.sentry_laws.specs.SentItems.{handed_in}

-- the span has the trace id of the transaction
abbrev pub IsInTrace : TransactionRecord → Span → Type 0
IsInTrace transaction span = span.trace_id ≡ transaction.context.trace_id

module _ {P C : Type 0} where
  -- each span that a transaction keeps has its trace id
  abbrev pub KeptSpansAreInTrace : World P C → Type 0
  KeptSpansAreInTrace world =
      (key : TransactionKey) (transaction : TransactionRecord) → stored_transaction_at world key ≡ Some transaction
      → AllByRecursion (IsInTrace transaction) transaction.spans

  -- each span that is held belongs to a transaction that is held, and has its trace id
  abbrev pub HeldSpansAreInTrace : World P C → Type 0
  HeldSpansAreInTrace world =
      (key : SpanKey) (held : SpanRecord) → span_at world key ≡ Some held
      → (transaction : TransactionRecord) × (stored_transaction_at world held.transaction ≡ Some transaction)
      × IsInTrace transaction held.span

-- ---- what is sent

-- the trace that a header names, if it names one
abbrev pub trace_named : EnvelopeHeaders → Option TraceId
trace_named header = option_and_then (λ (trace : DynamicSamplingContext). trace.trace_id) header.trace

-- each span of a transaction under a header is in the trace that the header names
abbrev pub ItemIsInTrace : EnvelopeHeaders → EnvelopeItem → Type 0
ItemIsInTrace header (item.Transaction transaction) =
    (trace_id : TraceId) × (trace_named header ≡ Some trace_id)
    × AllByRecursion (λ (span : Span). span.trace_id ≡ trace_id) transaction.spans
ItemIsInTrace header _ = Unit {0}

abbrev pub EnvelopeIsInTrace : Envelope → Type 0
EnvelopeIsInTrace envelope = AllByRecursion (ItemIsInTrace envelope.header) envelope.items

-- it is so of each envelope that is handed out, but of one that the caller handed in
abbrev pub AreInTrace : Option Envelope → List (ClientKey × Envelope) → Type 0
AreInTrace (Some given) sent = Unit {0}
AreInTrace None sent = AllByRecursion (λ (one_ : ClientKey × Envelope). EnvelopeIsInTrace one_.1) sent

module _ {P C : Type 0} where
  -- of each accepted call
  abbrev pub SentSpansAreInTrace : List (Call P C) → List (Result (Out (Reply P C)) Refusal) → Type 0
  SentSpansAreInTrace (call ∷ calls) (Ok out ∷ answers) =
      AreInTrace (handed_in call) out.sent × SentSpansAreInTrace calls answers
  SentSpansAreInTrace (call ∷ calls) (Err refusal ∷ answers) = SentSpansAreInTrace calls answers
  SentSpansAreInTrace [] answers = Unit {0}
  SentSpansAreInTrace (call ∷ calls) [] = Unit {0}
