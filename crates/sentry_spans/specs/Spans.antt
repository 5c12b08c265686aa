-- The calls on transactions and spans.
use Rattle.std.specs.Prelude.{ℕ, Bool, true, false, Option, Some, None, List, [], ◌∷◌, nat_lt, ◌-◌, ◌^◌, codes, if◌then◌else◌}
use Rattle.std.specs.Option.{is_some, option_map, option_and_then}
use Rattle.sentry_plain.specs.Texts.{Bytes, put}
use Rattle.sentry_base.specs.Envelopes.{empty_envelope, with_item}
use Rattle.sentry_base.specs.Losses.{loss_of}
use Rattle.sentry_base.specs.RecordLosses.{transaction_losses}
use Rattle.sentry_base.specs.Spans.{new_span, new_transaction}
use Rattle.sentry_base.specs.declared.protocol.client_report.ClientReport.{ClientReport}
use Rattle.sentry_base.specs.declared.protocol.context.Context.TheVariants as context_of
use Rattle.sentry_base.specs.declared.protocol.context.TraceContext.{TraceContext}
use Rattle.sentry_base.specs.declared.protocol.envelope.Envelope.{Envelope}
use Rattle.sentry_base.specs.declared.protocol.envelope.EnvelopeItem.TheVariants as item
use Rattle.sentry_base.specs.declared.protocol.fresh.Fresh.{Fresh}
use Rattle.sentry_base.specs.declared.protocol.ids.SpanId.{SpanId}
use Rattle.sentry_base.specs.declared.protocol.keys.ClientKey.{ClientKey}
use Rattle.sentry_base.specs.declared.protocol.keys.HubKey.{HubKey}
use Rattle.sentry_base.specs.declared.protocol.keys.SpanKey.{SpanKey}
use Rattle.sentry_base.specs.declared.protocol.keys.TransactionKey.{TransactionKey}
use Rattle.sentry_base.specs.declared.protocol.keys.TransactionOrSpanKey.{TransactionOrSpanKey}
use Rattle.sentry_base.specs.declared.protocol.losses.Category.TheVariants as category
use Rattle.sentry_base.specs.declared.protocol.losses.Reason.TheVariants as reason
use Rattle.sentry_base.specs.declared.protocol.refusal.Refusal.TheVariants.{Stale, Full}
use Rattle.sentry_base.specs.declared.protocol.span.Span.{Span}
use Rattle.sentry_base.specs.declared.protocol.transaction.Transaction.{Transaction}
use Rattle.sentry_client_reports.specs.LossBooks.{LossEntry, engine_losses}
use Rattle.sentry_options.specs.Meanings.{Meanings}
use Rattle.sentry_options.specs.declared.clientoptions.ClientOptions.{ClientOptions}
use Rattle.sentry_scope.specs.Scopes.{fill_transaction}
use Rattle.sentry_scope.specs.declared.scope.Scope.{Scope}
use Rattle.sentry_sending.specs.Sending.{envelopes_from, after_sending}
use Rattle.sentry_span_table.specs.SpanLists.{TransactionHistory, fate_of, with_span_finished}
use Rattle.sentry_span_table.specs.SpanTables.{place_in, trace_sampled}
use Rattle.sentry_span_table.specs.declared.table.records.SpanFate.{SpanFate}
use Rattle.sentry_span_table.specs.declared.table.records.SpanFate.TheVariants.{Kept, Lost, Gone}
use Rattle.sentry_span_table.specs.declared.table.records.SpanPlace.{SpanPlace}
use Rattle.sentry_span_table.specs.declared.table.records.SpanRecord.{SpanRecord}
use Rattle.sentry_span_table.specs.declared.table.records.TracingState.{TracingState}
use Rattle.sentry_span_table.specs.declared.table.records.TracingState.TheVariants.{Enabled, Disabled}
use Rattle.sentry_span_table.specs.declared.table.records.TransactionRecord.{TransactionRecord}
use Rattle.sentry_span_table.specs.declared.table.records.Unfinished.{Unfinished}
use Rattle.sentry_spans.specs.Sampling.{accepted_context, tracing_of}
use Rattle.sentry_state.specs.Books.{pending_report, with_entry}
use Rattle.sentry_state.specs.Outcomes.{Outcome, hub_at, stored_client_at, let_some, reply_with, require, require_some, stored_transaction_at, span_at, transaction_at}
use Rattle.sentry_state.specs.SpanChanges.{finished_span, next_span_key, next_transaction_key, with_transaction_finished, with_new_span, with_new_transaction, with_span, with_transaction}
use Rattle.sentry_state.specs.Worlds.{World, span_table}
use Rattle.sentry_state.specs.declared.state.ClientState.{ClientState}
use Rattle.sentry_trace.specs.Contexts.{new_context}
use Rattle.sentry_trace.specs.declared.performance.context.TransactionContext.{TransactionContext}

-- ---- starts

-- the place of a transaction in its trace
abbrev pub trace_context : TransactionContext → TraceContext
trace_context context = record {
  trace_id = context.trace_id;
  span_id = context.span_id;
  parent_span_id = context.parent_span_id;
  op = Some context.op;
  description = None;
  status = None;
  origin = None;
  data_ = [];
}

-- a transaction without a client, which is finished from the start
abbrev pub clientless_transaction : TransactionContext → TransactionHistory
clientless_transaction context = record {
  tracing = Disabled context.sampled;
  context = trace_context context;
  max_spans = 0;
  unfinished = None;
  finished = [];
}

-- a transaction that starts from a context that the client accepts
abbrev pub transaction_from : ClientKey → TracingState → ℕ → TransactionContext → List ℕ → ℕ → TransactionHistory
transaction_from key tracing max_spans context id start = record {
  tracing = tracing;
  context = trace_context context;
  max_spans = max_spans;
  unfinished = Some (record { client = key; transaction = new_transaction id context.name start });
  finished = [];
}

-- a transaction of a client
abbrev pub client_transaction : {C : Type 0} → (C → Meanings) → ClientKey → ClientOptions C → TransactionContext
    → ℕ → Fresh → TransactionHistory
client_transaction meanings key options context start fresh =
    let accepted = accepted_context options.plain fresh.trace_id context in
    transaction_from key
    (tracing_of (meanings options.callbacks) options.traces_sampling_strategy accepted fresh.draw)
    options.plain.max_spans accepted fresh.uuid start

-- a transaction under a client that was found, or without one
abbrev pub started_transaction : {C : Type 0} → (C → Meanings) → Option ClientKey → Option (ClientState C)
    → TransactionContext → ℕ → Fresh → TransactionHistory
started_transaction meanings (Some key) (Some client) context start fresh =
    client_transaction meanings key client.options context start fresh
started_transaction meanings name client context start fresh = clientless_transaction context

-- a context that goes on from a place in a trace; no organization is compared later
abbrev pub context_from : Bytes → Bytes → SpanId → SpanPlace → TransactionContext
context_from name op span_id place = record (new_context name op place.trace_id span_id) {
  parent_span_id = Some place.span_id;
  sampled = trace_sampled place.tracing;
}

-- a description that is empty is none
abbrev pub description_of : Bytes → Option Bytes
description_of [] = None
description_of (byte ∷ rest) = Some (byte ∷ rest)

-- a span that starts at a place
abbrev pub child_of : SpanPlace → Bytes → Bytes → SpanId → ℕ → SpanRecord
child_of place op description id start = record {
  transaction = place.transaction;
  tracing = place.tracing;
  span = record (new_span place.trace_id id (Some place.span_id) start) {
    op = Some op;
    description = description_of description;
  };
}

-- ---- finishes

-- a span that its transaction has no room for
abbrev pub span_loss : LossEntry
span_loss = engine_losses (loss_of category.Span reason.BufferOverflow 1)

-- a transaction that was not sampled, with the spans that it kept
abbrev pub transaction_loss : Transaction → LossEntry
transaction_loss transaction = engine_losses (transaction_losses reason.SampleRate transaction)

-- the transaction as it is sent: its end, its place in the trace, and the spans that it kept; what the scope sets; and
-- what the client says of itself
abbrev pub sent_transaction : {P C : Type 0} → ClientState C → Scope P → TraceContext → List Span → ℕ → Transaction
    → Transaction
sent_transaction client scope context spans moment transaction =
    record (fill_transaction scope (record transaction {
      timestamp = Some moment;
      contexts = put transaction.contexts (codes "trace") (context_of.Trace context);
      spans = spans;
    })) {
      release = client.options.plain.release;
      environment = client.options.plain.environment;
      sdk = Some client.sdk;
      server_name = client.options.plain.server_name;
    }

-- the envelope of a transaction that was sampled at a rate
abbrev pub transaction_envelope : {C : Type 0} → ClientOptions C → TraceContext → ℕ → Transaction → Envelope
transaction_envelope options context rate transaction =
    with_item (record empty_envelope {
      header = record {
        event_id = None;
        trace = Some (record {
          trace_id = Some context.trace_id;
          sample_rate = Some rate;
          sampled = Some true;
          public_key = option_map (λ dsn. dsn.public_key) options.plain.dsn;
        });
      };
    }) (item.Transaction transaction)

-- goes on by what was decided of the trace: without tracing, not sampled, or sampled at a rate
abbrev pub by_tracing : {X : Type 0} → TracingState → X → X → (ℕ → X) → X
by_tracing (Disabled decision) untraced unsampled sampled = untraced
by_tracing (Enabled false rate) untraced unsampled sampled = unsampled
by_tracing (Enabled true rate) untraced unsampled sampled = sampled rate

module _ {P C : Type 0} where
  -- the world in which a client that was found lost something
  abbrev pub with_loss_of : Option (ClientState C) → LossEntry → World P C → World P C
  with_loss_of None entry world = world
  with_loss_of (Some client) entry world = with_entry world client.label entry

  -- the world in which a client lost something, if it is held
  abbrev pub with_client_loss : ClientKey → LossEntry → World P C → World P C
  with_client_loss key entry world = with_loss_of (stored_client_at world key) entry world

  -- the world in which this became of a span: one that is lost counts at the client
  abbrev pub with_fate : SpanFate → World P C → World P C
  with_fate Kept world = world
  with_fate (Lost client) world = with_client_loss client span_loss world
  with_fate Gone world = world

  -- the world in which a span finished in a transaction, if that is held
  abbrev pub with_span_in : TransactionKey → Span → Option TransactionHistory → World P C → World P C
  with_span_in key span None world = world
  with_span_in key span (Some state) world =
      with_fate (fate_of state) (with_transaction key.number (with_span_finished span state) world)

  -- an envelope of a client is sent with a report, if its slot is occupied
  abbrev pub send_envelope : ClientKey → ClientState C → Option ClientReport → Envelope → World P C
      → Outcome P C (Unit {0})
  send_envelope key client report envelope world =
      let sent = envelopes_from client.occupied key report (envelope ∷ []) in
      reply_with tt sent (after_sending client.label sent world)

  -- ---- calls

  abbrev pub is_transaction_number_left : World P C → Bool
  is_transaction_number_left world = nat_lt world.next.transaction (2 ^ 64 - 1)

  abbrev pub is_span_number_left : World P C → Bool
  is_span_number_left world = nat_lt world.next.span (2 ^ 64 - 1)

  -- a transaction on a hub starts at a moment, under the client of its top layer
  unfoldable pub start_transaction_with_timestamp : (C → Meanings) → HubKey → TransactionContext → ℕ → Fresh → World P C
      → Outcome P C TransactionKey
  start_transaction_with_timestamp meanings key context start fresh world =
      require_some Stale world (hub_at world key) (λ hub.
      require Full world (is_transaction_number_left world)
      (reply_with (next_transaction_key world) [] (with_new_transaction
      (started_transaction meanings hub.stack.top.client
      (option_and_then (stored_client_at world) hub.stack.top.client) context start fresh) world)))

  -- the same, at the moment of the call
  abbrev pub start_transaction : (C → Meanings) → HubKey → TransactionContext → Fresh → World P C
      → Outcome P C TransactionKey
  start_transaction meanings key context fresh =
      start_transaction_with_timestamp meanings key context fresh.now fresh

  -- a context that goes on from a transaction or a span, or that starts a trace where none is named
  unfoldable pub continue_from_span : Bytes → Bytes → Option TransactionOrSpanKey → Fresh → World P C
      → Outcome P C TransactionContext
  continue_from_span name op None fresh world =
      reply_with (new_context name op fresh.trace_id fresh.span_id) [] world
  continue_from_span name op (Some key) fresh world =
      require_some Stale world (place_in (span_table world) key) (λ place.
      reply_with (context_from name op fresh.span_id place) [] world)

  -- a child of a transaction or of a span starts, with this id and at this moment
  unfoldable pub start_child_with_details : TransactionOrSpanKey → Bytes → Bytes → SpanId → ℕ → World P C
      → Outcome P C SpanKey
  start_child_with_details parent op description id start world =
      require_some Stale world (place_in (span_table world) parent) (λ place.
      require Full world (is_span_number_left world)
      (reply_with (next_span_key world) [] (with_new_span (child_of place op description id start) world)))

  -- the same, with the id and the moment of the call
  abbrev pub start_child : TransactionOrSpanKey → Bytes → Bytes → Fresh → World P C → Outcome P C SpanKey
  start_child parent op description fresh = start_child_with_details parent op description fresh.span_id fresh.now

  -- a span finishes at a moment, for the first time; it comes to those of its transaction
  unfoldable pub finish_span : SpanKey → ℕ → World P C → Outcome P C (Unit {0})
  finish_span key moment world =
      require_some Stale world (span_at world key) (λ held.
      if is_some held.span.timestamp then reply_with tt [] world else
      reply_with tt [] (with_span_in held.transaction (finished_span moment held).span
      (transaction_at world held.transaction) (with_span key.number (finished_span moment held) world)))

  -- a transaction that wasn't sampled finishes, and is lost
  abbrev pub lose_transaction : TransactionKey → TransactionRecord → Unfinished → World P C → Outcome P C (Unit {0})
  lose_transaction key held unfinished world =
      reply_with tt []
      (with_client_loss unfinished.client (transaction_loss (record unfinished.transaction { spans = held.spans }))
      (with_transaction_finished key world))

  -- one that was sampled, at this rate, finishes, and is sent by its client under a scope, if the client is held
  abbrev pub send_transaction : TransactionKey → TransactionRecord → Unfinished → Scope P → ℕ → ℕ → World P C
      → Outcome P C (Unit {0})
  send_transaction key held unfinished scope moment rate world =
      let_some (stored_client_at world unfinished.client) (reply_with tt [] (with_transaction_finished key world)) (λ client.
      send_envelope unfinished.client client (pending_report world client.label)
      (transaction_envelope client.options held.context rate
      (sent_transaction client scope held.context held.spans moment unfinished.transaction))
      (with_transaction_finished key world))

  -- a transaction finishes at a moment, under the top scope of a hub; one that is finished already stays as it is
  unfoldable pub finish_transaction : TransactionKey → HubKey → ℕ → World P C → Outcome P C (Unit {0})
  finish_transaction key hub_key moment world =
      require_some Stale world (stored_transaction_at world key) (λ held.
      require_some Stale world (hub_at world hub_key) (λ hub.
      let_some held.unfinished (reply_with tt [] world) (λ unfinished.
      by_tracing held.tracing
      (reply_with tt [] (with_transaction_finished key world))
      (lose_transaction key held unfinished world)
      (λ rate. send_transaction key held unfinished hub.stack.top.scope moment rate world))))
