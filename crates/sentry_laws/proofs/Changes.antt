-- The changes that every call is a sequence of.
use Rattle.std.specs.Prelude.{◌≡◌, ◌≢◌, ℕ, ◌+◌, Bool, true, false, Option, Some, None, List, [], ◌∷◌, ◌++◌, ◌⊎◌, ◌==◌, ◌<◌, if◌then◌else◌}
use Rattle.std.specs.List.{list_any, AllByRecursion}
use Rattle.std.specs.Option.{option_map}
use Rattle.sentry_plain.specs.Tables.{value_at, put, replace_at, without}
use Rattle.sentry_base.specs.Envelopes.{with_report}
use Rattle.sentry_base.specs.declared.protocol.envelope.Envelope.{Envelope}
use Rattle.sentry_base.specs.declared.protocol.envelope.EnvelopeHeaders.{EnvelopeHeaders}
use Rattle.sentry_base.specs.declared.protocol.envelope.EnvelopeItem.{EnvelopeItem}
use Rattle.sentry_base.specs.declared.protocol.envelope.EnvelopeItem.TheVariants as item
use Rattle.sentry_base.specs.declared.protocol.keys.ClientKey.{ClientKey}
use Rattle.sentry_base.specs.declared.protocol.keys.Label.{Label}
use Rattle.sentry_base.specs.declared.protocol.keys.SessionKey.{SessionKey}
use Rattle.sentry_base.specs.declared.protocol.log.Log.{Log}
use Rattle.sentry_base.specs.declared.protocol.metric.Metric.{Metric}
use Rattle.sentry_base.specs.declared.protocol.session.SessionStatus.TheVariants as session_status
use Rattle.sentry_base.specs.declared.protocol.session.SessionUpdate.{SessionUpdate}
use Rattle.sentry_options.specs.Meanings.{Meanings}
use Rattle.sentry_options.specs.declared.clientoptions.ClientOptions.{ClientOptions}
use Rattle.sentry_batches.specs.Batches.{accept, batch_on}
use Rattle.sentry_client_reports.specs.LossBooks.{engine_losses, drained_losses, report_point}
use Rattle.sentry_scope.specs.EditLists.{all_name_held_spans}
use Rattle.sentry_scope.specs.declared.scope.Scope.{Scope}
use Rattle.sentry_scope.specs.Stacks.{one_layer, top_alone, depth}
use Rattle.sentry_sessions.specs.SessionQueues.{enqueued, envelopes_on}
use Rattle.sentry_sessions.specs.Sessions.{SessionEntry}
use Rattle.sentry_sessions.specs.declared.session.record.SessionStart.{SessionStart}
use Rattle.sentry_hub_table.specs.Hubs.{with_session}
use Rattle.sentry_hub_table.specs.declared.hub.HubState.{HubState}
use Rattle.sentry_state.specs.Worlds.{World, ClientHistory, SessionHistory, span_table}
use Rattle.sentry_base.specs.declared.protocol.keys.SpanKey.{SpanKey}
use Rattle.sentry_base.specs.declared.protocol.keys.TransactionKey.{TransactionKey}
use Rattle.sentry_base.specs.declared.protocol.keys.TransactionOrSpanKey.{TransactionOrSpanKey}
use Rattle.sentry_base.specs.declared.protocol.keys.TransactionOrSpanKey.TheVariants as key_of
use Rattle.sentry_span_table.specs.SpanLists.{TransactionHistory, kept_spans, with_span_finished}
use Rattle.sentry_span_table.specs.SpanTables.{has_span_of, is_held, place_in}
use Rattle.sentry_span_table.specs.declared.table.records.SpanPlace.{SpanPlace}
use Rattle.sentry_span_table.specs.declared.table.records.SpanRecord.{SpanRecord}
use Rattle.sentry_spans.specs.Discards.{is_active_on}
use Rattle.sentry_state.specs.SpanChanges.{with_new_transaction, with_new_span}
use Rattle.sentry_state.specs.Outcomes.{client_at, is_held_or_none, transaction_at, span_at}
use Rattle.sentry_state.specs.Clients.{is_client_named, clone_from, queues_from}
use Rattle.sentry_state.specs.Changes.{with_log_entry, with_metric_entry, with_client_entry, with_client_history, with_new_hub, with_new_session}
use Rattle.sentry_state.specs.Books.{with_book, with_entry, pending_report, has_book, without_unused_book}
use Rattle.sentry_sending.specs.Sending.{send}
use Rattle.sentry_telemetry.specs.declared.flushes.Flush.{Flush}
use Rattle.sentry_telemetry.specs.Flushes.{is_closing, after_flush, flushed_envelopes, batch_envelopes}
use Rattle.sentry_laws.specs.Statuses.{status_of}
use Rattle.sentry_laws.specs.Traces.{trace_named}
use Rattle.sentry_laws.specs.OwnCalls.{LayerChange, client_added, client_cloned, hub_made, hub_made_from, hub_changed, hub_released, scope_edited, client_bound, change_layers}
use Rattle.sentry_laws.proofs.Effects.{Came, a_log, a_metric, a_close, Effect, seen, session_named, losses_absorbed, report_taken, session_begun, client_dropped, came_to_queues}

-- ---- what comes to the queues of a client

pub data Arrival : Type 0 where
  log_came : Log → Arrival
  metric_came : Metric → Arrival
  session_ended : SessionUpdate → Arrival
  flush_came : Flush → Arrival

module _ {C : Type 0} where
  abbrev pub after_arrival : Arrival → ClientHistory C → ClientHistory C
  after_arrival (log_came log) client = with_log_entry (accept log) client
  after_arrival (metric_came metric) client = with_metric_entry (accept metric) client
  after_arrival (session_ended update) client = with_client_entry (enqueued update) client
  after_arrival (flush_came flush) client = after_flush flush client

  abbrev pub envelopes_on_arrival : Arrival → ClientHistory C → List Envelope
  envelopes_on_arrival (log_came log) client =
      batch_envelopes (batch_on client.options.plain.max_batch_items (accept log) client.queues.logs) None
  envelopes_on_arrival (metric_came metric) client =
      batch_envelopes None (batch_on client.options.plain.max_batch_items (accept metric) client.queues.metrics)
  envelopes_on_arrival (session_ended update) client =
      envelopes_on client.options.plain.session_mode update client.queues.sessions
  envelopes_on_arrival (flush_came flush) client =
      flushed_envelopes flush client.options.plain client.queues

module _ {P C : Type 0} where
  -- a session that is held has the id and the status of the update
  abbrev pub IsOfHeld : World P C → SessionUpdate → Type 0
  IsOfHeld world update =
      (number : ℕ) × (session : SessionHistory) × (value_at world.sessions number ≡ Some session)
      × (session.start.session_id ≡ update.session_id) × (status_of session ≡ update.status)

  abbrev pub ItemIsOfHeld : World P C → EnvelopeItem → Type 0
  ItemIsOfHeld world (item.SessionUpdate update) = IsOfHeld world update
  ItemIsOfHeld world _ = Unit {0}

  -- each update of a session among these items is so
  abbrev pub AreOfHeld : World P C → List EnvelopeItem → Type 0
  AreOfHeld world [] = Unit {0}
  AreOfHeld world (first ∷ rest) = ItemIsOfHeld world first × AreOfHeld world rest

  -- a transaction among items under a header has the spans that one which is held kept, and the header names its trace
  abbrev pub ItemIsOfTransaction : World P C → EnvelopeHeaders → EnvelopeItem → Type 0
  ItemIsOfTransaction world header (item.Transaction transaction) =
      (number : ℕ) × (state : TransactionHistory) × (value_at world.transactions number ≡ Some state)
      × (trace_named header ≡ Some state.context.trace_id)
      × (transaction.spans ≡ kept_spans state.tracing state.max_spans state.finished)
  ItemIsOfTransaction world header _ = Unit {0}

  abbrev pub AreOfTransactions : World P C → EnvelopeHeaders → List EnvelopeItem → Type 0
  AreOfTransactions world header items = AllByRecursion (ItemIsOfTransaction world header) items

  -- an update that comes is one of a session that is held, and has another status than `Ok`; a flush isn't the last one
  abbrev pub IsArrival : World P C → Arrival → Type 0
  IsArrival world (session_ended update) = IsOfHeld world update × (update.status ≢ session_status.Ok)
  IsArrival world (flush_came flush) = is_closing flush ≡ false
  IsArrival world _ = ⊥

-- what comes, if it is one of what calls bring to queues by themselves
abbrev pub kind_of : Arrival → Option Came
kind_of (log_came log) = Some a_log
kind_of (metric_came metric) = Some a_metric
kind_of (session_ended update) = None
kind_of (flush_came flush) = if is_closing flush then Some a_close else None

-- no session is named, or one with the tag and a number that was given out
abbrev pub IsGiven : ℕ → ℕ → Option SessionKey → Type 0
IsGiven tag next None = Unit {0}
IsGiven tag next (Some key) = (key.tag ≡ tag) × (key.number < next)

abbrev pub is_batch_or_report : EnvelopeItem → Bool
is_batch_or_report (item.Logs logs) = true
is_batch_or_report (item.Metrics metrics) = true
is_batch_or_report (item.ClientReport report) = true
is_batch_or_report _ = false

module _ {P C : Type 0} where
  -- the key of the next client
  abbrev pub next_client_key : World P C → ClientKey
  next_client_key world = record { tag = world.tag; number = world.next.client }

  -- the options of a client that the world holds
  abbrev pub held_options : World P C → ClientKey → Option (ClientOptions C)
  held_options world key = option_map (λ (client : ClientHistory C). client.options) (client_at world key)

  -- the change of layers names no client and no span that isn't held
  abbrev pub IsAllowed : World P C → LayerChange P → Type 0
  IsAllowed world (client_bound client) = is_held_or_none world client ≡ true
  IsAllowed world (scope_edited edits) = all_name_held_spans (span_table world) edits ≡ true
  IsAllowed world _ = Unit {0}

-- one change of the transactions and spans that are held, which starts none
pub data SpanChange {P C : Type 0} (world : World P C) : List (ℕ × TransactionHistory) → List (ℕ × SpanRecord)
    → Type 0 where
  changes_transaction : (number : ℕ) (old new : TransactionHistory) → value_at world.transactions number ≡ Some old
      → new.context.trace_id ≡ old.context.trace_id → new.finished ≡ old.finished
      → SpanChange world (replace_at world.transactions number new) world.spans
  changes_span : (number : ℕ) (old new : SpanRecord) → value_at world.spans number ≡ Some old
      → new.transaction ≡ old.transaction → new.span.trace_id ≡ old.span.trace_id
      → SpanChange world world.transactions (replace_at world.spans number new)
  -- a span finished in its transaction
  keeps_span : (number : ℕ) (held : SpanRecord) (state : TransactionHistory) → value_at world.spans number ≡ Some held
      → transaction_at world held.transaction ≡ Some state
      → SpanChange world (replace_at world.transactions held.transaction.number (with_span_finished held.span state))
      world.spans
  drops_transaction : (key : TransactionKey) (state : TransactionHistory) → transaction_at world key ≡ Some state
      → is_active_on (key_of.Transaction key) world.hubs ≡ false → has_span_of (span_table world) key ≡ false
      → SpanChange world (without world.transactions key.number) world.spans
  drops_span : (key : SpanKey) (held : SpanRecord) → span_at world key ≡ Some held
      → is_active_on (key_of.Span key) world.hubs ≡ false
      → SpanChange world world.transactions (without world.spans key.number)

-- one change, by which these effects come and these envelopes are handed out
pub data Change {P C : Type 0} (meanings : C → Meanings) (given : Option Envelope)
    : World P C → List (Effect P C) → List (ClientKey × Envelope) → World P C → Type 0 where
  -- a hub under the next number
  makes_hub : (world : World P C) (client : Option ClientKey) (scope : Scope P) → is_held_or_none world client ≡ true
      → is_held (span_table world) scope.span ≡ true
      → Change meanings given world (seen (hub_made world.next.hub (one_layer client scope)) ∷ []) []
      (with_new_hub (one_layer client scope) world)
  makes_hub_from : (world : World P C) (maker : ℕ) (hub : HubState P) → value_at world.hubs maker ≡ Some hub
      → Change meanings given world (seen (hub_made_from world.next.hub maker) ∷ []) []
      (with_new_hub (top_alone hub.stack) world)
  changes_hub : (world : World P C) (number : ℕ) (old new : HubState P) (change : LayerChange P)
      → value_at world.hubs number ≡ Some old
      → new.stack ≡ change_layers meanings (held_options world) change old.stack → IsAllowed world change
      → Change meanings given world (seen (hub_changed number change) ∷ []) []
      (record world { hubs = replace_at world.hubs number new })
  -- a change that leaves the hub as it was
  leaves_hub : (world : World P C) (number : ℕ) (hub : HubState P) (change : LayerChange P)
      → value_at world.hubs number ≡ Some hub
      → change_layers meanings (held_options world) change hub.stack ≡ hub.stack
      → Change meanings given world (seen (hub_changed number change) ∷ []) [] world
  -- the top layer of a hub names a session that was started, or none
  sets_session : (world : World P C) (number : ℕ) (hub : HubState P) (session : Option SessionKey)
      → value_at world.hubs number ≡ Some hub → IsGiven world.tag world.next.session session
      → Change meanings given world (session_named number session ∷ []) []
      (record world { hubs = replace_at world.hubs number (with_session hub session) })
  notes_event_id : (world : World P C) (number : ℕ) (old new : HubState P) → value_at world.hubs number ≡ Some old
      → new.stack ≡ old.stack
      → Change meanings given world [] [] (record world { hubs = replace_at world.hubs number new })
  releases_hub : (world : World P C) (number : ℕ) (hub : HubState P) → value_at world.hubs number ≡ Some hub
      → depth hub.stack ≡ 0
      → Change meanings given world (seen (hub_released number) ∷ []) [] (record world { hubs = without world.hubs number })
  -- a client under the next number
  adds_client : (world : World P C) (client : ClientHistory C) (now : ℕ) → client.queues ≡ queues_from now
      → client.closed ≡ false → (client.label.tag == world.tag) ≡ true
      → Change meanings given world (seen (client_added (next_client_key world) client.options) ∷ []) [] (record world {
        next = record world.next { client = world.next.client + 1 };
        clients = put world.clients world.next.client client;
        books = with_book world.books client.label.number;
      })
  clones_client : (world : World P C) (original : ClientKey) (client : ClientHistory C) (now : ℕ)
      → client_at world original ≡ Some client
      → Change meanings given world (seen (client_cloned (next_client_key world) original) ∷ []) [] (record world {
        next = record world.next { client = world.next.client + 1 };
        clients = put world.clients world.next.client (clone_from now client);
      })
  drops_client : (world : World P C) (key : ClientKey) (client : ClientHistory C) (label : Label)
      → client_at world key ≡ Some client → label ≡ client.label → is_client_named key world.hubs ≡ false
      → Change meanings given world (client_dropped key.number ∷ []) []
      (without_unused_book label (record world { clients = without world.clients key.number }))
  -- something comes to the queues of a client that isn't closed, which may send what waits
  arrives : (world : World P C) (key : ClientKey) (client : ClientHistory C) (arrival : Arrival) → given ≡ None
      → client_at world key ≡ Some client → client.closed ≡ false → IsArrival world arrival
      → Change meanings given world []
      (send key client (envelopes_on_arrival arrival client)
      (with_client_history world key (after_arrival arrival client))).sent
      (send key client (envelopes_on_arrival arrival client)
      (with_client_history world key (after_arrival arrival client))).after
  -- a log, a metric or the last flush comes to the queues of a client that isn't closed, which may send what waits; or
  -- none does
  accepts : (world : World P C) (key : ClientKey) (client : ClientHistory C) (arrival : Arrival) (kind : Came)
      → given ≡ None → client_at world key ≡ Some client → client.closed ≡ false → kind_of arrival ≡ Some kind
      → Change meanings given world (came_to_queues kind ∷ [])
      (send key client (envelopes_on_arrival arrival client)
      (with_client_history world key (after_arrival arrival client))).sent
      (send key client (envelopes_on_arrival arrival client)
      (with_client_history world key (after_arrival arrival client))).after
  accepts_none : (world : World P C) (kind : Came) → Change meanings given world (came_to_queues kind ∷ []) [] world
  -- an envelope leaves an occupied slot: the caller's own, or one without a batch
  mails : (world : World P C) (key : ClientKey) (client : ClientHistory C) (envelope : Envelope)
      → client_at world key ≡ Some client → client.occupied ≡ true
      → (given ≡ Some envelope) ⊎ ((given ≡ None) × (list_any is_batch_or_report envelope.items ≡ false))
      → (given ≡ None → AreOfHeld world envelope.items × AreOfTransactions world envelope.header envelope.items)
      → Change meanings given world [] ((key, with_report (pending_report world client.label) envelope) ∷ [])
      (with_entry world client.label report_point)
  loses : (world : World P C) (key : ClientKey) (client : ClientHistory C) (losses : List ℕ)
      → client_at world key ≡ Some client
      → Change meanings given world [] [] (with_entry world client.label (engine_losses losses))
  takes_report : (world : World P C) (label : Label) → has_book world label ≡ true
      → Change meanings given world (report_taken label (pending_report world label) ∷ []) []
      (with_entry world label report_point)
  absorbs : (world : World P C) (label : Label) (losses : List ℕ) → has_book world label ≡ true
      → Change meanings given world (losses_absorbed label losses ∷ []) []
      (with_entry world label (drained_losses losses))
  -- no session starts on the top layer of this hub
  starts_none : (world : World P C) (number : ℕ) (id : List ℕ)
      → Change meanings given world (session_begun number id ∷ []) [] world
  -- a session under the next number starts on the top layer of this hub, which doesn't name it yet
  starts_session : (world : World P C) (number : ℕ) (start : SessionStart)
      → Change meanings given world (session_begun number start.session_id ∷ []) []
      (record (with_new_session start world) { next = record world.next { session = world.next.session + 1 } })
  changes_session : (world : World P C) (number : ℕ) (old new : SessionHistory) (later : List SessionEntry)
      → value_at world.sessions number ≡ Some old
      → new ≡ record old { history = later ++ old.history }
      → Change meanings given world [] [] (record world { sessions = replace_at world.sessions number new })
  ends_session : (world : World P C) (number : ℕ)
      → Change meanings given world [] [] (record world { sessions = without world.sessions number })
  -- a transaction under the next number, and a span under the next number at a place that is held
  starts_transaction : (world : World P C) (state : TransactionHistory) → state.finished ≡ []
      → Change meanings given world [] [] (with_new_transaction state world)
  starts_span : (world : World P C) (parent : TransactionOrSpanKey) (place : SpanPlace) (held : SpanRecord)
      → place_in (span_table world) parent ≡ Some place
      → held.transaction ≡ place.transaction → held.span.trace_id ≡ place.trace_id
      → Change meanings given world [] [] (with_new_span held world)
  changes_spans : (world : World P C) (transactions : List (ℕ × TransactionHistory)) (spans : List (ℕ × SpanRecord))
      → SpanChange world transactions spans
      → Change meanings given world [] [] (record world { transactions = transactions; spans = spans })

-- changes one after another
pub data Changes {P C : Type 0} (meanings : C → Meanings) (given : Option Envelope)
    : World P C → List (Effect P C) → List (ClientKey × Envelope) → World P C → Type 0 where
  nothing : (world : World P C) → Changes meanings given world [] [] world
  one : {old new : World P C} {effects : List (Effect P C)} {sent : List (ClientKey × Envelope)}
      → Change meanings given old effects sent new → Changes meanings given old effects sent new
  both : {old middle new : World P C} {first second : List (Effect P C)} {sent more : List (ClientKey × Envelope)}
      → Changes meanings given old first sent middle → Changes meanings given middle second more new
      → Changes meanings given old (first ++ second) (sent ++ more) new
