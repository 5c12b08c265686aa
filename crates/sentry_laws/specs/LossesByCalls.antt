-- What comes to the books of losses, by the calls.
use Rattle.std.specs.Prelude.{◌≡◌, ◌<◌, ◌+◌, ◌%◌, ◌^◌, ℕ, true, false, Option, Some, None, List, [], ◌∷◌, ◌++◌, Result, Ok, Err, slice_index, if◌then◌else◌}
use Rattle.std.specs.Option.{is_some, option_map, option_and_then, option_to_list}
use Rattle.sentry_base.specs.Callbacks.{Partial}
use Rattle.sentry_base.specs.declared.protocol.event.Event.{Event}
use Rattle.sentry_base.specs.declared.protocol.fresh.Fresh.{Fresh}
use Rattle.sentry_base.specs.declared.protocol.keys.Label.{Label}
use Rattle.sentry_base.specs.declared.protocol.losses.Category.{Category}
use Rattle.sentry_base.specs.declared.protocol.losses.Category.TheVariants as category
use Rattle.sentry_base.specs.declared.protocol.losses.TheConstants.{LOSS_QUANTITIES}
use Rattle.sentry_base.specs.declared.protocol.refusal.Refusal.{Refusal}
use Rattle.sentry_base.specs.declared.protocol.span.Span.{Span}
use Rattle.sentry_options.specs.Meanings.{Meanings}
use Rattle.sentry_scope.specs.declared.scope.Scope.{Scope}
use Rattle.sentry_client_reports.specs.LossBooks.{LossEntry, engine_losses, drained_losses, report_point, pending_losses}
use Rattle.sentry_pipeline.specs.Pipeline.{prepare_event, loss_reason}
use Rattle.sentry_hub_table.specs.declared.hub.HubState.{HubState}
use Rattle.sentry_span_table.specs.SpanLists.{fate_of}
use Rattle.sentry_span_table.specs.declared.table.records.SpanFate.{SpanFate}
use Rattle.sentry_span_table.specs.declared.table.records.SpanFate.TheVariants.{Lost}
use Rattle.sentry_span_table.specs.declared.table.records.SpanRecord.{SpanRecord}
use Rattle.sentry_span_table.specs.declared.table.records.TracingState.{TracingState}
use Rattle.sentry_span_table.specs.declared.table.records.TracingState.TheVariants.{Enabled}
use Rattle.sentry_span_table.specs.declared.table.records.TransactionRecord.{TransactionRecord}
use Rattle.sentry_span_table.specs.declared.table.records.Unfinished.{Unfinished}
use Rattle.sentry_events.specs.Captures.{event_loss, message_event}
use Rattle.sentry_spans.specs.Spans.{span_loss, transaction_loss}
use Rattle.sentry_telemetry.specs.Telemetry.{item_loss, client_log, client_metric}
use Rattle.sentry_texts.specs.ErrorEvents.{error_event}
use Rattle.sentry_state.specs.Books.{is_label, has_client_of}
use Rattle.sentry_state.specs.Outcomes.{client_at, hub_at, span_at, transaction_at, stored_transaction_at}
use Rattle.sentry_state.specs.Worlds.{World, ClientHistory, stored_client, span_table}
use Rattle.sentry_state.specs.declared.state.Out.{Out}
use Rattle.sentry_calls.specs.Runs.{Run}
use Rattle.sentry_calls.specs.declared.call.Call.{Call}
use Rattle.sentry_calls.specs.declared.call.Call.TheVariants as group
use Rattle.sentry_calls.specs.declared.call.clients.ClientCall.TheVariants.{PrepareEvent, ClientCaptureEvent, ClientCaptureLog, ClientCaptureMetric, Absorb}
use Rattle.sentry_calls.specs.declared.call.hubs.HubCall.TheVariants.{CaptureEvent, CaptureMessage, CaptureError, CaptureLog, CaptureMetric}
use Rattle.sentry_calls.specs.declared.call.spans.records.SpanCall.TheVariants.{FinishSpan, FinishTransaction}
use Rattle.sentry_calls.specs.declared.call.Reply.{Reply}
use Rattle.sentry_laws.specs.PartsOfRuns.{FromEachCall}
use Rattle.sentry_laws.specs.Losses.{came_in}
use Rattle.sentry_laws.specs.Reports.{history_of, told_since}

-- what came to a book, but for reports
abbrev pub losses_in : List LossEntry → List LossEntry
losses_in [] = []
losses_in (report_point ∷ history) = losses_in history
losses_in (engine_losses losses ∷ history) = engine_losses losses ∷ losses_in history
losses_in (drained_losses losses ∷ history) = drained_losses losses ∷ losses_in history

-- ---- what a client loses

-- a log or a metric that its callback drops
abbrev pub lost_item : {T : Type 0} → Category → Option T → Option LossEntry
lost_item category None = Some (item_loss category)
lost_item category (Some item) = None

module _ {C : Type 0} where
  -- what the client that is found loses, if one is found, and has the label
  abbrev pub lost_at : Label → Option (ClientHistory C) → (ClientHistory C → Option LossEntry) → List LossEntry
  lost_at label None lost = []
  lost_at label (Some client) lost = if is_label label client.label then option_to_list (lost client) else []

module _ {P C : Type 0} where
  -- the same of the client of a hub's top layer
  abbrev pub lost_on : Label → World P C → Option (HubState P) → (Scope P → ClientHistory C → Option LossEntry)
      → List LossEntry
  lost_on label world None lost = []
  lost_on label world (Some hub) lost =
      lost_at label (option_and_then (client_at world) hub.stack.top.client) (lost hub.stack.top.scope)

  -- a span that has no room in its transaction is lost
  abbrev pub lost_by_fate : Label → World P C → Option SpanFate → List LossEntry
  lost_by_fate label world (Some (Lost client)) = lost_at label (client_at world client) (λ held. Some span_loss)
  lost_by_fate label world fate = []

  -- the same of a span that finishes for the first time
  abbrev pub lost_with_span : Label → World P C → Option SpanRecord → List LossEntry
  lost_with_span label world None = []
  lost_with_span label world (Some held) =
      if is_some held.span.timestamp then []
      else lost_by_fate label world (option_map fate_of (transaction_at world held.transaction))

  -- an unfinished transaction that is traced, but wasn't sampled, is lost, with the spans that it kept
  abbrev pub lost_unsampled : Label → World P C → TracingState → Option Unfinished → List Span → List LossEntry
  lost_unsampled label world (Enabled false rate) (Some unfinished) spans =
      lost_at label (client_at world unfinished.client)
      (λ client. Some (transaction_loss (record unfinished.transaction { spans = spans })))
  lost_unsampled label world tracing unfinished spans = []

  -- the same of a transaction that is found
  abbrev pub lost_with_transaction : Label → World P C → Option TransactionRecord → List LossEntry
  lost_with_transaction label world None = []
  lost_with_transaction label world (Some held) =
      lost_unsampled label world held.tracing held.unfinished held.spans

module _ {P C : Type 0} (gives : P → Partial) (meanings : C → Meanings) where
  -- an event, under a scope, that a callback drops, or that is sampled out
  abbrev pub lost_prepared : World P C → Option (Scope P) → Fresh → Event → ClientHistory C → Option LossEntry
  lost_prepared world scope fresh event client =
      option_map event_loss
      (loss_reason
      (prepare_event gives meanings (span_table world) client.options client.sdk scope fresh event).preparation)

  -- the same where it is captured: on an empty slot nothing is lost
  abbrev pub lost_captured : World P C → Option (Scope P) → Fresh → Event → ClientHistory C → Option LossEntry
  lost_captured world scope fresh event client =
      if client.occupied then lost_prepared world scope fresh event client else None

  -- ---- what a call brings

  -- what comes to the book of a label by a call that is accepted: what a client of the label loses, or is absorbed
  abbrev pub losses_by : Label → World P C → Call P C → List LossEntry
  losses_by label world (group.Client (PrepareEvent key event scope fresh)) =
      lost_at label (client_at world key) (lost_prepared world scope fresh event)
  losses_by label world (group.Client (ClientCaptureEvent key event scope fresh)) =
      lost_at label (client_at world key) (lost_captured world scope fresh event)
  losses_by label world (group.Client (ClientCaptureLog key log scope)) =
      lost_at label (client_at world key)
      (λ client. lost_item category.LogItem (client_log meanings (span_table world) (stored_client client) scope log))
  losses_by label world (group.Client (ClientCaptureMetric key draft scope now)) =
      lost_at label (client_at world key)
      (λ client.
      lost_item category.Metric (client_metric meanings (span_table world) (stored_client client) scope now draft))
  losses_by label world (group.Client (Absorb other lost)) =
      if is_label label other then drained_losses lost.quantities ∷ [] else []
  losses_by label world (group.Hub (CaptureEvent key event fresh)) =
      lost_on label world (hub_at world key) (λ scope. lost_captured world (Some scope) fresh event)
  losses_by label world (group.Hub (CaptureMessage key message level fresh)) =
      lost_on label world (hub_at world key)
      (λ scope. lost_captured world (Some scope) fresh (message_event message level fresh.uuid fresh.now))
  losses_by label world (group.Hub (CaptureError key links fresh)) =
      lost_on label world (hub_at world key)
      (λ scope. lost_captured world (Some scope) fresh (error_event links fresh.uuid fresh.now))
  losses_by label world (group.Hub (CaptureLog key log)) =
      lost_on label world (hub_at world key)
      (λ scope client.
      lost_item category.LogItem (client_log meanings (span_table world) (stored_client client) scope log))
  losses_by label world (group.Hub (CaptureMetric key draft now)) =
      lost_on label world (hub_at world key)
      (λ scope client.
      lost_item category.Metric (client_metric meanings (span_table world) (stored_client client) scope now draft))
  losses_by label world (group.Span (FinishSpan key moment)) = lost_with_span label world (span_at world key)
  losses_by label world (group.Span (FinishTransaction key hub moment)) =
      lost_with_transaction label world (stored_transaction_at world key)
  losses_by label world call = []

  -- a call that is refused brings nothing
  abbrev pub losses_by_answer : Label → World P C → Call P C → Result (Out (Reply P C)) Refusal → List LossEntry
  losses_by_answer label world call (Ok out) = losses_by label world call
  losses_by_answer label world call (Err refusal) = []

  -- after the first call of a run, the book of each label that a client has holds what it held, and what the call
  -- brings
  abbrev pub RecordsLosses : (world : World P C) (calls : List (Call P C))
      (answers : List (Result (Out (Reply P C)) Refusal)) (last : World P C)
      → Run gives meanings world calls answers last → Type 0
  RecordsLosses world (call ∷ calls) (answer ∷ answers) last run =
      (label : Label) → has_client_of label run.0.clients ≡ true
      → losses_in (history_of run.0 label) ≡ losses_by_answer label world call answer
      ++ losses_in (history_of world label)
  RecordsLosses world [] answers last run = Unit {0}
  RecordsLosses world (call ∷ calls) [] last run = Unit {0}

  -- it is so after each call
  abbrev pub RecordsLossesByCalls : (world : World P C) (calls : List (Call P C))
      (answers : List (Result (Out (Reply P C)) Refusal)) (last : World P C)
      → Run gives meanings world calls answers last → Type 0
  RecordsLossesByCalls world calls answers last run =
      FromEachCall gives meanings RecordsLosses world calls answers last run

module _ {P C : Type 0} (gives : P → Partial) (meanings : C → Meanings) (label : Label) (i : ℕ) where
  -- what the calls of a run brought under a label at an index, since when a client has had it without a break
  abbrev pub brought_since : ℕ → (world : World P C) (calls : List (Call P C))
      (answers : List (Result (Out (Reply P C)) Refusal)) (last : World P C)
      → Run gives meanings world calls answers last → ℕ
  brought_since brought world [] answers last run = brought
  brought_since brought world (call ∷ calls) [] last run = brought
  brought_since brought world (call ∷ calls) (answer ∷ answers) last run =
      brought_since (if has_client_of label run.0.clients
      then brought + came_in (losses_by_answer gives meanings label world call answer) i else 0)
      run.0 calls answers last run.2

module _ {P C : Type 0} (gives : P → Partial) (meanings : C → Meanings) where
  -- for each label that a client has after a run, what its reports told and what is pending is what the calls brought
  abbrev pub CallsAddUp : (world : World P C) (calls : List (Call P C))
      (answers : List (Result (Out (Reply P C)) Refusal)) (last : World P C)
      → Run gives meanings world calls answers last → Type 0
  CallsAddUp world calls answers last run =
      (label : Label) (i : ℕ) → has_client_of label last.clients ≡ true → i < LOSS_QUANTITIES
      → (told_since gives meanings label i 0 world calls answers last run
      + slice_index (pending_losses (history_of last label)) i) % 2 ^ 64
      ≡ brought_since gives meanings label i 0 world calls answers last run % 2 ^ 64
