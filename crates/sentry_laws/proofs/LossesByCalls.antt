-- What comes to books is what the calls bring.
use Rattle.std.proofs.Common.{◌≡◌, refl, ap, ◌∙◌, sym, subst, ℕ, ◌-◌, ◌^◌, List, [], ◌∷◌, ◌++◌, Bool, true, false, length}
use Rattle.std.proofs.lemmas.Bool.{and_parts}
use Rattle.std.specs.Prelude.{Option, Some, None, Result, Ok, Err, is_ok, ◌==◌, ◌&&◌, not, nat_lt, unwrap_or, if◌then◌else◌}
use Rattle.std.specs.List.{list_any}
use Rattle.std.specs.Option.{is_some, option_map, option_and_then, option_to_list}
use Rattle.sentry_plain.specs.Tables.{value_at, replace_at, without}
use Rattle.sentry_plain.specs.Texts.{Bytes}
use Rattle.sentry_base.specs.Callbacks.{Partial}
use Rattle.sentry_base.specs.Events.{nil_id}
use Rattle.sentry_base.specs.RecordLosses.{transaction_losses}
use Rattle.sentry_base.specs.Losses.{loss_of}
use Rattle.sentry_base.specs.declared.protocol.breadcrumb.Breadcrumb.{Breadcrumb}
use Rattle.sentry_base.specs.declared.protocol.envelope.Envelope.{Envelope}
use Rattle.sentry_base.specs.declared.protocol.error_link.ErrorLink.{ErrorLink}
use Rattle.sentry_base.specs.declared.protocol.event.Event.{Event}
use Rattle.sentry_base.specs.declared.protocol.fresh.Fresh.{Fresh}
use Rattle.sentry_base.specs.declared.protocol.ids.SpanId.{SpanId}
use Rattle.sentry_base.specs.declared.protocol.keys.ClientKey.{ClientKey}
use Rattle.sentry_base.specs.declared.protocol.keys.HubKey.{HubKey}
use Rattle.sentry_base.specs.declared.protocol.keys.Label.{Label}
use Rattle.sentry_base.specs.declared.protocol.keys.SessionKey.{SessionKey}
use Rattle.sentry_base.specs.declared.protocol.keys.SpanKey.{SpanKey}
use Rattle.sentry_base.specs.declared.protocol.keys.TransactionKey.{TransactionKey}
use Rattle.sentry_base.specs.declared.protocol.keys.TransactionOrSpanKey.{TransactionOrSpanKey}
use Rattle.sentry_base.specs.declared.protocol.keys.TransactionOrSpanKey.TheVariants as key_of
use Rattle.sentry_base.specs.declared.protocol.level.Level.{Level}
use Rattle.sentry_base.specs.declared.protocol.log.Log.{Log}
use Rattle.sentry_base.specs.declared.protocol.losses.Category.TheVariants as category
use Rattle.sentry_base.specs.declared.protocol.losses.Reason.{Reason}
use Rattle.sentry_base.specs.declared.protocol.losses.Reason.TheVariants as reason
use Rattle.sentry_base.specs.declared.protocol.metric.Metric.{Metric}
use Rattle.sentry_base.specs.declared.protocol.metric.MetricDraft.{MetricDraft}
use Rattle.sentry_base.specs.declared.protocol.refusal.Refusal.{Refusal}
use Rattle.sentry_base.specs.declared.protocol.refusal.Refusal.TheVariants.{Stale, StillNamed, ForeignLosses, Full, OutOfOrder, ScopesOpen}
use Rattle.sentry_base.specs.declared.protocol.session.SessionStatus.{SessionStatus}
use Rattle.sentry_base.specs.declared.protocol.span.Span.{Span}
use Rattle.sentry_options.specs.Meanings.{Meanings}
use Rattle.sentry_options.specs.declared.clientoptions.ClientOptions.{ClientOptions}
use Rattle.sentry_scope.specs.declared.scope.Scope.{Scope}
use Rattle.sentry_scope.specs.declared.scope.edit.ScopeEdit.{ScopeEdit}
use Rattle.sentry_scope.specs.EditLists.{all_name_held_spans, renames_after}
use Rattle.sentry_scope.specs.Stacks.{depth}
use Rattle.sentry_sessions.specs.Sessions.{start_of}
use Rattle.sentry_client_reports.specs.LossBooks.{LossEntry, engine_losses, drained_losses, report_point}
use Rattle.sentry_pipeline.specs.Pipeline.{Prepared, loss_reason}
use Rattle.sentry_pipeline.specs.Pipeline as pipeline
use Rattle.sentry_hub_table.specs.declared.hub.HubState.{HubState}
use Rattle.sentry_span_table.specs.SpanLists.{TransactionHistory, fate_of, with_span_finished}
use Rattle.sentry_span_table.specs.SpanTables.{has_transaction_of, has_span_of, is_held, place_in}
use Rattle.sentry_span_table.specs.declared.table.records.SpanFate.{SpanFate}
use Rattle.sentry_span_table.specs.declared.table.records.SpanFate.TheVariants.{Kept, Lost, Gone}
use Rattle.sentry_span_table.specs.declared.table.records.SpanRecord.{SpanRecord}
use Rattle.sentry_span_table.specs.declared.table.records.TracingState.{TracingState}
use Rattle.sentry_span_table.specs.declared.table.records.TracingState.TheVariants.{Enabled, Disabled}
use Rattle.sentry_span_table.specs.declared.table.records.TransactionRecord.{TransactionRecord}
use Rattle.sentry_trace.specs.declared.performance.context.TransactionContext.{TransactionContext}
use Rattle.sentry_spans.specs.Discards.{discard, is_active_on}
use Rattle.sentry_span_edits.specs.Reads.{read, get_status, read_data, is_sampled, get_span_id, get_trace_context, iter_headers}
use Rattle.sentry_span_edits.specs.Setters.{change, with_edited, with_found_edited}
use Rattle.sentry_span_edits.specs.declared.edit.SpanEdit.{SpanEdit}
use Rattle.sentry_span_edits.specs.declared.edit.SpanEdit.TheVariants as edit_by
use Rattle.sentry_spans.specs.Spans.{start_transaction_with_timestamp, start_child_with_details, continue_from_span, finish_span, finish_transaction, is_transaction_number_left, is_span_number_left, by_tracing, with_loss_of, with_fate, with_span_in}
use Rattle.sentry_state.specs.declared.state.ClientState.{ClientState}
use Rattle.sentry_state.specs.declared.state.Out.{Out}
use Rattle.sentry_state.specs.Books.{with_entry, with_entry_if_any, is_label, has_client_of, has_book}
use Rattle.sentry_state.specs.Breadcrumbs.{add_breadcrumbs}
use Rattle.sentry_state.specs.Changes.{with_new_session, is_session_number_left}
use Rattle.sentry_state.specs.Clients.{is_client_named, has_session_of}
use Rattle.sentry_state.specs.Outcomes.{Outcome, require_some, let_some, require, reply_with, client_at, hub_at, stored_client_at, stored_transaction_at, span_at, transaction_at, is_held_or_none}
use Rattle.sentry_state.specs.SpanChanges.{with_transaction_finished, with_span, with_transaction, finished_span}
use Rattle.sentry_state.specs.Worlds.{World, ClientHistory, stored_client, span_table, starting_world}
use Rattle.sentry_sending.specs.Sending.{after_sending, release_session}
use Rattle.sentry_events.specs.Captures.{SessionCapture, capture, capture_of_prepared, capture_entry, capture_event, capture_named_session, event_loss, with_captured_session, message_event}
use Rattle.sentry_telemetry.specs.declared.flushes.Flush.{Flush}
use Rattle.sentry_telemetry.specs.declared.flushes.Flush.TheVariants.{All, Due, Closing}
use Rattle.sentry_telemetry.specs.Flushes.{flush_queues}
use Rattle.sentry_telemetry.specs.Telemetry.{client_log, client_metric, item_loss, keep_log, keep_metric}
use Rattle.sentry_texts.specs.ErrorEvents.{error_event}
use Rattle.sentry_calls.specs.Clients as clients
use Rattle.sentry_calls.specs.Clients.{holds_active_span}
use Rattle.sentry_calls.specs.Hubs as hubs
use Rattle.sentry_calls.specs.Hubs.{is_clear, with_renames}
use Rattle.sentry_calls.specs.Layers as layers
use Rattle.sentry_calls.specs.Losses as losses
use Rattle.sentry_calls.specs.Sessions as sessions
use Rattle.sentry_calls.specs.Telemetry as telemetry
use Rattle.sentry_calls.specs.Replies.{map_answer, map_reply}
use Rattle.sentry_calls.specs.Runs.{StepsTo, Run}
use Rattle.sentry_calls.specs.SpanCalls.{span_step}
use Rattle.sentry_calls.specs.Steps.{step, client_step, hub_step}
use Rattle.sentry_calls.specs.declared.call.Call.{Call}
use Rattle.sentry_calls.specs.declared.call.Call.TheVariants as group
use Rattle.sentry_calls.specs.declared.call.Reply.{Reply}
use Rattle.sentry_calls.specs.declared.call.Reply.TheVariants as reply
use Rattle.sentry_calls.specs.declared.call.clients.ClientCall.{ClientCall}
use Rattle.sentry_calls.specs.declared.call.clients.ClientCall.TheVariants as on_client
use Rattle.sentry_calls.specs.declared.call.hubs.HubCall.{HubCall}
use Rattle.sentry_calls.specs.declared.call.hubs.HubCall.TheVariants as on_hub
use Rattle.sentry_calls.specs.declared.call.spans.records.SpanCall.{SpanCall}
use Rattle.sentry_calls.specs.declared.call.spans.records.SpanCall.TheVariants as on_span
use Rattle.sentry_calls.specs.declared.call.spans.records.SpanReply.TheVariants as span_reply
use Rattle.sentry_laws.specs.LossesByCalls.{losses_in, lost_item, lost_at, lost_on, lost_by_fate, lost_with_span, lost_unsampled, lost_with_transaction, lost_prepared, lost_captured, losses_by, losses_by_answer, RecordsLosses, RecordsLossesByCalls}
use Rattle.sentry_laws.specs.Reports.{history_of}
use Rattle.sentry_laws.proofs.Changes.{Change, arrives, accepts}
use Rattle.sentry_laws.proofs.Effects.{Effect}
use Rattle.sentry_laws.proofs.Keeping.{kept_by_call, kept_by_changes}
use Rattle.sentry_laws.proofs.LabelBooks.{HasBooks, books_change, no_books, label_known, kept_books}
use Rattle.sentry_laws.proofs.LossEntries.{losses_at, none_if, entered, pointed, booked, left, same_labels}
use Rattle.sentry_laws.proofs.Parts.{after_part, flush_part, log_part, metric_part, end_part, release_part}
use Rattle.sentry_laws.proofs.PartsOfRuns.{from_each_call}
use Rattle.sentry_laws.proofs.SendingTrails.{flushes}
use Rattle.sentry_laws.proofs.SpanTrails.{closed_books, closed_client}
use Rattle.sentry_laws.proofs.Trails.{found_under}

-- ---- what a call leaves

module _ {P C : Type 0} (R : World P C → Type 0) where
  -- where the call is accepted, the world after it is so
  record Leaves {T : Type 0} (outcome : Outcome P C T) : Type 0 where
    leaves : is_ok outcome.answer ≡ true → R outcome.after

module _ {P C T : Type 0} {R : World P C → Type 0} where
  leaves_some : {X : Type 0} (refusal : Refusal) (world : World P C) (o : Option X) {go : X → Outcome P C T}
      → ((x : X) → o ≡ Some x → Leaves R (go x)) → Leaves R (require_some refusal world o go)
  leaves_some refusal world None h = record { leaves = λ e. absurd cc }
  leaves_some refusal world (Some x) h = h x refl

  leaves_client : (refusal : Refusal) (world : World P C) (o : Option (ClientHistory C)) (go : ClientState C → Outcome P C T)
      → ((client : ClientHistory C) → o ≡ Some client → Leaves R (go (stored_client client)))
      → Leaves R (require_some refusal world (option_map stored_client o) go)
  leaves_client refusal world None go h = record { leaves = λ e. absurd cc }
  leaves_client refusal world (Some client) go h = h client refl

  leaves_require : (refusal : Refusal) (world : World P C) (b : Bool) {go : Outcome P C T}
      → (b ≡ true → Leaves R go) → Leaves R (require refusal world b go)
  leaves_require refusal world true h = h refl
  leaves_require refusal world false h = record { leaves = λ e. absurd cc }

  leaves_let : {X : Type 0} (o : Option X) {otherwise : Outcome P C T} {go : X → Outcome P C T}
      → (o ≡ None → Leaves R otherwise) → ((x : X) → o ≡ Some x → Leaves R (go x)) → Leaves R (let_some o otherwise go)
  leaves_let None k h = k refl
  leaves_let (Some x) k h = h x refl

  leaves_let_client : (o : Option (ClientHistory C)) (otherwise : Outcome P C T) (go : ClientState C → Outcome P C T)
      → (o ≡ None → Leaves R otherwise)
      → ((client : ClientHistory C) → o ≡ Some client → Leaves R (go (stored_client client)))
      → Leaves R (let_some (option_map stored_client o) otherwise go)
  leaves_let_client None otherwise go k h = k refl
  leaves_let_client (Some client) otherwise go k h = h client refl

  leaves_if : (b : Bool) {yes no : Outcome P C T} → Leaves R yes → Leaves R no → Leaves R (if b then yes else no)
  leaves_if true h k = h
  leaves_if false h k = k

  leaves_by_tracing : (tracing : TracingState) {untraced unsampled : Outcome P C T} {sampled : ℕ → Outcome P C T}
      → ((decision : Option Bool) → tracing ≡ Disabled decision → Leaves R untraced)
      → ((rate : ℕ) → tracing ≡ Enabled false rate → Leaves R unsampled)
      → ((rate : ℕ) → tracing ≡ Enabled true rate → Leaves R (sampled rate))
      → Leaves R (by_tracing tracing untraced unsampled sampled)
  leaves_by_tracing (Disabled decision) h k l = h decision refl
  leaves_by_tracing (Enabled false rate) h k l = k rate refl
  leaves_by_tracing (Enabled true rate) h k l = l rate refl

accepted-by : {T U : Type 0} (f : T → U) (answer : Result (Out T) Refusal) → is_ok (map_answer f answer) ≡ true
    → is_ok answer ≡ true
accepted-by f (Ok out) e = refl
accepted-by f (Err refusal) e = e

leaves_mapped : {P C T U : Type 0} {R : World P C → Type 0} (f : T → U) (outcome : Outcome P C T) → Leaves R outcome
    → Leaves R (map_reply f outcome)
leaves_mapped f outcome h = record { leaves = λ e. h.leaves (accepted-by f outcome.answer e) }

-- ---- the books stay

module _ {P C : Type 0} where
  session_books : (world : World P C) (name : Option SessionKey) (captured : Option SessionCapture)
      → (with_captured_session world name captured).books ≡ world.books
  session_books world None captured = refl
  session_books world (Some key) None = refl
  session_books world (Some key) (Some captured) = refl

  edited_books : (by : SpanEdit) (number : ℕ) (o : Option TransactionHistory) (world : World P C)
      → (with_found_edited by number o world).books ≡ world.books
  edited_books by number None world = refl
  edited_books by number (Some state) world = refl

  named_books : (renames : List (TransactionKey × Bytes)) (world : World P C)
      → (with_renames renames world).books ≡ world.books
  named_books [] world = refl
  named_books (rename ∷ rest) world =
      named_books rest (with_edited (edit_by.Name rename.1) rename.0 world)
      ∙ edited_books (edit_by.Name rename.1) rename.0.number (transaction_at world rename.0) world

-- ---- what each call brings

module _ {P C : Type 0} (gives : P → Partial) (meanings : C → Meanings) (world : World P C) (books : HasBooks world)
    (label : Label) (own : (label.tag == world.tag) ≡ true) where
  -- what the book of the label holds in a world, reports aside
  abbrev held_in : World P C → List LossEntry
  held_in w = losses_at w.books label.number

  -- what the book of the label holds afterwards, if it is there, is what it held, and this
  abbrev Brings : List LossEntry → World P C → Type 0
  Brings brought after =
      is_some (value_at after.books label.number) ≡ true → held_in after ≡ brought ++ held_in world

  brings_same : {T : Type 0} {outcome : Outcome P C T} {some other : List LossEntry} → some ≡ other
      → Leaves (Brings other) outcome → Leaves (Brings some) outcome
  brings_same e h =
      record { leaves = λ accepted there. h.leaves accepted there ∙ ap (λ l. l ++ held_in world) (sym e) }

  stays : {T : Type 0} (reply : T) {sent : List (ClientKey × Envelope)} {after : World P C}
      → held_in after ≡ held_in world → Leaves (Brings []) (reply_with reply sent after)
  stays reply e = record { leaves = λ accepted there. e }

  brings_if : {T : Type 0} (b : Bool) (some other : List LossEntry) {yes no : Outcome P C T} → Leaves (Brings some) yes
      → Leaves (Brings other) no → Leaves (Brings (if b then some else other)) (if b then yes else no)
  brings_if true some other h k = h
  brings_if false some other h k = k

  -- ---- entries

  no_report : (w : World P C) (other : Label) → held_in (with_entry w other report_point) ≡ held_in w
  no_report w other = pointed w.books other.number label.number (value_at w.books other.number) refl

  sent_same : (other : Label) (sent : List (ClientKey × Envelope)) (w : World P C)
      → held_in (after_sending other sent w) ≡ held_in w
  sent_same = after_part held_in no_report (λ w c. refl)

  enters : (other : Label) (entry : LossEntry) → has_book world other ≡ true
      → held_in (with_entry world other entry)
      ≡ (if is_label label other then losses_in (entry ∷ []) else []) ++ held_in world
  enters other entry has =
      entered world.books other.number label.number entry (value_at world.books other.number) refl
      (and_parts (other.tag == world.tag) _ has).1
      ∙ ap (λ b. (if b then losses_in (entry ∷ []) else []) ++ held_in world)
      (sym (same_labels label other world.tag own (and_parts (other.tag == world.tag) _ has).0))

  enters_of : (key : ClientKey) (client : ClientHistory C) (entry : LossEntry) → client_at world key ≡ Some client
      → held_in (with_entry world client.label entry)
      ≡ (if is_label label client.label then losses_in (entry ∷ []) else []) ++ held_in world
  enters_of key client entry found =
      enters client.label entry (label_known world key.number client books
      (found_under world.tag world.clients key.tag key.number client found))

  -- what a client that is held loses comes to its label
  lost_here : (key : ClientKey) (client : ClientHistory C) (lost : ClientHistory C → Option LossEntry)
      → client_at world key ≡ Some client → {held : List LossEntry}
      → held ≡ (if is_label label client.label then option_to_list (lost client) else []) ++ held_in world
      → held ≡ lost_at label (client_at world key) lost ++ held_in world
  lost_here key client lost found e =
      e ∙ sym (ap (λ (o : Option (ClientHistory C)). lost_at label o lost ++ held_in world) found)

  -- ---- events

  by_reason : (key : ClientKey) (client : ClientHistory C) (r : Option Reason) → client_at world key ≡ Some client
      → held_in (with_entry world client.label (capture_entry r))
      ≡ (if is_label label client.label then option_to_list (option_map event_loss r) else []) ++ held_in world
  by_reason key client None found = enters_of key client report_point found
  by_reason key client (Some reason) found = enters_of key client (event_loss reason) found

  captured : (key : ClientKey) (client : ClientHistory C) (prepared : Prepared) (b : Bool)
      → client_at world key ≡ Some client
      → held_in (with_entry_if_any world client.label
      (if b then capture_of_prepared prepared else record { reached = None; event = None; entry = None }).entry)
      ≡ (if is_label label client.label
      then option_to_list (if b then option_map event_loss (loss_reason prepared.preparation) else None) else [])
      ++ held_in world
  captured key client prepared true found = by_reason key client (loss_reason prepared.preparation) found
  captured key client prepared false found = sym (none_if (is_label label client.label) (held_in world))

  prepared_by : (key : ClientKey) (client : ClientHistory C) (r : Option Reason) → client_at world key ≡ Some client
      → held_in (with_entry_if_any world client.label (option_map event_loss r))
      ≡ (if is_label label client.label then option_to_list (option_map event_loss r) else []) ++ held_in world
  prepared_by key client None found = sym (none_if (is_label label client.label) (held_in world))
  prepared_by key client (Some reason) found = enters_of key client (event_loss reason) found

  prepares : (key : ClientKey) (event : Event) (scope : Option (Scope P)) (fresh : Fresh)
      → Leaves (Brings (lost_at label (client_at world key) (lost_prepared gives meanings world scope fresh event)))
      (clients.prepare_event gives meanings key event scope fresh world)
  unfolding clients.prepare_event
  prepares key event scope fresh =
      leaves_client Stale world (client_at world key) _ (λ client found.
      leaves_require Stale world (holds_active_span world scope) (λ active. record {
        leaves = λ accepted there. lost_here key client (lost_prepared gives meanings world scope fresh event) found
            (prepared_by key client (loss_reason (pipeline.prepare_event gives meanings (span_table world) client.options
            client.sdk scope fresh event).preparation) found);
      }))

  client_captures : (key : ClientKey) (event : Event) (scope : Option (Scope P)) (fresh : Fresh)
      → Leaves (Brings (lost_at label (client_at world key) (lost_captured gives meanings world scope fresh event)))
      (clients.client_capture_event gives meanings key event scope fresh world)
  unfolding clients.client_capture_event capture
  client_captures key event scope fresh =
      leaves_client Stale world (client_at world key) _ (λ client found.
      leaves_require Stale world (holds_active_span world scope) (λ active. record {
        leaves = λ accepted there. lost_here key client (lost_captured gives meanings world scope fresh event) found
            (captured key client (pipeline.prepare_event gives meanings (span_table world) client.options
            client.sdk scope fresh event) client.occupied found);
      }))

  -- a capture on a hub, under the client of its top layer
  on_top : {T : Type 0} (key : HubKey) (lost : Scope P → ClientHistory C → Option LossEntry) (reply : T)
      (go : HubState P → ClientKey → ClientState C → Outcome P C T)
      → ((hub : HubState P) (client_key : ClientKey) (client : ClientHistory C) → client_at world client_key ≡ Some client
      → Leaves (Brings (lost_at label (client_at world client_key) (lost hub.stack.top.scope)))
      (go hub client_key (stored_client client)))
      → Leaves (Brings (lost_on label world (hub_at world key) lost))
      (require_some Stale world (hub_at world key) (λ hub.
      let_some hub.stack.top.client (reply_with reply [] world) (λ client_key.
      let_some (stored_client_at world client_key) (reply_with reply [] world) (λ client. go hub client_key client))))
  on_top key lost reply go h =
      leaves_some Stale world (hub_at world key) (λ hub found.
      brings_same (ap (λ (o : Option (HubState P)). lost_on label world o lost) found)
      (leaves_let hub.stack.top.client
      (λ none. brings_same (ap (λ (o : Option ClientKey). lost_at label (option_and_then (client_at world) o)
      (lost hub.stack.top.scope)) none) (stays reply refl))
      (λ client_key named_. brings_same (ap (λ (o : Option ClientKey). lost_at label
      (option_and_then (client_at world) o) (lost hub.stack.top.scope)) named_)
      (leaves_let_client (client_at world client_key) _ _
      (λ none. brings_same (ap (λ (o : Option (ClientHistory C)). lost_at label o (lost hub.stack.top.scope)) none)
      (stays reply refl))
      (λ client held. h hub client_key client held)))))

  hub_captures : (key : HubKey) (event : Event) (fresh : Fresh)
      → Leaves (Brings (lost_on label world (hub_at world key)
      (λ scope. lost_captured gives meanings world (Some scope) fresh event)))
      (capture_event gives meanings key event fresh world)
  unfolding capture_event capture
  hub_captures key event fresh =
      on_top key (λ scope. lost_captured gives meanings world (Some scope) fresh event) nil_id _
      (λ hub client_key client held.
      let made = capture gives meanings (span_table world) (stored_client client) (Some hub.stack.top.scope) fresh
      event in
      record {
        leaves = λ accepted there. lost_here client_key client
            (lost_captured gives meanings world (Some hub.stack.top.scope) fresh event) held
            (ap (λ (m : List (ℕ × List LossEntry)). losses_at m label.number)
            (session_books (with_entry_if_any world client.label made.entry) hub.stack.top.session
            (capture_named_session world hub.stack.top.session (stored_client client) made))
            ∙ captured client_key client (pipeline.prepare_event gives meanings (span_table world) client.options
            client.sdk (Some hub.stack.top.scope) fresh event) client.occupied held);
      })

  captures_message : (key : HubKey) (message : Bytes) (level : Level) (fresh : Fresh)
      → Leaves (Brings (lost_on label world (hub_at world key) (λ scope.
      lost_captured gives meanings world (Some scope) fresh (message_event message level fresh.uuid fresh.now))))
      (hubs.capture_message gives meanings key message level fresh world)
  unfolding hubs.capture_message
  captures_message key message level fresh =
      hub_captures key (message_event message level fresh.uuid fresh.now) fresh

  captures_error : (key : HubKey) (links : List ErrorLink) (fresh : Fresh)
      → Leaves (Brings (lost_on label world (hub_at world key) (λ scope.
      lost_captured gives meanings world (Some scope) fresh (error_event links fresh.uuid fresh.now))))
      (hubs.capture_error gives meanings key links fresh world)
  unfolding hubs.capture_error
  captures_error key links fresh = hub_captures key (error_event links fresh.uuid fresh.now) fresh

  -- ---- logs and metrics

  log_kept : (key : ClientKey) (client : ClientHistory C) (o : Option Log) → client_at world key ≡ Some client
      → held_in (keep_log key client.label o world).after
      ≡ (if is_label label client.label then option_to_list (lost_item category.LogItem o) else []) ++ held_in world
  unfolding keep_log
  log_kept key client None found = enters_of key client (item_loss category.LogItem) found
  log_kept key client (Some log) found =
      log_part held_in no_report (λ w c. refl) key log world
      ∙ sym (none_if (is_label label client.label) (held_in world))

  metric_kept : (key : ClientKey) (client : ClientHistory C) (o : Option Metric) → client_at world key ≡ Some client
      → held_in (keep_metric key client.label o world).after
      ≡ (if is_label label client.label then option_to_list (lost_item category.Metric o) else []) ++ held_in world
  unfolding keep_metric
  metric_kept key client None found = enters_of key client (item_loss category.Metric) found
  metric_kept key client (Some metric) found =
      metric_part held_in no_report (λ w c. refl) key metric world
      ∙ sym (none_if (is_label label client.label) (held_in world))

  client_logs : (key : ClientKey) (log : Log) (scope : Scope P)
      → Leaves (Brings (lost_at label (client_at world key) (λ client.
      lost_item category.LogItem (client_log meanings (span_table world) (stored_client client) scope log))))
      (telemetry.client_capture_log meanings key log scope world)
  unfolding telemetry.client_capture_log
  client_logs key log scope =
      leaves_client Stale world (client_at world key) _ (λ client found.
      leaves_require Stale world (is_held (span_table world) scope.span) (λ active. record {
        leaves = λ accepted there. lost_here key client (λ client.
            lost_item category.LogItem (client_log meanings (span_table world) (stored_client client) scope log)) found
            (log_kept key client (client_log meanings (span_table world) (stored_client client) scope log) found);
      }))

  client_metrics : (key : ClientKey) (draft : MetricDraft) (scope : Scope P) (now : ℕ)
      → Leaves (Brings (lost_at label (client_at world key) (λ client.
      lost_item category.Metric (client_metric meanings (span_table world) (stored_client client) scope now draft))))
      (telemetry.client_capture_metric meanings key draft scope now world)
  unfolding telemetry.client_capture_metric
  client_metrics key draft scope now =
      leaves_client Stale world (client_at world key) _ (λ client found.
      leaves_require Stale world (is_held (span_table world) scope.span) (λ active. record {
        leaves = λ accepted there. lost_here key client (λ client. lost_item category.Metric
            (client_metric meanings (span_table world) (stored_client client) scope now draft)) found
            (metric_kept key client (client_metric meanings (span_table world) (stored_client client) scope now draft)
            found);
      }))

  hub_logs : (key : HubKey) (log : Log)
      → Leaves (Brings (lost_on label world (hub_at world key) (λ scope client.
      lost_item category.LogItem (client_log meanings (span_table world) (stored_client client) scope log))))
      (telemetry.capture_log meanings key log world)
  unfolding telemetry.capture_log
  hub_logs key log =
      on_top key (λ scope client.
      lost_item category.LogItem (client_log meanings (span_table world) (stored_client client) scope log)) tt _
      (λ hub client_key client held. record {
        leaves = λ accepted there. lost_here client_key client (λ client. lost_item category.LogItem
            (client_log meanings (span_table world) (stored_client client) hub.stack.top.scope log)) held
            (log_kept client_key client
            (client_log meanings (span_table world) (stored_client client) hub.stack.top.scope log) held);
      })

  hub_metrics : (key : HubKey) (draft : MetricDraft) (now : ℕ)
      → Leaves (Brings (lost_on label world (hub_at world key) (λ scope client.
      lost_item category.Metric (client_metric meanings (span_table world) (stored_client client) scope now draft))))
      (telemetry.capture_metric meanings key draft now world)
  unfolding telemetry.capture_metric
  hub_metrics key draft now =
      on_top key (λ scope client.
      lost_item category.Metric (client_metric meanings (span_table world) (stored_client client) scope now draft)) tt _
      (λ hub client_key client held. record {
        leaves = λ accepted there. lost_here client_key client (λ client. lost_item category.Metric
            (client_metric meanings (span_table world) (stored_client client) hub.stack.top.scope now draft)) held
            (metric_kept client_key client
            (client_metric meanings (span_table world) (stored_client client) hub.stack.top.scope now draft) held);
      })

  -- ---- clients and their books

  adds : (options : ClientOptions C) (transport : Bool) (other : Label) (now : ℕ)
      → Leaves (Brings []) (clients.add_client meanings options transport other now world)
  unfolding clients.add_client
  adds options transport other now =
      leaves_require ForeignLosses world (other.tag == world.tag) (λ foreign.
      leaves_require Full world (nat_lt world.next.client (2 ^ 64 - 1)) (λ some.
      stays _ (booked world.books other.number label.number)))

  reads_options : (key : ClientKey) → Leaves (Brings []) (clients.options key world)
  unfolding clients.options
  reads_options key = leaves_some Stale world (stored_client_at world key) (λ client found. stays _ refl)

  reads_dsn : (key : ClientKey) → Leaves (Brings []) (clients.dsn key world)
  unfolding clients.dsn
  reads_dsn key = leaves_some Stale world (stored_client_at world key) (λ client found. stays _ refl)

  reads_enabled : (key : ClientKey) → Leaves (Brings []) (clients.is_enabled key world)
  unfolding clients.is_enabled
  reads_enabled key = leaves_some Stale world (stored_client_at world key) (λ client found. stays _ refl)

  samples : (rate draw : ℕ) → Leaves (Brings []) (clients.sample_should_send rate draw world)
  unfolding clients.sample_should_send
  samples rate draw = stays _ refl

  sends_envelope : (key : ClientKey) (envelope : Envelope)
      → Leaves (Brings []) (clients.send_envelope key envelope world)
  unfolding clients.send_envelope
  sends_envelope key envelope =
      leaves_some Stale world (stored_client_at world key) (λ client found.
      leaves_if client.occupied (stays tt (no_report world client.label)) (stays tt refl))

  flushed_same : (flush : Flush) (key : ClientKey) → held_in (flush_queues flush key world).after ≡ held_in world
  flushed_same flush key = flush_part held_in no_report (λ w c. refl) flush key world

  flushes_all : (key : ClientKey) → Leaves (Brings []) (clients.flush key world)
  unfolding clients.flush
  flushes_all key = leaves_some Stale world (stored_client_at world key) (λ client found. stays tt (flushed_same All key))

  ticks : (key : ClientKey) (now : ℕ) → Leaves (Brings []) (clients.tick key now world)
  unfolding clients.tick
  ticks key now = leaves_some Stale world (stored_client_at world key) (λ client found. stays tt (flushed_same (Due now) key))

  closes : (key : ClientKey) → Leaves (Brings []) (clients.close key world)
  unfolding clients.close
  closes key = leaves_some Stale world (stored_client_at world key) (λ client found. stays tt (flushed_same Closing key))

  clones : (key : ClientKey) (now : ℕ) → Leaves (Brings []) (clients.clone_client key now world)
  unfolding clients.clone_client
  clones key now =
      leaves_some Stale world (client_at world key) (λ client found.
      leaves_require Full world (nat_lt world.next.client (2 ^ 64 - 1)) (λ some. stays _ refl))

  drops : (key : ClientKey) → Leaves (Brings []) (clients.drop_client key world)
  unfolding clients.drop_client
  drops key =
      leaves_some Stale world (stored_client_at world key) (λ client found.
      leaves_require StillNamed world (not (is_client_named key world.hubs)) (λ unnamed.
      leaves_require StillNamed world (not (has_session_of key world.sessions)) (λ no_session.
      leaves_require StillNamed world (not (has_transaction_of (span_table world) key)) (λ no_transaction.
      let flushed = flush_queues All key world in
      let after : HasBooks flushed.after = kept_by_changes gives meanings HasBooks
      (λ given old new some sent c. books_change meanings c) (flushes meanings All refl key world).changes books in
      record {
        leaves = λ accepted there.
            left flushed.after.books client.label.number label.number after.books
            (has_client_of client.label (without flushed.after.clients key.number)) there
            ∙ flushed_same All key;
      }))))

  takes : (other : Label) → Leaves (Brings []) (losses.take_report other world)
  unfolding losses.take_report
  takes other = leaves_require ForeignLosses world (has_book world other) (λ has. stays _ (no_report world other))

  absorbs_all : (other : Label) (quantities : List ℕ)
      → Leaves (Brings (if is_label label other then drained_losses quantities ∷ [] else []))
      (losses.absorb other quantities world)
  unfolding losses.absorb
  absorbs_all other quantities =
      leaves_require ForeignLosses world (has_book world other) (λ has. record {
        leaves = λ accepted there. enters other (drained_losses quantities) has;
      })

  client_brings : (call : ClientCall P C)
      → Leaves (Brings (losses_by gives meanings label world (group.Client call))) (client_step gives meanings call world)
  unfolding client_step
  client_brings (on_client.AddClient options transport other now) =
      leaves_mapped reply.Client _ (adds options transport other now)
  client_brings (on_client.Options key) = leaves_mapped reply.Options _ (reads_options key)
  client_brings (on_client.Dsn key) = leaves_mapped reply.Dsn _ (reads_dsn key)
  client_brings (on_client.IsEnabled key) = leaves_mapped reply.Decision _ (reads_enabled key)
  client_brings (on_client.SampleShouldSend rate draw) = leaves_mapped reply.Decision _ (samples rate draw)
  client_brings (on_client.PrepareEvent key event scope fresh) =
      leaves_mapped reply.Prepared _ (prepares key event scope fresh)
  client_brings (on_client.ClientCaptureEvent key event scope fresh) =
      leaves_mapped reply.Event _ (client_captures key event scope fresh)
  client_brings (on_client.SendEnvelope key envelope) =
      leaves_mapped (λ _. reply.Done) _ (sends_envelope key envelope)
  client_brings (on_client.ClientCaptureLog key log scope) =
      leaves_mapped (λ _. reply.Done) _ (client_logs key log scope)
  client_brings (on_client.ClientCaptureMetric key draft scope now) =
      leaves_mapped (λ _. reply.Done) _ (client_metrics key draft scope now)
  client_brings (on_client.Flush key) = leaves_mapped (λ _. reply.Done) _ (flushes_all key)
  client_brings (on_client.Tick key now) = leaves_mapped (λ _. reply.Done) _ (ticks key now)
  client_brings (on_client.Close key) = leaves_mapped (λ _. reply.Done) _ (closes key)
  client_brings (on_client.CloneClient key now) = leaves_mapped reply.Client _ (clones key now)
  client_brings (on_client.DropClient key) = leaves_mapped (λ _. reply.Done) _ (drops key)
  client_brings (on_client.TakeReport other) = leaves_mapped reply.Report _ (takes other)
  client_brings (on_client.Absorb other lost) =
      leaves_mapped (λ _. reply.Done) _ (absorbs_all other lost.quantities)

  -- ---- hubs

  makes : (client : Option ClientKey) (scope : Scope P) → Leaves (Brings []) (hubs.new_hub client scope world)
  unfolding hubs.new_hub
  makes client scope =
      leaves_require Stale world (is_held_or_none world client) (λ held.
      leaves_require Stale world (is_held (span_table world) scope.span) (λ active.
      leaves_require Full world (nat_lt world.next.hub (2 ^ 64 - 1)) (λ some. stays _ refl)))

  makes_from : (key : HubKey) → Leaves (Brings []) (layers.new_hub_from_top key world)
  unfolding layers.new_hub_from_top
  makes_from key =
      leaves_some Stale world (hub_at world key) (λ hub found.
      leaves_require Full world (nat_lt world.next.hub (2 ^ 64 - 1)) (λ some. stays _ refl))

  released_same : (number : ℕ) (hub : HubState P) (now : ℕ) (w : World P C)
      → held_in (release_session number hub now w).after ≡ held_in w
  released_same number hub now w =
      release_part held_in no_report (λ w c. refl) (λ w s. refl) number hub now w

  configures : (key : HubKey) (edits : List (ScopeEdit P)) (now : ℕ)
      → Leaves (Brings []) (hubs.configure key edits now world)
  unfolding hubs.configure
  configures key edits now =
      leaves_some Stale world (hub_at world key) (λ hub found.
      leaves_require Stale world (all_name_held_spans (span_table world) edits) (λ active.
      let renames = renames_after (span_table world) edits hub.stack.top.scope [] in
      leaves_if (list_any is_clear edits)
      (stays tt (ap (λ (m : List (ℕ × List LossEntry)). losses_at m label.number) (named_books renames _)
      ∙ released_same key.number hub now world))
      (stays tt (ap (λ (m : List (ℕ × List LossEntry)). losses_at m label.number) (named_books renames _)))))

  breadcrumbs_come : (key : HubKey) (breadcrumbs : List Breadcrumb)
      → Leaves (Brings []) (add_breadcrumbs meanings key breadcrumbs world)
  unfolding add_breadcrumbs
  breadcrumbs_come key breadcrumbs =
      leaves_some Stale world (hub_at world key) (λ hub found.
      leaves_if (length breadcrumbs == 0) (stays tt refl)
      (leaves_let hub.stack.top.client (λ none. stays tt refl) (λ client_key named_.
      leaves_let (stored_client_at world client_key) (λ none. stays tt refl) (λ client held. stays tt refl))))

  reads_last : (key : HubKey) → Leaves (Brings []) (hubs.last_event_id key world)
  unfolding hubs.last_event_id
  reads_last key = leaves_some Stale world (hub_at world key) (λ hub found. stays _ refl)

  reads_client : (key : HubKey) → Leaves (Brings []) (hubs.client key world)
  unfolding hubs.client
  reads_client key = leaves_some Stale world (hub_at world key) (λ hub found. stays _ refl)

  reads_active : (key : HubKey) → Leaves (Brings []) (hubs.is_active key world)
  unfolding hubs.is_active
  reads_active key =
      leaves_some Stale world (hub_at world key) (λ hub found.
      leaves_let hub.stack.top.client (λ none. stays _ refl) (λ client_key named_.
      leaves_let (stored_client_at world client_key) (λ none. stays _ refl) (λ client held. stays _ refl)))

  reads_scope : (key : HubKey) → Leaves (Brings []) (hubs.scope key world)
  unfolding hubs.scope
  reads_scope key = leaves_some Stale world (hub_at world key) (λ hub found. stays _ refl)

  pushes : (key : HubKey) → Leaves (Brings []) (layers.push_scope key world)
  unfolding layers.push_scope
  pushes key = leaves_some Stale world (hub_at world key) (λ hub found. stays _ refl)

  pops : (key : HubKey) (given now : ℕ) → Leaves (Brings []) (layers.pop_scope key given now world)
  unfolding layers.pop_scope
  pops key given now =
      leaves_some Stale world (hub_at world key) (λ hub found.
      leaves_require OutOfOrder world (depth hub.stack == given && nat_lt 0 given) (λ top.
      stays tt (released_same key.number hub now world)))

  releases_all : (key : HubKey) (now : ℕ) → Leaves (Brings []) (layers.release_hub key now world)
  unfolding layers.release_hub
  releases_all key now =
      leaves_some Stale world (hub_at world key) (λ hub found.
      leaves_require ScopesOpen world (depth hub.stack == 0) (λ alone.
      stays tt (released_same key.number hub now world)))

  binds : (key : HubKey) (client : Option ClientKey) → Leaves (Brings []) (layers.bind_client key client world)
  unfolding layers.bind_client
  binds key client =
      leaves_some Stale world (hub_at world key) (λ hub found.
      leaves_require Stale world (is_held_or_none world client) (λ held. stays tt refl))

  starts_session_on : (key : HubKey) (fresh : Fresh) → Leaves (Brings []) (sessions.start_session key fresh world)
  unfolding sessions.start_session
  starts_session_on key fresh =
      leaves_some Stale world (hub_at world key) (λ hub found.
      leaves_let hub.stack.top.client (λ none. stays tt refl) (λ client_key named_.
      leaves_let (stored_client_at world client_key) (λ none. stays tt refl) (λ client held.
      leaves_let client.session_attributes (λ none. stays tt refl) (λ attributes is.
      leaves_require Full world (is_session_number_left world) (λ some.
      stays tt (released_same key.number hub fresh.now (with_new_session
      (start_of client_key attributes hub.stack.top.scope.user fresh.uuid fresh.now) world)))))))

  ends_session_on : (key : HubKey) (status : SessionStatus) (now : ℕ)
      → Leaves (Brings []) (sessions.end_session_with_status key status now world)
  unfolding sessions.end_session_with_status
  ends_session_on key status now =
      leaves_some Stale world (hub_at world key) (λ hub found.
      leaves_let hub.stack.top.session (λ none. stays tt refl) (λ session named_.
      stays tt (end_part held_in no_report (λ w c. refl) (λ w s. refl) session (Some status) now world)))

  hub_brings : (call : HubCall P)
      → Leaves (Brings (losses_by gives meanings label world (group.Hub call))) (hub_step gives meanings call world)
  unfolding hub_step
  hub_brings (on_hub.NewHub client scope) = leaves_mapped reply.Hub _ (makes client scope)
  hub_brings (on_hub.Configure key edits now) = leaves_mapped (λ _. reply.Done) _ (configures key edits now)
  hub_brings (on_hub.AddBreadcrumbs key breadcrumbs) =
      leaves_mapped (λ _. reply.Done) _ (breadcrumbs_come key breadcrumbs)
  hub_brings (on_hub.CaptureEvent key event fresh) = leaves_mapped reply.Event _ (hub_captures key event fresh)
  hub_brings (on_hub.CaptureMessage key message level fresh) =
      leaves_mapped reply.Event _ (captures_message key message level fresh)
  hub_brings (on_hub.CaptureError key links fresh) = leaves_mapped reply.Event _ (captures_error key links fresh)
  hub_brings (on_hub.CaptureLog key log) = leaves_mapped (λ _. reply.Done) _ (hub_logs key log)
  hub_brings (on_hub.CaptureMetric key draft now) = leaves_mapped (λ _. reply.Done) _ (hub_metrics key draft now)
  hub_brings (on_hub.LastEventId key) = leaves_mapped reply.LastEvent _ (reads_last key)
  hub_brings (on_hub.Client key) = leaves_mapped reply.HubClient _ (reads_client key)
  hub_brings (on_hub.IsActive key) = leaves_mapped reply.Decision _ (reads_active key)
  hub_brings (on_hub.Scope key) = leaves_mapped reply.Scope _ (reads_scope key)
  hub_brings (on_hub.PushScope key) = leaves_mapped (λ pushed. reply.Depth pushed.1) _ (pushes key)
  hub_brings (on_hub.PopScope key given now) = leaves_mapped (λ _. reply.Done) _ (pops key given now)
  hub_brings (on_hub.NewHubFromTop key) = leaves_mapped reply.Hub _ (makes_from key)
  hub_brings (on_hub.ReleaseHub key now) = leaves_mapped (λ _. reply.Done) _ (releases_all key now)
  hub_brings (on_hub.BindClient key client) = leaves_mapped (λ _. reply.Done) _ (binds key client)
  hub_brings (on_hub.StartSession key fresh) = leaves_mapped (λ _. reply.Done) _ (starts_session_on key fresh)
  hub_brings (on_hub.EndSessionWithStatus key status now) =
      leaves_mapped (λ _. reply.Done) _ (ends_session_on key status now)

  -- ---- spans

  changes : (by : SpanEdit) (name : TransactionOrSpanKey) → Leaves (Brings []) (change by name world)
  unfolding change
  changes by (key_of.Transaction key) =
      leaves_some Stale world (stored_transaction_at world key) (λ held found.
      stays tt (ap (λ (m : List (ℕ × List LossEntry)). losses_at m label.number)
      (edited_books by key.number (transaction_at world key) world)))
  changes by (key_of.Span key) = leaves_some Stale world (span_at world key) (λ held found. stays tt refl)

  starts : (key : HubKey) (context : TransactionContext) (start : ℕ) (fresh : Fresh)
      → Leaves (Brings []) (start_transaction_with_timestamp meanings key context start fresh world)
  unfolding start_transaction_with_timestamp
  starts key context start fresh =
      leaves_some Stale world (hub_at world key) (λ hub found.
      leaves_require Full world (is_transaction_number_left world) (λ some. stays _ refl))

  starts_child : (parent : TransactionOrSpanKey) (op description : Bytes) (id : SpanId) (start : ℕ)
      → Leaves (Brings []) (start_child_with_details parent op description id start world)
  unfolding start_child_with_details
  starts_child parent op description id start =
      leaves_some Stale world (place_in (span_table world) parent) (λ place found.
      leaves_require Full world (is_span_number_left world) (λ some. stays _ refl))

  continues : (name op : Bytes) (span : Option TransactionOrSpanKey) (fresh : Fresh)
      → Leaves (Brings []) (continue_from_span name op span fresh world)
  unfolding continue_from_span
  continues name op None fresh = stays _ refl
  continues name op (Some key) fresh =
      leaves_some Stale world (place_in (span_table world) key) (λ place found. stays _ refl)

  reads : {T : Type 0} (of_transaction : TransactionRecord → T) (of_span : SpanRecord → T)
      (name : TransactionOrSpanKey) → Leaves (Brings []) (read of_transaction of_span name world)
  reads of_transaction of_span (key_of.Transaction key) =
      leaves_some Stale world (stored_transaction_at world key) (λ held found. stays _ refl)
  reads of_transaction of_span (key_of.Span key) = leaves_some Stale world (span_at world key) (λ held found. stays _ refl)

  reads_context : (name : TransactionOrSpanKey) → Leaves (Brings []) (get_trace_context name world)
  unfolding get_trace_context
  reads_context (key_of.Transaction key) =
      leaves_some Stale world (stored_transaction_at world key) (λ held found. stays _ refl)
  reads_context (key_of.Span key) =
      leaves_some Stale world (span_at world key) (λ held found.
      leaves_some Stale world (stored_transaction_at world held.transaction) (λ kept there. stays _ refl))

  discards : (name : TransactionOrSpanKey) → Leaves (Brings []) (discard name world)
  unfolding discard
  discards (key_of.Transaction key) =
      leaves_some Stale world (stored_transaction_at world key) (λ held found.
      leaves_require StillNamed world (not (is_active_on (key_of.Transaction key) world.hubs)) (λ unnamed.
      leaves_require StillNamed world (not (has_span_of (span_table world) key)) (λ spanless. stays tt refl)))
  discards (key_of.Span key) =
      leaves_some Stale world (span_at world key) (λ held found.
      leaves_require StillNamed world (not (is_active_on (key_of.Span key) world.hubs)) (λ unnamed. stays tt refl))

  -- what a client loses that may be held, in a world with these books
  lost_by_client : (key : ClientKey) (lost : List ℕ) (w : World P C) → w.books ≡ world.books
      → (o : Option (ClientHistory C)) → client_at world key ≡ o
      → held_in (with_loss_of (option_map stored_client o) (engine_losses lost) w)
      ≡ lost_at label o (λ client. Some (engine_losses lost)) ++ held_in world
  lost_by_client key lost w same None found =
      ap (λ (m : List (ℕ × List LossEntry)). losses_at m label.number) same
  lost_by_client key lost w same (Some client) found =
      ap (λ (m : List (ℕ × List LossEntry)). losses_at (replace_at m client.label.number
      (engine_losses lost ∷ unwrap_or (value_at m client.label.number) [])) label.number) same
      ∙ enters_of key client (engine_losses lost) found

  met : (number : ℕ) (held : SpanRecord) (in_number : ℕ) (state : TransactionHistory) (fate : SpanFate)
      → held_in (with_fate fate (with_transaction in_number state (with_span number held world)))
      ≡ lost_by_fate label world (Some fate) ++ held_in world
  met number held in_number state Kept = refl
  met number held in_number state (Lost client) =
      lost_by_client client (loss_of category.Span reason.BufferOverflow 1)
      (with_transaction in_number state (with_span number held world)) refl (client_at world client) refl
  met number held in_number state Gone = refl

  finished_in : (number : ℕ) (held : SpanRecord) (key : TransactionKey) (span : Span) (o : Option TransactionHistory)
      → held_in (with_span_in key span o (with_span number held world))
      ≡ lost_by_fate label world (option_map fate_of o) ++ held_in world
  finished_in number held key span None = refl
  finished_in number held key span (Some state) =
      met number held key.number (with_span_finished span state) (fate_of state)

  finishes : (key : SpanKey) (moment : ℕ)
      → Leaves (Brings (lost_with_span label world (span_at world key))) (finish_span key moment world)
  unfolding finish_span
  finishes key moment =
      leaves_some Stale world (span_at world key) (λ held found.
      brings_same (ap (lost_with_span label world) found)
      (brings_if (is_some held.span.timestamp) []
      (lost_by_fate label world (option_map fate_of (transaction_at world held.transaction))) (stays tt refl) (record {
        leaves = λ accepted there. finished_in key.number (finished_span moment held) held.transaction
            (finished_span moment held).span (transaction_at world held.transaction);
      })))

  unfinished_none : (tracing : TracingState) (spans : List Span) → lost_unsampled label world tracing None spans ≡ []
  unfinished_none (Disabled decision) spans = refl
  unfinished_none (Enabled false rate) spans = refl
  unfinished_none (Enabled true rate) spans = refl

  finishes_transaction : (key : TransactionKey) (hub_key : HubKey) (moment : ℕ)
      → Leaves (Brings (lost_with_transaction label world (stored_transaction_at world key)))
      (finish_transaction key hub_key moment world)
  unfolding finish_transaction
  finishes_transaction key hub_key moment =
      let closed_ : (with_transaction_finished key world).books ≡ world.books =
      closed_books key.number (transaction_at world key) world in
      let same : held_in (with_transaction_finished key world) ≡ held_in world =
      ap (λ (m : List (ℕ × List LossEntry)). losses_at m label.number) closed_ in
      leaves_some Stale world (stored_transaction_at world key) (λ held found.
      brings_same (ap (lost_with_transaction label world) found)
      (leaves_some Stale world (hub_at world hub_key) (λ hub hub_found.
      leaves_let held.unfinished
      (λ none. brings_same (ap (λ o. lost_unsampled label world held.tracing o held.spans) none
      ∙ unfinished_none held.tracing held.spans) (stays tt refl))
      (λ unfinished is. brings_same (ap (λ o. lost_unsampled label world held.tracing o held.spans) is)
      (leaves_by_tracing held.tracing
      (λ decision e. brings_same (ap (λ t. lost_unsampled label world t (Some unfinished) held.spans) e) (stays tt same))
      (λ rate e. brings_same (ap (λ t. lost_unsampled label world t (Some unfinished) held.spans) e) (record {
        leaves = λ accepted there.
            let lost = transaction_losses reason.SampleRate (record unfinished.transaction { spans = held.spans }) in
            ap (λ (o : Option (ClientHistory C)). held_in
            (with_loss_of (option_map stored_client o) (engine_losses lost) (with_transaction_finished key world)))
            (closed_client key.number (transaction_at world key) world unfinished.client)
            ∙ lost_by_client unfinished.client lost (with_transaction_finished key world) closed_
            (client_at world unfinished.client) refl;
      }))
      (λ rate e. brings_same (ap (λ t. lost_unsampled label world t (Some unfinished) held.spans) e)
      (leaves_let (stored_client_at world unfinished.client) (λ none. stays tt same)
      (λ client client_found. stays tt (sent_same client.label _ (with_transaction_finished key world) ∙ same)))))))))

  span_brings : (call : SpanCall)
      → Leaves (Brings (losses_by gives meanings label world (group.Span call))) (span_step meanings call world)
  unfolding span_step get_status read_data is_sampled get_span_id iter_headers
  span_brings (on_span.StartTransaction hub context fresh) =
      leaves_mapped span_reply.Transaction _ (starts hub context fresh.now fresh)
  span_brings (on_span.StartTransactionWithTimestamp hub context start fresh) =
      leaves_mapped span_reply.Transaction _ (starts hub context start fresh)
  span_brings (on_span.StartChild parent op description fresh) =
      leaves_mapped span_reply.Span _ (starts_child parent op description fresh.span_id fresh.now)
  span_brings (on_span.StartChildWithDetails parent op description id start) =
      leaves_mapped span_reply.Span _ (starts_child parent op description id start)
  span_brings (on_span.ContinueFromSpan name op span fresh) =
      leaves_mapped span_reply.Context _ (continues name op span fresh)
  span_brings (on_span.SetData span key value) =
      leaves_mapped (λ _. span_reply.Done) _ (changes (edit_by.Data key value) span)
  span_brings (on_span.SetTag span key value) =
      leaves_mapped (λ _. span_reply.Done) _ (changes (edit_by.Tag key value) span)
  span_brings (on_span.SetExtra transaction key value) =
      leaves_mapped (λ _. span_reply.Done) _ (changes (edit_by.Extra key value) (key_of.Transaction transaction))
  span_brings (on_span.SetStatus span status) =
      leaves_mapped (λ _. span_reply.Done) _ (changes (edit_by.Status status) span)
  span_brings (on_span.SetOp span op) = leaves_mapped (λ _. span_reply.Done) _ (changes (edit_by.Op op) span)
  span_brings (on_span.SetName span text) = leaves_mapped (λ _. span_reply.Done) _ (changes (edit_by.Name text) span)
  span_brings (on_span.SetRequest span request) =
      leaves_mapped (λ _. span_reply.Done) _ (changes (edit_by.Request request) span)
  span_brings (on_span.SetOrigin transaction origin) =
      leaves_mapped (λ _. span_reply.Done) _ (changes (edit_by.Origin origin) (key_of.Transaction transaction))
  span_brings (on_span.GetStatus span) = leaves_mapped span_reply.Status _ (reads _ _ span)
  span_brings (on_span.GetTraceContext span) = leaves_mapped span_reply.TraceContext _ (reads_context span)
  span_brings (on_span.GetSpanId span) =
      leaves_mapped span_reply.SpanId _ (leaves_some Stale world (span_at world span) (λ held found. stays _ refl))
  span_brings (on_span.Data span) = leaves_mapped span_reply.Data _ (reads _ _ span)
  span_brings (on_span.IterHeaders span) =
      leaves_mapped span_reply.Headers _
      (leaves_some Stale world (place_in (span_table world) span) (λ place found. stays _ refl))
  span_brings (on_span.IsSampled span) = leaves_mapped span_reply.Decision _ (reads _ _ span)
  span_brings (on_span.FinishTransaction transaction hub moment) =
      leaves_mapped (λ _. span_reply.Done) _ (finishes_transaction transaction hub moment)
  span_brings (on_span.FinishSpan span moment) = leaves_mapped (λ _. span_reply.Done) _ (finishes span moment)
  span_brings (on_span.Discard span) = leaves_mapped (λ _. span_reply.Done) _ (discards span)

  call_brings : (call : Call P C)
      → Leaves (Brings (losses_by gives meanings label world call)) (step gives meanings call world)
  call_brings (group.Client call) = client_brings call
  call_brings (group.Hub call) = hub_brings call
  call_brings (group.Span call) = leaves_mapped reply.Span _ (span_brings call)

-- ---- runs

module _ {P C : Type 0} (meanings : C → Meanings) where
  sent_tag : (label : Label) (sent : List (ClientKey × Envelope)) (world : World P C)
      → (after_sending label sent world).tag ≡ world.tag
  sent_tag label [] world = refl
  sent_tag label (first ∷ rest) world = refl

  same_tag : {given : Option Envelope} {old new : World P C} {some : List (Effect P C)} {sent : List
      (ClientKey × Envelope)} → Change meanings given old some sent new → new.tag ≡ old.tag
  same_tag (arrives world key client arrival is_off found open_ came) = sent_tag client.label _ _
  same_tag (accepts world key client arrival kind is_off found open_ came) = sent_tag client.label _ _
  same_tag _ = refl

module _ {P C : Type 0} (gives : P → Partial) (meanings : C → Meanings) where
  pub kept_tag : (call : Call P C) (answer : Result (Out (Reply P C)) Refusal) (world next : World P C)
      → StepsTo gives meanings world call answer next → next.tag ≡ world.tag
  kept_tag call answer world next may =
      kept_by_call gives meanings (λ (w : World P C). w.tag ≡ world.tag)
      (λ given old new some sent c e. same_tag meanings c ∙ e) call answer world next may refl

  pub records_call : (call : Call P C) (answer : Result (Out (Reply P C)) Refusal) (world next : World P C)
      → StepsTo gives meanings world call answer next → HasBooks world
      → (label : Label) → has_client_of label next.clients ≡ true
      → losses_in (history_of next label) ≡ losses_by_answer gives meanings label world call answer
      ++ losses_in (history_of world label)
  records_call call (Ok out) world next may books label has =
      let known : has_book next label ≡ true = (kept_books gives meanings call (Ok out) world next may books).same label ∙ has in
      let own : (label.tag == world.tag) ≡ true =
      ap (λ t. label.tag == t) (sym (kept_tag call (Ok out) world next may))
      ∙ (and_parts (label.tag == next.tag) _ known).0 in
      subst (λ (w : World P C). is_some (value_at w.books label.number) ≡ true
      → losses_at w.books label.number ≡ losses_by gives meanings label world call
      ++ losses_at world.books label.number) (sym may.1)
      ((call_brings gives meanings world books label own call).leaves (ap is_ok may.0))
      (and_parts (label.tag == next.tag) _ known).1
  records_call call (Err refusal) world next may books label has =
      ap (λ (w : World P C). losses_in (history_of w label)) may.1

  records : (world : World P C) (calls : List (Call P C)) (answers : List (Result (Out (Reply P C)) Refusal))
      (last : World P C) (run : Run gives meanings world calls answers last) → HasBooks world
      → RecordsLosses gives meanings world calls answers last run
  records world [] answers last run books = tt
  records world (call ∷ calls) [] last run books = tt
  records world (call ∷ calls) (answer ∷ answers) last run books = records_call call answer world run.0 run.1 books

  -- what came to the books in a run from the start
  pub records_losses : (tag start : ℕ) (calls : List (Call P C))
      (answers : List (Result (Out (Reply P C)) Refusal)) (last : World P C)
      (run : Run gives meanings (starting_world tag start) calls answers last)
      → RecordsLossesByCalls gives meanings (starting_world tag start) calls answers last run
  records_losses tag start calls answers last run =
      from_each_call gives meanings (RecordsLosses gives meanings) HasBooks (kept_books gives meanings) records calls answers
      (starting_world tag start) last run (no_books meanings tag start)
