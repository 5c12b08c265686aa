-- Each call is a sequence of changes.
use Rattle.std.proofs.Common.{◌≡◌, refl, ap, ◌∙◌, sym, ℕ, ◌-◌, ◌^◌, List, [], ◌∷◌, Bool, true, false, inl, length, arith}
use Rattle.std.proofs.lemmas.Bool.{and_parts, not-true}
use Rattle.std.proofs.lemmas.Bool.Decides.{nat_tests}
use Rattle.std.specs.Prelude.{Option, Some, None, if◌then◌else◌, nat_lt, ◌==◌, ◌&&◌, not}
use Rattle.std.specs.List.{list_any}
use Rattle.std.specs.Option.{option_map, option_and_then}
use Rattle.sentry_plain.specs.Texts.{Bytes}
use Rattle.sentry_plain.specs.Tables.{value_at}
use Rattle.sentry_base.specs.Callbacks.{Partial}
use Rattle.sentry_texts.specs.ErrorEvents.{error_event}
use Rattle.sentry_base.specs.declared.protocol.breadcrumb.Breadcrumb.{Breadcrumb}
use Rattle.sentry_base.specs.declared.protocol.envelope.Envelope.{Envelope}
use Rattle.sentry_base.specs.declared.protocol.error_link.ErrorLink.{ErrorLink}
use Rattle.sentry_base.specs.declared.protocol.event.Event.{Event}
use Rattle.sentry_base.specs.declared.protocol.fresh.Fresh.{Fresh}
use Rattle.sentry_base.specs.declared.protocol.keys.ClientKey.{ClientKey}
use Rattle.sentry_base.specs.declared.protocol.keys.HubKey.{HubKey}
use Rattle.sentry_base.specs.declared.protocol.keys.Label.{Label}
use Rattle.sentry_base.specs.declared.protocol.level.Level.{Level}
use Rattle.sentry_base.specs.declared.protocol.log.Log.{Log}
use Rattle.sentry_base.specs.declared.protocol.metric.MetricDraft.{MetricDraft}
use Rattle.sentry_base.specs.declared.protocol.refusal.Refusal.TheVariants.{Stale, StillNamed, ForeignLosses, Full, OutOfOrder, ScopesOpen}
use Rattle.sentry_base.specs.declared.protocol.session.SessionStatus.{SessionStatus}
use Rattle.sentry_options.specs.Meanings.{Meanings, call_on_each}
use Rattle.sentry_options.specs.declared.clientoptions.ClientOptions.{ClientOptions}
use Rattle.sentry_scope.specs.declared.scope.Scope as declared_scope
use Rattle.sentry_scope.specs.declared.scope.edit.ScopeEdit.{ScopeEdit}
use Rattle.sentry_scope.specs.EditLists.{all_name_held_spans, renames_after}
use Rattle.sentry_scope.specs.Scopes.{edit_all}
use Rattle.sentry_scope.specs.Stacks.{depth, push, pop}
use Rattle.sentry_sessions.specs.Sessions.{session_attributes, start_of}
use Rattle.sentry_pipeline.specs.Pipeline.{loss_reason}
use Rattle.sentry_pipeline.specs.Pipeline as pipeline
use Rattle.sentry_hub_table.specs.declared.hub.HubState.{HubState}
use Rattle.sentry_state.specs.Worlds.{World, ClientHistory, stored_client, span_table}
use Rattle.sentry_state.specs.Outcomes.{client_at, hub_at, is_held_or_none, reply_with}
use Rattle.sentry_state.proofs.Keeping.{popped_same}
use Rattle.sentry_hub_table.specs.Hubs.{with_stack, with_scope, with_client, with_session}
use Rattle.sentry_span_table.specs.SpanTables.{has_transaction_of, is_held}
use Rattle.sentry_calls.specs.Clients.{holds_active_span}
use Rattle.sentry_state.specs.Clients.{new_client, is_client_named, has_session_of}
use Rattle.sentry_state.specs.Changes.{with_breadcrumbs, is_session_number_left, next_hub_key}
use Rattle.sentry_state.specs.Books.{has_book}
use Rattle.sentry_sending.specs.Sending.{release_session, Sending, reply_sending}
use Rattle.sentry_events.specs.Captures.{capture, captured_id, capture_event, message_event, capture_named_session, attachments_of}
use Rattle.sentry_telemetry.specs.declared.flushes.Flush.TheVariants.{All, Due}
use Rattle.sentry_telemetry.specs.Flushes.{flush_queues}
use Rattle.sentry_telemetry.specs.Telemetry.{client_log, client_metric}
use Rattle.sentry_state.specs.Breadcrumbs.{add_breadcrumbs}
use Rattle.sentry_calls.specs.declared.call.Call.{Call}
use Rattle.sentry_calls.specs.declared.call.Call.TheVariants as group
use Rattle.sentry_calls.specs.declared.call.clients.ClientCall.{ClientCall}
use Rattle.sentry_calls.specs.declared.call.clients.ClientCall.TheVariants as on_client
use Rattle.sentry_calls.specs.declared.call.hubs.HubCall.{HubCall}
use Rattle.sentry_calls.specs.declared.call.hubs.HubCall.TheVariants as on_hub
use Rattle.sentry_calls.specs.declared.call.Reply.TheVariants as reply
use Rattle.sentry_calls.specs.Clients as clients
use Rattle.sentry_calls.specs.Hubs as hubs
use Rattle.sentry_calls.specs.Hubs.{is_clear}
use Rattle.sentry_calls.specs.Layers as layers
use Rattle.sentry_calls.specs.Losses as losses
use Rattle.sentry_calls.specs.Sessions as sessions
use Rattle.sentry_calls.specs.Telemetry as telemetry
use Rattle.sentry_calls.specs.Steps.{step, client_step, hub_step}
use Rattle.sentry_laws.specs.OwnCalls.{scope_edited, breadcrumbs_came, client_bound, layer_pushed, layer_popped, hub_changed, hub_released, change_layers, add_under}
use Rattle.sentry_laws.proofs.Effects.{Came, a_log, a_metric, a_close, Effect, seen, losses_absorbed, report_taken, session_begun, client_dropped, came_to_queues, effects, client_effects, hub_effects}
use Rattle.sentry_laws.proofs.Changes.{one, held_options, makes_hub, makes_hub_from, changes_hub, leaves_hub, notes_event_id, releases_hub, adds_client, clones_client, drops_client, mails, takes_report, absorbs, starts_none, accepts_none}
use Rattle.sentry_laws.specs.SentItems.{handed_in}
use Rattle.sentry_laws.proofs.SpanTrails.{quiet_names, told_span_step}
use Rattle.sentry_laws.proofs.Trails.{found_under, Sends, Told, told_trail, told_named, told_nothing, told_some, told_client, told_let, told_let_client, told_require, told_if, told_sending, told_mapped, quiet_last}
use Rattle.sentry_laws.proofs.SendingTrails.{flushes, closes_queues, flush_hubs, flushed_client, keeps_log, keeps_metric, ends, releases, replaces, found_released, release_spans}
use Rattle.sentry_laws.proofs.Naming.{hub_replaced_named}
use Rattle.sentry_laws.proofs.Releases.{all_released_named, popped_named, hub_released_named, renamed_named, replaced_named}
use Rattle.sentry_laws.proofs.CaptureTrails.{fate_of, captures, captures_with_session, loses_if_any, found_captured}

abbrev quiet : {P C T : Type 0} → T → List (Effect P C)
quiet reply = []

above_ground : (deep given : ℕ) → (deep == given && nat_lt 0 given) ≡ true → nat_lt 0 deep ≡ true
above_ground deep given top =
    let both : ((deep == given) ≡ true) × (nat_lt 0 given ≡ true) = and_parts (deep == given) (nat_lt 0 given) top in
    let same = both.0 in
    let above = both.1 in
    grind (arith, nat_tests)

none_below : (deep : ℕ) → (deep == 0) ≡ true → deep ≡ 0
none_below deep e = grind (arith, nat_tests)

module _ {P C : Type 0} (meanings : C → Meanings) where
  found_hub : (key : HubKey) (world : World P C) (hub : HubState P) → hub_at world key ≡ Some hub
      → value_at world.hubs key.number ≡ Some hub
  found_hub key world hub found = found_under world.tag world.hubs key.tag key.number hub found

  -- ---- clients

  told_add : (options : ClientOptions C) (transport : Bool) (label : Label) (now : ℕ) (world : World P C)
      → Told meanings None world
      (λ key. client_effects {P = P} {C = C} meanings (on_client.AddClient options transport label now)
      (reply.Client key)) (clients.add_client meanings options transport label now world)
  unfolding clients.add_client new_client
  told_add options transport label now world =
      told_require meanings None ForeignLosses (label.tag == world.tag) (λ own.
      told_require meanings None Full (nat_lt world.next.client (2 ^ 64 - 1)) (λ left.
      told_trail meanings None _
      (one (adds_client world (new_client meanings options transport label now) now refl refl own)) refl refl))

  told_clone : (key : ClientKey) (now : ℕ) (world : World P C)
      → Told meanings None world (λ made. client_effects {P = P} {C = C} meanings (on_client.CloneClient key now)
      (reply.Client made)) (clients.clone_client key now world)
  unfolding clients.clone_client
  told_clone key now world =
      told_some meanings None Stale (client_at world key) (λ client found.
      told_require meanings None Full (nat_lt world.next.client (2 ^ 64 - 1)) (λ left.
      told_trail meanings None _ (one (clones_client world key client now found)) refl refl))

  told_drop : (key : ClientKey) (world : World P C)
      → Told meanings None world (λ _. client_dropped key.number ∷ []) (clients.drop_client key world)
  unfolding clients.drop_client
  told_drop key world =
      told_client meanings None Stale (client_at world key) _ (λ client found.
      told_require meanings None StillNamed (not (is_client_named key world.hubs)) (λ unnamed.
      told_require meanings None StillNamed (not (has_session_of key world.sessions)) (λ no_session.
      told_require meanings None StillNamed (not (has_transaction_of (span_table world) key)) (λ no_transaction.
      let left = flushed_client All key world client found in
      told_trail meanings None tt (quiet_last meanings None (flushes meanings All refl key world).changes
      (drops_client (flush_queues All key world).after key left.0 client.label left.1 left.2
      (ap (is_client_named key) (flush_hubs All key world) ∙ not-true _ unnamed))) refl refl))))

  told_options : (key : ClientKey) (world : World P C) → Told meanings None world quiet (clients.options key world)
  unfolding clients.options
  told_options key world = told_client meanings None Stale (client_at world key) _
      (λ client found. told_nothing meanings None _ refl)

  told_dsn : (key : ClientKey) (world : World P C) → Told meanings None world quiet (clients.dsn key world)
  unfolding clients.dsn
  told_dsn key world = told_client meanings None Stale (client_at world key) _
      (λ client found. told_nothing meanings None _ refl)

  told_enabled : (key : ClientKey) (world : World P C) → Told meanings None world quiet (clients.is_enabled key world)
  unfolding clients.is_enabled
  told_enabled key world = told_client meanings None Stale (client_at world key) _
      (λ client found. told_nothing meanings None _ refl)

  told_sample : (rate draw : ℕ) (world : World P C) → Told meanings None world quiet
      (clients.sample_should_send rate draw world)
  unfolding clients.sample_should_send
  told_sample rate draw world = told_nothing meanings None _ refl

  told_flush : (key : ClientKey) (world : World P C) → Told meanings None world quiet (clients.flush key world)
  unfolding clients.flush
  told_flush key world = told_client meanings None Stale (client_at world key) _
      (λ client found. told_sending meanings None tt (flushes meanings All refl key world) refl)

  told_tick : (key : ClientKey) (now : ℕ) (world : World P C) → Told meanings None world quiet
      (clients.tick key now world)
  unfolding clients.tick
  told_tick key now world = told_client meanings None Stale (client_at world key) _
      (λ client found. told_sending meanings None tt (flushes meanings (Due now) refl key world) refl)

  told_send : (key : ClientKey) (envelope : Envelope) (world : World P C) → Told meanings (Some envelope) world quiet
      (clients.send_envelope key envelope world)
  unfolding clients.send_envelope
  told_send key envelope world =
      told_client meanings (Some envelope) Stale (client_at world key) _ (λ client found.
      told_if meanings (Some envelope) client.occupied
      (λ occupied. told_trail meanings (Some envelope) tt
      (one (mails world key client envelope found occupied (inl refl) (λ none. absurd cc))) refl refl)
      (λ empty. told_nothing meanings (Some envelope) tt refl))

  -- ---- events

  module _ (gives : P → Partial) where
    told_prepare : (key : ClientKey) (event : Event) (scope : Option (declared_scope.Scope P)) (fresh : Fresh)
        (world : World P C) → Told meanings None world quiet
        (clients.prepare_event gives meanings key event scope fresh world)
    unfolding clients.prepare_event
    told_prepare key event scope fresh world =
        told_client meanings None Stale (client_at world key) _ (λ client found.
        told_require meanings None Stale (holds_active_span world scope) (λ active.
        told_trail meanings None _ (loses_if_any meanings None world key client found
        (loss_reason (pipeline.prepare_event gives meanings (span_table world)
        client.options client.sdk scope fresh event).preparation)) refl refl))

    told_client_capture : (key : ClientKey) (event : Event) (scope : Option (declared_scope.Scope P)) (fresh : Fresh)
        (world : World P C) → Told meanings None world quiet
        (clients.client_capture_event gives meanings key event scope fresh world)
    unfolding clients.client_capture_event
    told_client_capture key event scope fresh world =
        told_client meanings None Stale (client_at world key) _ (λ client found.
        told_require meanings None Stale (holds_active_span world scope) (λ active.
        told_trail meanings None _ (captures meanings None refl world key client found None (attachments_of scope) _ _
        (fate_of gives meanings (span_table world) (stored_client client) scope fresh event) (λ told_ e. absurd cc))
        refl refl))

    told_capture : (key : HubKey) (event : Event) (fresh : Fresh) (world : World P C) → Told meanings None world quiet
        (capture_event gives meanings key event fresh world)
    unfolding capture_event
    told_capture key event fresh world =
        told_some meanings None Stale (hub_at world key) (λ hub found.
        told_let meanings None hub.stack.top.client (λ none. told_nothing meanings None _ refl) (λ client_key named_.
        told_let_client meanings None (client_at world client_key) _ _ (λ none. told_nothing meanings None _ refl)
        (λ client held.
        let made = capture gives meanings (span_table world) (stored_client client) (Some hub.stack.top.scope)
        fresh event in
        let session = capture_named_session world hub.stack.top.session (stored_client client) made in
        told_trail meanings None (captured_id made.event) (quiet_last meanings None
        (captures_with_session meanings None refl world client_key client held hub.stack.top.session
        hub.stack.top.scope.attachments made
        (fate_of gives meanings (span_table world) (stored_client client) (Some hub.stack.top.scope) fresh event))
        (notes_event_id _ key.number hub (record hub { last_event_id = Some (captured_id made.event) })
        (found_captured world client.label made.entry hub.stack.top.session session key.number hub
        (found_hub key world hub found)) refl)) refl refl)))

    told_message : (key : HubKey) (message : Bytes) (level : Level) (fresh : Fresh) (world : World P C)
        → Told meanings None world quiet (hubs.capture_message gives meanings key message level fresh world)
    unfolding hubs.capture_message
    told_message key message level fresh world = told_capture key (message_event message level fresh.uuid fresh.now)
        fresh world

    told_error : (key : HubKey) (links : List ErrorLink) (fresh : Fresh) (world : World P C)
        → Told meanings None world quiet (hubs.capture_error gives meanings key links fresh world)
    unfolding hubs.capture_error
    told_error key links fresh world = told_capture key (error_event links fresh.uuid fresh.now) fresh world

  -- ---- logs and metrics, and the last flush

  told_came : {world : World P C} {sending : Sending P C} (kind : Came)
      → Sends meanings None world (came_to_queues kind ∷ []) sending
      → Told meanings None world (λ _. came_to_queues kind ∷ []) (reply_sending {T = Unit {0}} tt sending)
  told_came kind s = told_trail meanings None tt s.changes refl refl

  told_came_none : (kind : Came) (world : World P C)
      → Told meanings None world (λ _. came_to_queues kind ∷ []) (reply_with {T = Unit {0}} tt [] world)
  told_came_none kind world = told_trail meanings None tt (one (accepts_none world kind)) refl refl

  told_close : (key : ClientKey) (world : World P C)
      → Told meanings None world (λ _. came_to_queues a_close ∷ []) (clients.close key world)
  unfolding clients.close
  told_close key world = told_client meanings None Stale (client_at world key) _
      (λ client found. told_came a_close (closes_queues meanings key world))

  told_client_log : (key : ClientKey) (log : Log) (scope : declared_scope.Scope P) (world : World P C)
      → Told meanings None world (λ _. came_to_queues a_log ∷ []) (telemetry.client_capture_log meanings key log scope world)
  unfolding telemetry.client_capture_log
  told_client_log key log scope world =
      told_client meanings None Stale (client_at world key) _ (λ client found.
      told_require meanings None Stale (is_held (span_table world) scope.span) (λ active.
      told_came a_log
      (keeps_log meanings key client (client_log meanings (span_table world) (stored_client client) scope log)
      world found)))

  told_client_metric : (key : ClientKey) (draft : MetricDraft) (scope : declared_scope.Scope P) (now : ℕ)
      (world : World P C) → Told meanings None world (λ _. came_to_queues a_metric ∷ [])
      (telemetry.client_capture_metric meanings key draft scope now world)
  unfolding telemetry.client_capture_metric
  told_client_metric key draft scope now world =
      told_client meanings None Stale (client_at world key) _ (λ client found.
      told_require meanings None Stale (is_held (span_table world) scope.span) (λ active.
      told_came a_metric
      (keeps_metric meanings key client (client_metric meanings (span_table world) (stored_client client)
      scope now draft) world found)))

  told_log : (key : HubKey) (log : Log) (world : World P C) → Told meanings None world (λ _. came_to_queues a_log ∷ [])
      (telemetry.capture_log meanings key log world)
  unfolding telemetry.capture_log
  told_log key log world =
      told_some meanings None Stale (hub_at world key) (λ hub found.
      told_let meanings None hub.stack.top.client (λ none. told_came_none a_log world) (λ client_key named_.
      told_let_client meanings None (client_at world client_key) _ _ (λ none. told_came_none a_log world)
      (λ client held.
      told_came a_log
      (keeps_log meanings client_key client (client_log meanings (span_table world) (stored_client client)
      hub.stack.top.scope log) world held))))

  told_metric : (key : HubKey) (draft : MetricDraft) (now : ℕ) (world : World P C) → Told meanings None world (λ _. came_to_queues a_metric ∷ [])
      (telemetry.capture_metric meanings key draft now world)
  unfolding telemetry.capture_metric
  told_metric key draft now world =
      told_some meanings None Stale (hub_at world key) (λ hub found.
      told_let meanings None hub.stack.top.client (λ none. told_came_none a_metric world) (λ client_key named_.
      told_let_client meanings None (client_at world client_key) _ _ (λ none. told_came_none a_metric world)
      (λ client held.
      told_came a_metric
      (keeps_metric meanings client_key client (client_metric meanings (span_table world) (stored_client client)
      hub.stack.top.scope now draft) world held))))

  -- ---- losses

  told_take : (label : Label) (world : World P C) → Told meanings None world (λ report. report_taken label report ∷ [])
      (losses.take_report label world)
  unfolding losses.take_report
  told_take label world = told_require meanings None ForeignLosses (has_book world label)
      (λ has. told_trail meanings None _ (one (takes_report world label has)) refl refl)

  told_absorb : (label : Label) (quantities : List ℕ) (world : World P C) → Told meanings None world
      (λ _. losses_absorbed label quantities ∷ []) (losses.absorb label quantities world)
  unfolding losses.absorb
  told_absorb label quantities world = told_require meanings None ForeignLosses (has_book world label)
      (λ has. told_trail meanings None _ (one (absorbs world label quantities has)) refl refl)

  -- ---- hubs

  told_last : (key : HubKey) (world : World P C) → Told meanings None world quiet (hubs.last_event_id key world)
  unfolding hubs.last_event_id
  told_last key world = told_some meanings None Stale (hub_at world key)
      (λ hub found. told_nothing meanings None _ refl)

  told_hub_client : (key : HubKey) (world : World P C) → Told meanings None world quiet (hubs.client key world)
  unfolding hubs.client
  told_hub_client key world = told_some meanings None Stale (hub_at world key)
      (λ hub found. told_nothing meanings None _ refl)

  told_scope : (key : HubKey) (world : World P C) → Told meanings None world quiet (hubs.scope key world)
  unfolding hubs.scope
  told_scope key world = told_some meanings None Stale (hub_at world key)
      (λ hub found. told_nothing meanings None _ refl)

  told_active : (key : HubKey) (world : World P C) → Told meanings None world quiet (hubs.is_active key world)
  unfolding hubs.is_active
  told_active key world =
      told_some meanings None Stale (hub_at world key) (λ hub found.
      told_let meanings None hub.stack.top.client (λ none. told_nothing meanings None _ refl) (λ client_key named_.
      told_let_client meanings None (client_at world client_key) _ _ (λ none. told_nothing meanings None _ refl)
      (λ client held. told_nothing meanings None _ refl)))

  told_new : (client : Option ClientKey) (scope : declared_scope.Scope P) (world : World P C)
      → Told meanings None world (λ key. hub_effects {P = P} {C = C} meanings (on_hub.NewHub client scope)
      (reply.Hub key)) (hubs.new_hub client scope world)
  unfolding hubs.new_hub
  told_new client scope world =
      told_require meanings None Stale (is_held_or_none world client) (λ held.
      told_require meanings None Stale (is_held (span_table world) scope.span) (λ active.
      told_require meanings None Full (nat_lt world.next.hub (2 ^ 64 - 1)) (λ left.
      told_trail meanings None (next_hub_key world) (one (makes_hub world client scope held active)) refl refl)))

  told_new_from : (key : HubKey) (world : World P C)
      → Told meanings None world (λ made. hub_effects {P = P} {C = C} meanings (on_hub.NewHubFromTop key)
      (reply.Hub made)) (layers.new_hub_from_top key world)
  unfolding layers.new_hub_from_top
  told_new_from key world =
      told_some meanings None Stale (hub_at world key) (λ hub found.
      told_require meanings None Full (nat_lt world.next.hub (2 ^ 64 - 1)) (λ left.
      told_trail meanings None (next_hub_key world)
      (one (makes_hub_from world key.number hub (found_hub key world hub found))) refl refl))

  came_by : (world : World P C) (breadcrumbs : List Breadcrumb) (hub : HubState P) → (length breadcrumbs == 0) ≡ false
      → change_layers meanings (held_options world) (breadcrumbs_came breadcrumbs) hub.stack ≡ add_under meanings
      (option_and_then (held_options world) hub.stack.top.client) breadcrumbs hub.stack
  came_by world breadcrumbs hub e =
      ap (λ (b : Bool). if b then hub.stack else add_under meanings
      (option_and_then (held_options world) hub.stack.top.client) breadcrumbs hub.stack) e

  came_none : (world : World P C) (breadcrumbs : List Breadcrumb) (hub : HubState P) → (length breadcrumbs == 0) ≡ true
      → change_layers meanings (held_options world) (breadcrumbs_came breadcrumbs) hub.stack ≡ hub.stack
  came_none world breadcrumbs hub e =
      ap (λ (b : Bool). if b then hub.stack else add_under meanings
      (option_and_then (held_options world) hub.stack.top.client) breadcrumbs hub.stack) e

  came_no_client : (world : World P C) (breadcrumbs : List Breadcrumb) (hub : HubState P) → (length breadcrumbs == 0) ≡ false
      → hub.stack.top.client ≡ None
      → change_layers meanings (held_options world) (breadcrumbs_came breadcrumbs) hub.stack ≡ hub.stack
  came_no_client world breadcrumbs hub e none =
      came_by world breadcrumbs hub e
      ∙ ap (λ (o : Option ClientKey). add_under meanings (option_and_then (held_options world) o)
      breadcrumbs hub.stack) none

  came_client : (world : World P C) (breadcrumbs : List Breadcrumb) (hub : HubState P) (key : ClientKey)
      (o : Option (ClientHistory C)) → (length breadcrumbs == 0) ≡ false → hub.stack.top.client ≡ Some key
      → client_at world key ≡ o
      → change_layers meanings (held_options world) (breadcrumbs_came breadcrumbs) hub.stack ≡ add_under meanings
      (option_map (λ (client : ClientHistory C). client.options) o) breadcrumbs hub.stack
  came_client world breadcrumbs hub key o e named_ held =
      came_by world breadcrumbs hub e
      ∙ (ap (λ (o : Option ClientKey). add_under meanings (option_and_then (held_options world) o)
      breadcrumbs hub.stack) named_
      ∙ ap (λ (o : Option (ClientHistory C)). add_under meanings (option_map (λ (client : ClientHistory C). client.options)
      o) breadcrumbs hub.stack) held)

  told_breadcrumbs : (key : HubKey) (breadcrumbs : List Breadcrumb) (world : World P C)
      → Told meanings None world (λ _. seen (hub_changed key.number (breadcrumbs_came breadcrumbs)) ∷ [])
      (add_breadcrumbs meanings key breadcrumbs world)
  unfolding add_breadcrumbs
  told_breadcrumbs key breadcrumbs world =
      told_some meanings None Stale (hub_at world key) (λ hub found.
      let here = found_hub key world hub found in
      told_if meanings None (length breadcrumbs == 0)
      (λ none. told_trail meanings None tt
      (one (leaves_hub world key.number hub (breadcrumbs_came breadcrumbs) here (came_none world breadcrumbs hub none)))
      refl refl) (λ some.
      told_let meanings None hub.stack.top.client
      (λ none. told_trail meanings None tt
      (one (leaves_hub world key.number hub (breadcrumbs_came breadcrumbs) here
      (came_no_client world breadcrumbs hub some none))) refl refl) (λ client_key named_.
      told_let_client meanings None (client_at world client_key) _ _
      (λ none. told_trail meanings None tt
      (one (leaves_hub world key.number hub (breadcrumbs_came breadcrumbs) here
      (came_client world breadcrumbs hub client_key None some named_ none))) refl refl) (λ client held.
      told_trail meanings None tt
      (one (changes_hub world key.number hub (with_breadcrumbs hub client.options.plain.max_breadcrumbs
      (call_on_each (meanings client.options.callbacks).before_breadcrumb breadcrumbs))
      (breadcrumbs_came breadcrumbs) here
      (sym (came_client world breadcrumbs hub client_key (Some client) some named_ held)) tt)) refl refl))))

  told_configure : (key : HubKey) (edits : List (ScopeEdit P)) (now : ℕ) (world : World P C)
      → Told meanings None world (λ _. seen (hub_changed key.number (scope_edited edits)) ∷ [])
      (hubs.configure key edits now world)
  unfolding hubs.configure
  told_configure key edits now world =
      told_some meanings None Stale (hub_at world key) (λ hub found.
      told_require meanings None Stale (all_name_held_spans (span_table world) edits) (λ active.
      let here = found_hub key world hub found in
      let renames = renames_after (span_table world) edits hub.stack.top.scope [] in
      told_if meanings None (list_any is_clear edits)
      (λ clears. told_named meanings None tt
      (quiet_names meanings (quiet_last meanings None (releases meanings key.number hub now world here).changes
      (changes_hub _ key.number (with_session hub None)
      (with_scope (with_session hub None) (edit_all edits hub.stack.top.scope)) (scope_edited edits)
      (found_released key.number hub now world here) refl
      (ap (λ t. all_name_held_spans t edits) (release_spans key.number hub now world) ∙ active))) renames) refl
      (λ n h. renamed_named renames _ (hub_replaced_named (release_session key.number hub now world).after key.number
      (with_session hub None) (with_scope (with_session hub None) (edit_all edits hub.stack.top.scope))
      (found_released key.number hub now world here) (λ k named. named)
      (all_released_named key.number hub now world here n h))) (λ n h. absurd cc))
      (λ keeps. told_trail meanings None tt
      (quiet_names meanings
      (one (changes_hub world key.number hub (with_scope hub (edit_all edits hub.stack.top.scope)) (scope_edited edits)
      here refl active)) renames) refl refl)))

  told_push : (key : HubKey) (world : World P C)
      → Told meanings None world (λ _. seen (hub_changed key.number layer_pushed) ∷ []) (layers.push_scope key world)
  unfolding layers.push_scope
  told_push key world =
      told_some meanings None Stale (hub_at world key) (λ hub found.
      told_trail meanings None _
      (one (changes_hub world key.number hub (with_stack hub (push hub.stack)) layer_pushed
      (found_hub key world hub found) refl tt)) refl refl)

  told_pop : (key : HubKey) (given now : ℕ) (world : World P C)
      → Told meanings None world (λ _. seen (hub_changed key.number layer_popped) ∷ [])
      (layers.pop_scope key given now world)
  unfolding layers.pop_scope pop
  told_pop key given now world =
      told_some meanings None Stale (hub_at world key) (λ hub found.
      let here = found_hub key world hub found in
      told_require meanings None OutOfOrder (depth hub.stack == given && nat_lt 0 given) (λ top.
      told_named meanings None tt (quiet_last meanings None (releases meanings key.number hub now world here).changes
      (changes_hub _ key.number (with_session hub None) (with_stack hub (pop hub.stack)) layer_popped
      (found_released key.number hub now world here)
      (sym (popped_same hub (above_ground (depth hub.stack) given top)))
      tt)) refl (popped_named key.number hub now world here) (λ n h. absurd cc)))

  told_release : (key : HubKey) (now : ℕ) (world : World P C)
      → Told meanings None world (λ _. seen (hub_released key.number) ∷ []) (layers.release_hub key now world)
  unfolding layers.release_hub
  told_release key now world =
      told_some meanings None Stale (hub_at world key) (λ hub found.
      told_require meanings None ScopesOpen (depth hub.stack == 0) (λ alone.
      told_named meanings None tt
      (quiet_last meanings None (releases meanings key.number hub now world (found_hub key world hub found)).changes
      (releases_hub _ key.number (with_session hub None)
      (found_released key.number hub now world (found_hub key world hub found))
      (none_below (depth hub.stack) alone))) refl
      (hub_released_named key.number hub now world (found_hub key world hub found)
      (none_below (depth hub.stack) alone)) (λ n h. absurd cc)))

  told_bind : (key : HubKey) (client : Option ClientKey) (world : World P C)
      → Told meanings None world (λ _. seen (hub_changed key.number (client_bound client)) ∷ [])
      (layers.bind_client key client world)
  unfolding layers.bind_client
  told_bind key client world =
      told_some meanings None Stale (hub_at world key) (λ hub found.
      told_require meanings None Stale (is_held_or_none world client) (λ held.
      told_trail meanings None tt
      (one (changes_hub world key.number hub (with_client hub client) (client_bound client)
      (found_hub key world hub found) refl held)) refl refl))

  -- ---- sessions

  begins_none : (key : HubKey) (fresh : Fresh) (world : World P C)
      → Told meanings None world (λ _. session_begun key.number fresh.uuid ∷ []) (reply_with {T = Unit {0}} tt [] world)
  begins_none key fresh world = told_named meanings None tt (one (starts_none world key.number fresh.uuid)) refl
      (λ n h. h) (λ n h. absurd cc)

  told_start : (key : HubKey) (fresh : Fresh) (world : World P C)
      → Told meanings None world (λ _. session_begun key.number fresh.uuid ∷ []) (sessions.start_session key fresh world)
  unfolding sessions.start_session
  told_start key fresh world =
      told_some meanings None Stale (hub_at world key) (λ hub found.
      told_let meanings None hub.stack.top.client (λ none. begins_none key fresh world) (λ client_key named_.
      told_let_client meanings None (client_at world client_key) _ _ (λ none. begins_none key fresh world)
      (λ client held.
      told_let meanings None (session_attributes client.options.plain) (λ none. begins_none key fresh world)
      (λ attributes is.
      let start = start_of client_key attributes hub.stack.top.scope.user fresh.uuid fresh.now in
      told_require meanings None Full (is_session_number_left world) (λ left.
      told_named meanings None tt (replaces meanings key.number hub fresh.now start world
      (found_hub key world hub found)).changes refl
      (replaced_named key.number hub fresh.now start world (found_hub key world hub found)) (λ n h. h))))))

  told_end : (key : HubKey) (status : SessionStatus) (now : ℕ) (world : World P C) → Told meanings None world quiet
      (sessions.end_session_with_status key status now world)
  unfolding sessions.end_session_with_status
  told_end key status now world =
      told_some meanings None Stale (hub_at world key) (λ hub found.
      told_let meanings None hub.stack.top.session (λ none. told_nothing meanings None _ refl) (λ session named_.
      told_sending meanings None tt (ends meanings session (Some status) now world) refl))

-- ---- every call

module _ {P C : Type 0} (gives : P → Partial) (meanings : C → Meanings) where
  told_client_step : (call : ClientCall P C) (world : World P C)
      → Told meanings (handed_in (group.Client call)) world (client_effects meanings call)
      (client_step gives meanings call world)
  unfolding client_step
  told_client_step (on_client.AddClient options transport label now) world =
      told_mapped meanings None _ reply.Client _ (told_add meanings options transport label now world)
  told_client_step (on_client.Options client) world =
      told_mapped meanings None _ reply.Options _ (told_options meanings client world)
  told_client_step (on_client.Dsn client) world =
      told_mapped meanings None _ reply.Dsn _ (told_dsn meanings client world)
  told_client_step (on_client.IsEnabled client) world =
      told_mapped meanings None _ reply.Decision _ (told_enabled meanings client world)
  told_client_step (on_client.SampleShouldSend rate draw) world =
      told_mapped meanings None _ reply.Decision _ (told_sample meanings rate draw world)
  told_client_step (on_client.PrepareEvent client event scope fresh) world =
      told_mapped meanings None _ reply.Prepared _ (told_prepare meanings gives client event scope fresh world)
  told_client_step (on_client.ClientCaptureEvent client event scope fresh) world =
      told_mapped meanings None _ reply.Event _ (told_client_capture meanings gives client event scope fresh world)
  told_client_step (on_client.SendEnvelope client envelope) world =
      told_mapped meanings (Some envelope) _ (λ _. reply.Done) _ (told_send meanings client envelope world)
  told_client_step (on_client.ClientCaptureLog client log scope) world =
      told_mapped meanings None _ (λ _. reply.Done) _ (told_client_log meanings client log scope world)
  told_client_step (on_client.ClientCaptureMetric client draft scope now) world =
      told_mapped meanings None _ (λ _. reply.Done) _ (told_client_metric meanings client draft scope now world)
  told_client_step (on_client.Flush client) world =
      told_mapped meanings None _ (λ _. reply.Done) _ (told_flush meanings client world)
  told_client_step (on_client.Tick client now) world =
      told_mapped meanings None _ (λ _. reply.Done) _ (told_tick meanings client now world)
  told_client_step (on_client.Close client) world =
      told_mapped meanings None _ (λ _. reply.Done) _ (told_close meanings client world)
  told_client_step (on_client.CloneClient client now) world =
      told_mapped meanings None _ reply.Client _ (told_clone meanings client now world)
  told_client_step (on_client.DropClient client) world =
      told_mapped meanings None _ (λ _. reply.Done) _ (told_drop meanings client world)
  told_client_step (on_client.TakeReport label) world =
      told_mapped meanings None _ reply.Report _ (told_take meanings label world)
  told_client_step (on_client.Absorb label lost) world =
      told_mapped meanings None _ (λ _. reply.Done) _ (told_absorb meanings label lost.quantities world)

  told_hub_step : (call : HubCall P) (world : World P C) → Told meanings None world (hub_effects {C = C} meanings call)
      (hub_step gives meanings call world)
  unfolding hub_step
  told_hub_step (on_hub.NewHub client scope) world =
      told_mapped meanings None _ reply.Hub _ (told_new meanings client scope world)
  told_hub_step (on_hub.Configure hub edits now) world =
      told_mapped meanings None _ (λ _. reply.Done) _ (told_configure meanings hub edits now world)
  told_hub_step (on_hub.AddBreadcrumbs hub breadcrumbs) world =
      told_mapped meanings None _ (λ _. reply.Done) _ (told_breadcrumbs meanings hub breadcrumbs world)
  told_hub_step (on_hub.CaptureEvent hub event fresh) world =
      told_mapped meanings None _ reply.Event _ (told_capture meanings gives hub event fresh world)
  told_hub_step (on_hub.CaptureMessage hub message level fresh) world =
      told_mapped meanings None _ reply.Event _ (told_message meanings gives hub message level fresh world)
  told_hub_step (on_hub.CaptureError hub links fresh) world =
      told_mapped meanings None _ reply.Event _ (told_error meanings gives hub links fresh world)
  told_hub_step (on_hub.CaptureLog hub log) world =
      told_mapped meanings None _ (λ _. reply.Done) _ (told_log meanings hub log world)
  told_hub_step (on_hub.CaptureMetric hub draft now) world =
      told_mapped meanings None _ (λ _. reply.Done) _ (told_metric meanings hub draft now world)
  told_hub_step (on_hub.LastEventId hub) world =
      told_mapped meanings None _ reply.LastEvent _ (told_last meanings hub world)
  told_hub_step (on_hub.Client hub) world =
      told_mapped meanings None _ reply.HubClient _ (told_hub_client meanings hub world)
  told_hub_step (on_hub.IsActive hub) world =
      told_mapped meanings None _ reply.Decision _ (told_active meanings hub world)
  told_hub_step (on_hub.Scope hub) world =
      told_mapped meanings None _ reply.Scope _ (told_scope meanings hub world)
  told_hub_step (on_hub.PushScope hub) world =
      told_mapped meanings None _ (λ made. reply.Depth made.1) _ (told_push meanings hub world)
  told_hub_step (on_hub.PopScope hub depth now) world =
      told_mapped meanings None _ (λ _. reply.Done) _ (told_pop meanings hub depth now world)
  told_hub_step (on_hub.NewHubFromTop hub) world =
      told_mapped meanings None _ reply.Hub _ (told_new_from meanings hub world)
  told_hub_step (on_hub.ReleaseHub hub now) world =
      told_mapped meanings None _ (λ _. reply.Done) _ (told_release meanings hub now world)
  told_hub_step (on_hub.BindClient hub client) world =
      told_mapped meanings None _ (λ _. reply.Done) _ (told_bind meanings hub client world)
  told_hub_step (on_hub.StartSession hub fresh) world =
      told_mapped meanings None _ (λ _. reply.Done) _ (told_start meanings hub fresh world)
  told_hub_step (on_hub.EndSessionWithStatus hub status now) world =
      told_mapped meanings None _ (λ _. reply.Done) _ (told_end meanings hub status now world)

  pub told_step : (call : Call P C) (world : World P C) → Told meanings (handed_in call) world (effects meanings call)
      (step gives meanings call world)
  told_step (group.Client call) world = told_client_step call world
  told_step (group.Hub call) world = told_hub_step call world
  told_step (group.Span call) world = told_mapped meanings None _ reply.Span _ (told_span_step meanings call world)
