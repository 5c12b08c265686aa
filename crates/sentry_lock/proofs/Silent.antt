-- A call that can't hand out envelopes sends nothing.
use mathlib.Core.HLevel.{⊥_prop}
use mathlib.Core.Logic.{∥∥₁_elim, ∥∥₁_map}
use Rattle.std.proofs.Common.{◌≡◌, refl, ap, ◌∙◌, sym, List, [], ◌∷◌, Bool, true, false, cond}
use Rattle.std.specs.Prelude.{Option, Some, None, Result, Ok, Err, IfOk, not, nat_lt, length, ◌==◌, ◌-◌, ◌^◌}
use Rattle.std.specs.Option.{is_some}
use Rattle.sentry_base.specs.Callbacks.{Partial}
use Rattle.sentry_base.specs.declared.protocol.breadcrumb.Breadcrumb.{Breadcrumb}
use Rattle.sentry_base.specs.declared.protocol.keys.HubKey.{HubKey}
use Rattle.sentry_base.specs.declared.protocol.keys.TransactionOrSpanKey.{TransactionOrSpanKey}
use Rattle.sentry_base.specs.declared.protocol.keys.TransactionOrSpanKey.TheVariants as key_of
use Rattle.sentry_base.specs.declared.protocol.refusal.Refusal.{Refusal}
use Rattle.sentry_base.specs.declared.protocol.refusal.Refusal.TheVariants.{ForeignLosses, Full, Stale, StillNamed}
use Rattle.sentry_options.specs.Meanings.{Meanings}
use Rattle.sentry_calls.specs.SpanCalls.{span_step}
use Rattle.sentry_calls.specs.Replies.{map_answer, map_reply}
use Rattle.sentry_calls.specs.declared.call.spans.records.SpanCall.{SpanCall}
use Rattle.sentry_calls.specs.declared.call.spans.records.SpanCall.TheVariants as on_span
use Rattle.sentry_calls.specs.declared.call.spans.records.SpanReply.{SpanReply}
use Rattle.sentry_spans.specs.Discards.{discard, is_active_on}
use Rattle.sentry_span_edits.specs.Reads.{get_status, read_data, is_sampled, get_span_id, get_trace_context, iter_headers}
use Rattle.sentry_span_edits.specs.Setters.{change}
use Rattle.sentry_span_edits.specs.declared.edit.SpanEdit.{SpanEdit}
use Rattle.sentry_span_table.specs.SpanTables.{has_span_of, is_held, place_in}
use Rattle.sentry_spans.specs.Spans as spans
use Rattle.sentry_state.specs.Books.{has_book}
use Rattle.sentry_state.specs.Breadcrumbs.{add_breadcrumbs}
use Rattle.sentry_state.specs.Outcomes.{Outcome, Need, DoesWith, client_at, hub_at, is_held_or_none, let_some, stored_client_at, stored_transaction_at, refuse, reply_with, require, require_some, span_at}
use Rattle.sentry_state.specs.Worlds.{World, span_table}
use Rattle.sentry_state.specs.declared.state.Out.{Out}
use Rattle.sentry_state.specs.declared.state.State.{State}
use Rattle.sentry_trace.specs.declared.performance.context.TransactionContext.{TransactionContext}
use Rattle.sentry_calls.specs.Clients as clients
use Rattle.sentry_calls.specs.Hubs as hubs
use Rattle.sentry_calls.specs.Layers as layers
use Rattle.sentry_calls.specs.Losses as losses
use Rattle.sentry_calls.specs.Steps.{client_step, hub_step, step}
use Rattle.sentry_calls.specs.declared.call.Call.{Call}
use Rattle.sentry_calls.specs.declared.call.Call.TheVariants as group
use Rattle.sentry_calls.specs.declared.call.Reply.{Reply}
use Rattle.sentry_calls.specs.declared.call.clients.ClientCall.{ClientCall}
use Rattle.sentry_calls.specs.declared.call.clients.ClientCall.TheVariants as on_client
use Rattle.sentry_calls.specs.declared.call.hubs.HubCall.{HubCall}
use Rattle.sentry_calls.specs.declared.call.hubs.HubCall.TheVariants as on_hub
use Rattle.sentry_lock.specs.Locked.{IsSound}
use Rattle.sentry_lock.specs.ValueCalls.{can_hand_out, client_call_can_hand_out, hub_call_can_hand_out, span_call_can_hand_out}
use Rattle.sentry_lock.specs.Words.{Drainers}

nothing_sent : {X : Type 0} (sent : List X) → ∥ (sent ≡ []) ∥₁ → sent ≡ []
nothing_sent [] none = refl
nothing_sent (x ∷ xs) none = absurd (∥∥₁_elim none ⊥_prop (λ e. cc))

-- what it replies comes with no envelopes
record IsSilent {P C T : Type 0} (outcome : Outcome P C T) : Type 0 where
  nothing : (out : Out T) → outcome.answer ≡ Ok out → out.sent ≡ []

module _ {P C T : Type 0} where
  silent_reply : (reply : T) (world : World P C) → IsSilent (reply_with reply [] world)
  silent_reply reply world = record {
    nothing = λ out e.
        let same : record { reply = reply; sent = [] } ≡ out = cc in sym (ap (λ (o : Out T). o.sent) same);
  }

  silent_refusal : (refusal : Refusal) (world : World P C) → IsSilent {T = T} (refuse refusal world)
  silent_refusal refusal world = record { nothing = λ out e. absurd cc }

  silent_require : (refusal : Refusal) (world : World P C) (b : Bool) (go : Outcome P C T) → IsSilent go
      → IsSilent (require refusal world b go)
  silent_require refusal world true go silent = silent
  silent_require refusal world false go silent = silent_refusal refusal world

  silent_some : {X : Type 0} (refusal : Refusal) (world : World P C) (o : Option X) (go : X → Outcome P C T)
      → ((x : X) → IsSilent (go x)) → IsSilent (require_some refusal world o go)
  silent_some refusal world None go silent = silent_refusal refusal world
  silent_some refusal world (Some x) go silent = silent x

  silent_let : {X : Type 0} (o : Option X) (otherwise : Outcome P C T) (go : X → Outcome P C T) → IsSilent otherwise
      → ((x : X) → IsSilent (go x)) → IsSilent (let_some o otherwise go)
  silent_let None otherwise go other silent = other
  silent_let (Some x) otherwise go other silent = silent x

  silent_cond : (b : Bool) (one other : Outcome P C T) → IsSilent one → IsSilent other → IsSilent (cond b one other)
  silent_cond true one other is or = is
  silent_cond false one other is or = or

module _ {T U : Type 0} (f : T → U) where
  mapped-at : (answer : Result (Out T) Refusal) → ((out : Out T) → answer ≡ Ok out → out.sent ≡ [])
      → (out : Out U) → map_answer f answer ≡ Ok out → out.sent ≡ []
  mapped-at (Ok inner) silent out e =
      let same : record { reply = f inner.reply; sent = inner.sent } ≡ out = cc in
      sym (ap (λ (o : Out U). o.sent) same) ∙ silent inner refl
  mapped-at (Err refusal) silent out e = absurd cc

  silent_mapped : {P C : Type 0} (outcome : Outcome P C T) → IsSilent outcome → IsSilent (map_reply f outcome)
  silent_mapped outcome silent = record { nothing = mapped-at outcome.answer silent.nothing }

-- ---- spans

module _ {P C : Type 0} (meanings : C → Meanings) where
  silent_change : (by : SpanEdit) (span : TransactionOrSpanKey) (world : World P C) → IsSilent (change by span world)
  unfolding change
  silent_change by (key_of.Transaction key) world = silent_some _ _ _ _ (λ held. silent_reply _ _)
  silent_change by (key_of.Span key) world = silent_some _ _ _ _ (λ held. silent_reply _ _)

  silent_discard : (span : TransactionOrSpanKey) (world : World P C) → IsSilent (discard span world)
  unfolding discard
  silent_discard (key_of.Transaction key) world =
      silent_some Stale world (stored_transaction_at world key) _ (λ held.
      silent_require StillNamed world (not (is_active_on (key_of.Transaction key) world.hubs)) _
      (silent_require StillNamed world (not (has_span_of (span_table world) key)) _ (silent_reply _ _)))
  silent_discard (key_of.Span key) world =
      silent_some Stale world (span_at world key) _ (λ held.
      silent_require StillNamed world (not (is_active_on (key_of.Span key) world.hubs)) _ (silent_reply _ _))

  silent_status : (span : TransactionOrSpanKey) (world : World P C) → IsSilent (get_status span world)
  unfolding get_status
  silent_status (key_of.Transaction key) world = silent_some _ _ _ _ (λ held. silent_reply _ _)
  silent_status (key_of.Span key) world = silent_some _ _ _ _ (λ held. silent_reply _ _)

  silent_data : (span : TransactionOrSpanKey) (world : World P C) → IsSilent (read_data span world)
  unfolding read_data
  silent_data (key_of.Transaction key) world = silent_some _ _ _ _ (λ held. silent_reply _ _)
  silent_data (key_of.Span key) world = silent_some _ _ _ _ (λ held. silent_reply _ _)

  silent_sampled : (span : TransactionOrSpanKey) (world : World P C) → IsSilent (is_sampled span world)
  unfolding is_sampled
  silent_sampled (key_of.Transaction key) world = silent_some _ _ _ _ (λ held. silent_reply _ _)
  silent_sampled (key_of.Span key) world = silent_some _ _ _ _ (λ held. silent_reply _ _)

  silent_context : (span : TransactionOrSpanKey) (world : World P C) → IsSilent (get_trace_context span world)
  unfolding get_trace_context
  silent_context (key_of.Transaction key) world = silent_some _ _ _ _ (λ held. silent_reply _ _)
  silent_context (key_of.Span key) world =
      silent_some Stale world (span_at world key) _ (λ held.
      silent_some Stale world (stored_transaction_at world held.transaction) _ (λ kept. silent_reply _ _))

  span_silent : (call : SpanCall) → span_call_can_hand_out call ≡ false → (world : World P C)
      → IsSilent (span_step meanings call world)
  unfolding span_step spans.start_transaction_with_timestamp spans.start_child_with_details spans.continue_from_span spans.finish_span get_span_id iter_headers
  span_silent (on_span.StartTransaction hub context fresh) h world =
      silent_mapped _ _ (silent_some Stale world (hub_at world hub) _ (λ held.
      silent_require Full world (spans.is_transaction_number_left world) _ (silent_reply _ _)))
  span_silent (on_span.StartTransactionWithTimestamp hub context start fresh) h world =
      silent_mapped _ _ (silent_some Stale world (hub_at world hub) _ (λ held.
      silent_require Full world (spans.is_transaction_number_left world) _ (silent_reply _ _)))
  span_silent (on_span.StartChild parent op description fresh) h world =
      silent_mapped _ _ (silent_some Stale world (place_in (span_table world) parent) _ (λ place.
      silent_require Full world (spans.is_span_number_left world) _ (silent_reply _ _)))
  span_silent (on_span.StartChildWithDetails parent op description id start) h world =
      silent_mapped _ _ (silent_some Stale world (place_in (span_table world) parent) _ (λ place.
      silent_require Full world (spans.is_span_number_left world) _ (silent_reply _ _)))
  span_silent (on_span.ContinueFromSpan name op None fresh) h world =
      silent_mapped {T = TransactionContext} SpanReply.Context (spans.continue_from_span name op None fresh world)
      (silent_reply _ _)
  span_silent (on_span.ContinueFromSpan name op (Some key) fresh) h world =
      silent_mapped _ _ (silent_some _ _ _ _ (λ place. silent_reply _ _))
  span_silent (on_span.SetData span key value) h world = silent_mapped _ _ (silent_change _ _ _)
  span_silent (on_span.SetTag span key value) h world = silent_mapped _ _ (silent_change _ _ _)
  span_silent (on_span.SetExtra transaction key value) h world = silent_mapped _ _ (silent_change _ _ _)
  span_silent (on_span.SetStatus span status) h world = silent_mapped _ _ (silent_change _ _ _)
  span_silent (on_span.SetOp span op) h world = silent_mapped _ _ (silent_change _ _ _)
  span_silent (on_span.SetName span name) h world = silent_mapped _ _ (silent_change _ _ _)
  span_silent (on_span.SetRequest span request) h world = silent_mapped _ _ (silent_change _ _ _)
  span_silent (on_span.SetOrigin transaction origin) h world = silent_mapped _ _ (silent_change _ _ _)
  span_silent (on_span.GetStatus span) h world = silent_mapped _ _ (silent_status _ _)
  span_silent (on_span.GetTraceContext span) h world = silent_mapped _ _ (silent_context _ _)
  span_silent (on_span.GetSpanId span) h world = silent_mapped _ _ (silent_some _ _ _ _ (λ held. silent_reply _ _))
  span_silent (on_span.Data span) h world = silent_mapped _ _ (silent_data _ _)
  span_silent (on_span.IterHeaders span) h world = silent_mapped _ _ (silent_some _ _ _ _ (λ place. silent_reply _ _))
  span_silent (on_span.IsSampled span) h world = silent_mapped _ _ (silent_sampled _ _)
  span_silent (on_span.FinishTransaction transaction hub moment) h world = absurd cc
  span_silent (on_span.FinishSpan span moment) h world =
      silent_mapped _ _ (silent_some Stale world (span_at world span) _ (λ held.
      silent_cond (is_some held.span.timestamp) _ _ (silent_reply _ _) (silent_reply _ _)))
  span_silent (on_span.Discard span) h world = silent_mapped _ _ (silent_discard _ _)

-- ---- clients and hubs

module _ {P C : Type 0} (gives : P → Partial) (meanings : C → Meanings) where
  client_silent : (call : ClientCall P C) → client_call_can_hand_out call ≡ false → (world : World P C)
      → IsSilent (client_step gives meanings call world)
  unfolding client_step clients.options clients.dsn clients.is_enabled clients.sample_should_send clients.prepare_event clients.clone_client losses.take_report
  client_silent (on_client.Options client) h world = silent_mapped _ _ (silent_some _ _ _ _ (λ held. silent_reply _ _))
  client_silent (on_client.Dsn client) h world = silent_mapped _ _ (silent_some _ _ _ _ (λ held. silent_reply _ _))
  client_silent (on_client.IsEnabled client) h world =
      silent_mapped _ _ (silent_some _ _ _ _ (λ held. silent_reply _ _))
  client_silent (on_client.SampleShouldSend rate draw) h world =
      silent_mapped {T = Bool} Reply.Decision (clients.sample_should_send rate draw world) (silent_reply _ _)
  client_silent (on_client.PrepareEvent client event scope fresh) h world =
      silent_mapped _ _ (silent_some Stale world (stored_client_at world client) _ (λ held.
      silent_require Stale world (clients.holds_active_span world scope) _ (silent_reply _ _)))
  client_silent (on_client.CloneClient client now) h world =
      silent_mapped _ _ (silent_some Stale world (client_at world client) _ (λ held.
      silent_require Full world (nat_lt world.next.client (2 ^ 64 - 1)) _ (silent_reply _ _)))
  client_silent (on_client.TakeReport label) h world =
      silent_mapped _ _ (silent_require ForeignLosses world (has_book world label) _ (silent_reply _ _))
  client_silent (on_client.AddClient options transport label now) h world = absurd cc
  client_silent (on_client.ClientCaptureEvent client event scope fresh) h world = absurd cc
  client_silent (on_client.SendEnvelope client envelope) h world = absurd cc
  client_silent (on_client.ClientCaptureLog client log scope) h world = absurd cc
  client_silent (on_client.ClientCaptureMetric client draft scope now) h world = absurd cc
  client_silent (on_client.Flush client) h world = absurd cc
  client_silent (on_client.Tick client now) h world = absurd cc
  client_silent (on_client.Close client) h world = absurd cc
  client_silent (on_client.DropClient client) h world = absurd cc
  client_silent (on_client.Absorb label lost) h world = absurd cc

  silent_breadcrumbs : (hub : HubKey) (breadcrumbs : List Breadcrumb) (world : World P C)
      → IsSilent (add_breadcrumbs meanings hub breadcrumbs world)
  unfolding add_breadcrumbs
  silent_breadcrumbs hub breadcrumbs world =
      silent_some Stale world (hub_at world hub) _ (λ held.
      silent_cond (length breadcrumbs == 0) _ _ (silent_reply _ _)
      (silent_let held.stack.top.client _ _ (silent_reply _ _) (λ key.
      silent_let (stored_client_at world key) _ _ (silent_reply _ _) (λ client. silent_reply _ _))))

  hub_silent : (call : HubCall P) → hub_call_can_hand_out call ≡ false → (world : World P C)
      → IsSilent (hub_step gives meanings call world)
  unfolding hub_step hubs.new_hub hubs.last_event_id hubs.client hubs.is_active hubs.scope layers.push_scope layers.new_hub_from_top layers.bind_client
  hub_silent (on_hub.NewHub client scope) h world =
      silent_mapped _ _ (silent_require Stale world (is_held_or_none world client) _
      (silent_require Stale world (is_held (span_table world) scope.span) _
      (silent_require Full world (nat_lt world.next.hub (2 ^ 64 - 1)) _ (silent_reply _ _))))
  hub_silent (on_hub.AddBreadcrumbs hub breadcrumbs) h world = silent_mapped _ _ (silent_breadcrumbs _ _ _)
  hub_silent (on_hub.LastEventId hub) h world = silent_mapped _ _ (silent_some _ _ _ _ (λ held. silent_reply _ _))
  hub_silent (on_hub.Client hub) h world = silent_mapped _ _ (silent_some _ _ _ _ (λ held. silent_reply _ _))
  hub_silent (on_hub.IsActive hub) h world =
      silent_mapped _ _ (silent_some Stale world (hub_at world hub) _ (λ held.
      silent_let held.stack.top.client _ _ (silent_reply _ _) (λ key.
      silent_let (stored_client_at world key) _ _ (silent_reply _ _) (λ client. silent_reply _ _))))
  hub_silent (on_hub.Scope hub) h world = silent_mapped _ _ (silent_some _ _ _ _ (λ held. silent_reply _ _))
  hub_silent (on_hub.PushScope hub) h world = silent_mapped _ _ (silent_some _ _ _ _ (λ held. silent_reply _ _))
  hub_silent (on_hub.NewHubFromTop hub) h world =
      silent_mapped _ _ (silent_some Stale world (hub_at world hub) _ (λ held.
      silent_require Full world (nat_lt world.next.hub (2 ^ 64 - 1)) _ (silent_reply _ _)))
  hub_silent (on_hub.BindClient hub client) h world =
      silent_mapped _ _ (silent_some Stale world (hub_at world hub) _ (λ held.
      silent_require Stale world (is_held_or_none world client) _ (silent_reply _ _)))
  hub_silent (on_hub.Configure hub edits now) h world = absurd cc
  hub_silent (on_hub.CaptureEvent hub event fresh) h world = absurd cc
  hub_silent (on_hub.CaptureMessage hub message level fresh) h world = absurd cc
  hub_silent (on_hub.CaptureError hub links fresh) h world = absurd cc
  hub_silent (on_hub.CaptureLog hub log) h world = absurd cc
  hub_silent (on_hub.CaptureMetric hub draft now) h world = absurd cc
  hub_silent (on_hub.PopScope hub depth now) h world = absurd cc
  hub_silent (on_hub.ReleaseHub hub now) h world = absurd cc
  hub_silent (on_hub.StartSession hub fresh) h world = absurd cc
  hub_silent (on_hub.EndSessionWithStatus hub status now) h world = absurd cc

  step_silent : (call : Call P C) → can_hand_out call ≡ false → (world : World P C) → IsSilent (step gives meanings call world)
  step_silent (group.Client call) h world = client_silent call h world
  step_silent (group.Hub call) h world = hub_silent call h world
  step_silent (group.Span call) h world = silent_mapped _ _ (span_silent meanings call h world)

  -- what the engine answers to such a call
  pub sends_nothing : (need : Need) (call : Call P C) (old new : State P C) (result : Result (Out (Reply P C)) Refusal)
      (drainers : Drainers) → DoesWith need old new result (step gives meanings call) → ∥ IsSound old drainers ∥₁
      → IfOk result (λ out. can_hand_out call ≡ false → out.sent ≡ [])
  sends_nothing need call old new (Ok out) drainers does sound =
      λ silent. nothing_sent out.sent (∥∥₁_map sound (λ s. (step_silent call silent s.world).nothing out (does s.world s.stands).0))
  sends_nothing need call old new (Err refusal) drainers does sound = tt
