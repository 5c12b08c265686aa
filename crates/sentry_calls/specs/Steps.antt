-- One call: what it replies, hands out and leaves.
use Rattle.sentry_base.specs.Callbacks.{Partial}
use Rattle.sentry_options.specs.Meanings.{Meanings}
use Rattle.sentry_calls.specs.declared.call.Call.{Call}
use Rattle.sentry_calls.specs.declared.call.Call.TheVariants as group
use Rattle.sentry_calls.specs.declared.call.clients.ClientCall.{ClientCall}
use Rattle.sentry_calls.specs.declared.call.clients.ClientCall.TheVariants as on_client
use Rattle.sentry_calls.specs.declared.call.hubs.HubCall.{HubCall}
use Rattle.sentry_calls.specs.declared.call.hubs.HubCall.TheVariants as on_hub
use Rattle.sentry_calls.specs.declared.call.Reply.{Reply}
use Rattle.sentry_calls.specs.declared.call.Reply.TheVariants as reply
use Rattle.sentry_state.specs.Worlds.{World}
use Rattle.sentry_state.specs.Outcomes.{Outcome, Need, memory, nothing}
use Rattle.sentry_calls.specs.Clients as clients
use Rattle.sentry_calls.specs.Hubs as hubs
use Rattle.sentry_calls.specs.Layers as layers
use Rattle.sentry_calls.specs.Losses as losses
use Rattle.sentry_calls.specs.Sessions as sessions
use Rattle.sentry_calls.specs.Telemetry as telemetry
use Rattle.sentry_calls.specs.SpanCalls.{span_step}
use Rattle.sentry_calls.specs.SpanCalls as spans
use Rattle.sentry_calls.specs.Replies.{map_reply}
use Rattle.sentry_state.specs.Breadcrumbs.{add_breadcrumbs}
use Rattle.sentry_events.specs.Captures.{capture_event}

-- what a call on a hub may run out of
abbrev pub hub_needs : {P : Type 0} → HubCall P → Need
hub_needs (on_hub.LastEventId hub) = nothing
hub_needs (on_hub.Client hub) = nothing
hub_needs (on_hub.IsActive hub) = nothing
hub_needs (on_hub.BindClient hub client) = nothing
hub_needs call = memory

module _ {P C : Type 0} where
  -- what a call on a client may run out of
  abbrev pub client_needs : ClientCall P C → Need
  client_needs (on_client.IsEnabled client) = nothing
  client_needs (on_client.SampleShouldSend rate draw) = nothing
  client_needs (on_client.Absorb label losses) = nothing
  client_needs call = memory

  -- what a call may run out of
  abbrev pub needs : Call P C → Need
  needs (group.Client call) = client_needs call
  needs (group.Hub call) = hub_needs call
  needs (group.Span call) = spans.needs call

module _ {P C : Type 0} (gives : P → Partial) (meanings : C → Meanings) where
  -- what a call on a client replies, hands out and leaves
  unfoldable pub client_step : ClientCall P C → World P C → Outcome P C (Reply P C)
  client_step (on_client.AddClient options transport label now) world =
      map_reply reply.Client (clients.add_client meanings options transport label now world)
  client_step (on_client.Options client) world = map_reply reply.Options (clients.options client world)
  client_step (on_client.Dsn client) world = map_reply reply.Dsn (clients.dsn client world)
  client_step (on_client.IsEnabled client) world = map_reply reply.Decision (clients.is_enabled client world)
  client_step (on_client.SampleShouldSend rate draw) world =
      map_reply reply.Decision (clients.sample_should_send rate draw world)
  client_step (on_client.PrepareEvent client event scope fresh) world =
      map_reply reply.Prepared (clients.prepare_event gives meanings client event scope fresh world)
  client_step (on_client.ClientCaptureEvent client event scope fresh) world =
      map_reply reply.Event (clients.client_capture_event gives meanings client event scope fresh world)
  client_step (on_client.SendEnvelope client envelope) world =
      map_reply (λ _. reply.Done) (clients.send_envelope client envelope world)
  client_step (on_client.ClientCaptureLog client log scope) world =
      map_reply (λ _. reply.Done) (telemetry.client_capture_log meanings client log scope world)
  client_step (on_client.ClientCaptureMetric client draft scope now) world =
      map_reply (λ _. reply.Done) (telemetry.client_capture_metric meanings client draft scope now world)
  client_step (on_client.Flush client) world = map_reply (λ _. reply.Done) (clients.flush client world)
  client_step (on_client.Tick client now) world = map_reply (λ _. reply.Done) (clients.tick client now world)
  client_step (on_client.Close client) world = map_reply (λ _. reply.Done) (clients.close client world)
  client_step (on_client.CloneClient client now) world =
      map_reply reply.Client (clients.clone_client client now world)
  client_step (on_client.DropClient client) world = map_reply (λ _. reply.Done) (clients.drop_client client world)
  client_step (on_client.TakeReport label) world = map_reply reply.Report (losses.take_report label world)
  client_step (on_client.Absorb label lost) world =
      map_reply (λ _. reply.Done) (losses.absorb label lost.quantities world)

  -- what a call on a hub replies, hands out and leaves
  unfoldable pub hub_step : HubCall P → World P C → Outcome P C (Reply P C)
  hub_step (on_hub.NewHub client scope) world = map_reply reply.Hub (hubs.new_hub client scope world)
  hub_step (on_hub.Configure hub edits now) world = map_reply (λ _. reply.Done) (hubs.configure hub edits now world)
  hub_step (on_hub.AddBreadcrumbs hub breadcrumbs) world =
      map_reply (λ _. reply.Done) (add_breadcrumbs meanings hub breadcrumbs world)
  hub_step (on_hub.CaptureEvent hub event fresh) world =
      map_reply reply.Event (capture_event gives meanings hub event fresh world)
  hub_step (on_hub.CaptureMessage hub message level fresh) world =
      map_reply reply.Event (hubs.capture_message gives meanings hub message level fresh world)
  hub_step (on_hub.CaptureError hub links fresh) world =
      map_reply reply.Event (hubs.capture_error gives meanings hub links fresh world)
  hub_step (on_hub.CaptureLog hub log) world = map_reply (λ _. reply.Done) (telemetry.capture_log meanings hub log world)
  hub_step (on_hub.CaptureMetric hub draft now) world =
      map_reply (λ _. reply.Done) (telemetry.capture_metric meanings hub draft now world)
  hub_step (on_hub.LastEventId hub) world = map_reply reply.LastEvent (hubs.last_event_id hub world)
  hub_step (on_hub.Client hub) world = map_reply reply.HubClient (hubs.client hub world)
  hub_step (on_hub.IsActive hub) world = map_reply reply.Decision (hubs.is_active hub world)
  hub_step (on_hub.Scope hub) world = map_reply reply.Scope (hubs.scope hub world)
  hub_step (on_hub.PushScope hub) world = map_reply (λ pushed. reply.Depth pushed.1) (layers.push_scope hub world)
  hub_step (on_hub.PopScope hub depth now) world = map_reply (λ _. reply.Done) (layers.pop_scope hub depth now world)
  hub_step (on_hub.NewHubFromTop hub) world = map_reply reply.Hub (layers.new_hub_from_top hub world)
  hub_step (on_hub.ReleaseHub hub now) world = map_reply (λ _. reply.Done) (layers.release_hub hub now world)
  hub_step (on_hub.BindClient hub client) world = map_reply (λ _. reply.Done) (layers.bind_client hub client world)
  hub_step (on_hub.StartSession hub fresh) world = map_reply (λ _. reply.Done) (sessions.start_session hub fresh world)
  hub_step (on_hub.EndSessionWithStatus hub status now) world =
      map_reply (λ _. reply.Done) (sessions.end_session_with_status hub status now world)

  -- what a call replies, hands out and leaves
  abbrev pub step : Call P C → World P C → Outcome P C (Reply P C)
  step (group.Client call) world = client_step call world
  step (group.Hub call) world = hub_step call world
  step (group.Span call) world = map_reply reply.Span (span_step meanings call world)
