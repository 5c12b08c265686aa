-- The calls that the lock makes as values.
use Rattle.std.specs.Prelude.{Bool, true, false, Option, None}
use Rattle.std.specs.Option.{option_map}
use Rattle.sentry_base.specs.declared.protocol.keys.Label.{Label}
use Rattle.sentry_calls.specs.declared.call.Call.{Call}
use Rattle.sentry_calls.specs.declared.call.Call.TheVariants as group
use Rattle.sentry_calls.specs.declared.call.clients.ClientCall.{ClientCall}
use Rattle.sentry_calls.specs.declared.call.clients.ClientCall.TheVariants as on_client
use Rattle.sentry_calls.specs.declared.call.clients.ClientCall.TheVariants.{AddClient, Absorb, Flush, Close}
use Rattle.sentry_calls.specs.declared.call.hubs.HubCall.{HubCall}
use Rattle.sentry_calls.specs.declared.call.hubs.HubCall.TheVariants as on_hub
use Rattle.sentry_calls.specs.declared.call.spans.records.SpanCall.{SpanCall}
use Rattle.sentry_calls.specs.declared.call.spans.records.SpanCall.TheVariants as on_span
use Rattle.sentry_state.specs.Outcomes.{client_at}
use Rattle.sentry_state.specs.Worlds.{World}

-- the calls that can hand out envelopes: before each of them the losses of all labels are drained
abbrev pub hub_call_can_hand_out : {P : Type 0} → HubCall P → Bool
hub_call_can_hand_out (on_hub.NewHub client scope) = false
hub_call_can_hand_out (on_hub.AddBreadcrumbs hub breadcrumbs) = false
hub_call_can_hand_out (on_hub.LastEventId hub) = false
hub_call_can_hand_out (on_hub.Client hub) = false
hub_call_can_hand_out (on_hub.IsActive hub) = false
hub_call_can_hand_out (on_hub.Scope hub) = false
hub_call_can_hand_out (on_hub.PushScope hub) = false
hub_call_can_hand_out (on_hub.NewHubFromTop hub) = false
hub_call_can_hand_out (on_hub.BindClient hub client) = false
hub_call_can_hand_out call = true

abbrev pub span_call_can_hand_out : SpanCall → Bool
span_call_can_hand_out (on_span.FinishTransaction transaction hub moment) = true
span_call_can_hand_out call = false

module _ {P C : Type 0} where
  -- the lock adds clients, absorbs losses, flushes and closes by functions of their own
  abbrev pub is_ordinary_client_call : ClientCall P C → Bool
  is_ordinary_client_call (AddClient options transport label now) = false
  is_ordinary_client_call (Absorb label losses) = false
  is_ordinary_client_call (Flush client) = false
  is_ordinary_client_call (Close client) = false
  is_ordinary_client_call call = true

  abbrev pub is_ordinary_call : Call P C → Bool
  is_ordinary_call (group.Client call) = is_ordinary_client_call call
  is_ordinary_call (group.Hub call) = true
  is_ordinary_call (group.Span call) = true

  abbrev pub client_call_can_hand_out : ClientCall P C → Bool
  client_call_can_hand_out (on_client.Options client) = false
  client_call_can_hand_out (on_client.Dsn client) = false
  client_call_can_hand_out (on_client.IsEnabled client) = false
  client_call_can_hand_out (on_client.SampleShouldSend rate draw) = false
  client_call_can_hand_out (on_client.PrepareEvent client event scope fresh) = false
  client_call_can_hand_out (on_client.CloneClient client now) = false
  client_call_can_hand_out (on_client.TakeReport label) = false
  client_call_can_hand_out call = true

  abbrev pub can_hand_out : Call P C → Bool
  can_hand_out (group.Client call) = client_call_can_hand_out call
  can_hand_out (group.Hub call) = hub_call_can_hand_out call
  can_hand_out (group.Span call) = span_call_can_hand_out call

  -- the label of the client that a call drops
  abbrev pub label_dropped_by : ClientCall P C → World P C → Option Label
  label_dropped_by (on_client.DropClient client) world = option_map (λ held. held.label) (client_at world client)
  label_dropped_by call world = None

  abbrev pub dropped_label : Call P C → World P C → Option Label
  dropped_label (group.Client call) world = label_dropped_by call world
  dropped_label (group.Hub call) world = None
  dropped_label (group.Span call) world = None
