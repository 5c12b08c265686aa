-- What the calls that the lock makes leave of what the books absorbed.
use Rattle.std.proofs.Common.{◌≡◌, refl, ℕ, true}
use Rattle.std.specs.Prelude.{Option}
use Rattle.sentry_base.specs.Callbacks.{Partial}
use Rattle.sentry_base.specs.declared.protocol.envelope.Envelope.{Envelope}
use Rattle.sentry_base.specs.declared.protocol.event.Event.{Event}
use Rattle.sentry_base.specs.declared.protocol.fresh.Fresh.{Fresh}
use Rattle.sentry_base.specs.declared.protocol.keys.ClientKey.{ClientKey}
use Rattle.sentry_base.specs.declared.protocol.keys.HubKey.{HubKey}
use Rattle.sentry_base.specs.declared.protocol.keys.Label.{Label}
use Rattle.sentry_base.specs.declared.protocol.log.Log.{Log}
use Rattle.sentry_base.specs.declared.protocol.metric.MetricDraft.{MetricDraft}
use Rattle.sentry_options.specs.Meanings.{Meanings}
use Rattle.sentry_scope.specs.declared.scope.Scope.{Scope}
use Rattle.sentry_state.specs.Worlds.{World}
use Rattle.sentry_calls.specs.declared.call.Call.{Call}
use Rattle.sentry_calls.specs.declared.call.Call.TheVariants as group
use Rattle.sentry_calls.specs.declared.call.clients.ClientCall.{ClientCall}
use Rattle.sentry_calls.specs.declared.call.clients.ClientCall.TheVariants as on_client
use Rattle.sentry_calls.specs.declared.call.hubs.HubCall.TheVariants as on_hub
use Rattle.sentry_calls.specs.Steps.{client_step, hub_step, step}
use Rattle.sentry_calls.specs.Clients as clients
use Rattle.sentry_calls.specs.Layers as layers
use Rattle.sentry_calls.specs.Losses as losses
use Rattle.sentry_calls.specs.Telemetry as telemetry
use Rattle.sentry_laws.specs.Losses.{leaves_absorbed}
use Rattle.sentry_laws.proofs.Absorbed.{KeepsBooks, call_keeps}
use Rattle.sentry_lock.specs.ValueCalls.{is_ordinary_client_call, is_ordinary_call}

module _ {P C : Type 0} where
  ordinary_client_leaves : (call : ClientCall P C) → is_ordinary_client_call call ≡ true
      → leaves_absorbed (group.Client call) ≡ true
  ordinary_client_leaves (on_client.AddClient options transport label now) h = absurd cc
  ordinary_client_leaves (on_client.Absorb label lost) h = absurd cc
  ordinary_client_leaves call h = refl

  ordinary_leaves : (call : Call P C) → is_ordinary_call call ≡ true → leaves_absorbed call ≡ true
  ordinary_leaves (group.Client call) h = ordinary_client_leaves call h
  ordinary_leaves (group.Hub call) h = refl
  ordinary_leaves (group.Span call) h = refl

module _ {P C : Type 0} (gives : P → Partial) (meanings : C → Meanings) where
  pub ordinary_keeps : (call : Call P C) → is_ordinary_call call ≡ true → (world : World P C)
      → KeepsBooks world.books (step gives meanings call world).after.books
  ordinary_keeps call ordinary world = call_keeps gives meanings call world (ordinary_leaves call ordinary)

  pub flush_keeps : (client : ClientKey) (world : World P C)
      → KeepsBooks world.books (clients.flush client world).after.books
  unfolding client_step
  flush_keeps client world = call_keeps gives meanings (group.Client (on_client.Flush client)) world refl

  pub tick_keeps : (client : ClientKey) (now : ℕ) (world : World P C)
      → KeepsBooks world.books (clients.tick client now world).after.books
  unfolding client_step
  tick_keeps client now world = call_keeps gives meanings (group.Client (on_client.Tick client now)) world refl

  pub send_envelope_keeps : (client : ClientKey) (envelope : Envelope) (world : World P C)
      → KeepsBooks world.books (clients.send_envelope client envelope world).after.books
  unfolding client_step
  send_envelope_keeps client envelope world =
      call_keeps gives meanings (group.Client (on_client.SendEnvelope client envelope)) world refl

  pub clone_client_keeps : (client : ClientKey) (now : ℕ) (world : World P C)
      → KeepsBooks world.books (clients.clone_client client now world).after.books
  unfolding client_step
  clone_client_keeps client now world =
      call_keeps gives meanings (group.Client (on_client.CloneClient client now)) world refl

  pub drop_client_keeps : (client : ClientKey) (world : World P C)
      → KeepsBooks world.books (clients.drop_client client world).after.books
  unfolding client_step
  drop_client_keeps client world = call_keeps gives meanings (group.Client (on_client.DropClient client)) world refl

  pub close_keeps : (client : ClientKey) (world : World P C)
      → KeepsBooks world.books (clients.close client world).after.books
  unfolding client_step
  close_keeps client world = call_keeps gives meanings (group.Client (on_client.Close client)) world refl

  pub take_report_keeps : (label : Label) (world : World P C)
      → KeepsBooks world.books (losses.take_report label world).after.books
  unfolding client_step
  take_report_keeps label world = call_keeps gives meanings (group.Client (on_client.TakeReport label)) world refl

  pub prepare_event_keeps : (client : ClientKey) (event : Event) (scope : Option (Scope P)) (fresh : Fresh)
      (world : World P C)
      → KeepsBooks world.books (clients.prepare_event gives meanings client event scope fresh world).after.books
  unfolding client_step
  prepare_event_keeps client event scope fresh world =
      call_keeps gives meanings (group.Client (on_client.PrepareEvent client event scope fresh)) world refl

  pub capture_event_keeps : (client : ClientKey) (event : Event) (scope : Option (Scope P)) (fresh : Fresh)
      (world : World P C)
      → KeepsBooks world.books (clients.client_capture_event gives meanings client event scope fresh world).after.books
  unfolding client_step
  capture_event_keeps client event scope fresh world =
      call_keeps gives meanings (group.Client (on_client.ClientCaptureEvent client event scope fresh)) world refl

  pub capture_log_keeps : (client : ClientKey) (log : Log) (scope : Scope P) (world : World P C)
      → KeepsBooks world.books (telemetry.client_capture_log meanings client log scope world).after.books
  unfolding client_step
  capture_log_keeps client log scope world =
      call_keeps gives meanings (group.Client (on_client.ClientCaptureLog client log scope)) world refl

  pub capture_metric_keeps : (client : ClientKey) (draft : MetricDraft) (scope : Scope P) (now : ℕ) (world : World P C)
      → KeepsBooks world.books (telemetry.client_capture_metric meanings client draft scope now world).after.books
  unfolding client_step
  capture_metric_keeps client draft scope now world =
      call_keeps gives meanings (group.Client (on_client.ClientCaptureMetric client draft scope now)) world refl

  pub push_scope_keeps : (hub : HubKey) (world : World P C)
      → KeepsBooks world.books (layers.push_scope hub world).after.books
  unfolding hub_step
  push_scope_keeps hub world = call_keeps gives meanings (group.Hub (on_hub.PushScope hub)) world refl

  pub pop_scope_keeps : (hub : HubKey) (depth now : ℕ) (world : World P C)
      → KeepsBooks world.books (layers.pop_scope hub depth now world).after.books
  unfolding hub_step
  pop_scope_keeps hub depth now world = call_keeps gives meanings (group.Hub (on_hub.PopScope hub depth now)) world refl
