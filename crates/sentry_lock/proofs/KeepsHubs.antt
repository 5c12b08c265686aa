-- What the calls on hubs leave of what the books absorbed.
use Rattle.std.proofs.Common.{refl, ℕ, Bool, true, false, List, []}
use Rattle.std.specs.Prelude.{Option, Some, None, if◌then◌else◌}
use Rattle.sentry_plain.specs.Texts.{Bytes}
use Rattle.sentry_base.specs.Callbacks.{Partial}
use Rattle.sentry_base.specs.declared.protocol.breadcrumb.Breadcrumb.{Breadcrumb}
use Rattle.sentry_base.specs.declared.protocol.error_link.ErrorLink.{ErrorLink}
use Rattle.sentry_base.specs.declared.protocol.event.Event.{Event}
use Rattle.sentry_base.specs.declared.protocol.fresh.Fresh.{Fresh}
use Rattle.sentry_base.specs.declared.protocol.keys.ClientKey.{ClientKey}
use Rattle.sentry_base.specs.declared.protocol.keys.HubKey.{HubKey}
use Rattle.sentry_base.specs.declared.protocol.level.Level.{Level}
use Rattle.sentry_base.specs.declared.protocol.log.Log.{Log}
use Rattle.sentry_base.specs.declared.protocol.metric.MetricDraft.{MetricDraft}
use Rattle.sentry_base.specs.declared.protocol.session.SessionStatus.{SessionStatus}
use Rattle.sentry_options.specs.Meanings.{Meanings}
use Rattle.sentry_scope.specs.declared.scope.Scope.{Scope}
use Rattle.sentry_scope.specs.declared.scope.edit.ScopeEdit.{ScopeEdit}
use Rattle.sentry_events.specs.Captures as captures
use Rattle.sentry_state.specs.Breadcrumbs.{add_breadcrumbs}
use Rattle.sentry_base.specs.declared.protocol.refusal.Refusal.TheVariants.{Stale}
use Rattle.sentry_hub_table.specs.declared.hub.HubState.{HubState}
use Rattle.sentry_state.specs.Clients.{is_enabled_client}
use Rattle.sentry_state.specs.Outcomes.{Outcome, hub_at, let_some, stored_client_at, reply_with, require_some}
use Rattle.sentry_state.specs.Worlds.{World}
use Rattle.sentry_state.specs.declared.state.ClientState.{ClientState}
use Rattle.sentry_calls.specs.Active.{if_active}
use Rattle.sentry_calls.specs.declared.call.Call.TheVariants as group
use Rattle.sentry_calls.specs.declared.call.hubs.HubCall.TheVariants as on_hub
use Rattle.sentry_calls.specs.Steps.{hub_step}
use Rattle.sentry_calls.specs.Hubs as hubs
use Rattle.sentry_calls.specs.Layers as layers
use Rattle.sentry_calls.specs.Sessions as sessions
use Rattle.sentry_calls.specs.Telemetry as telemetry
use Rattle.sentry_laws.proofs.Absorbed.{KeepsBooks, call_keeps, unchanged}

module _ {P C : Type 0} where
  client_active_keeps : (call : World P C → Outcome P C (Unit {0})) (world : World P C) (enabled : Bool) → KeepsBooks world.books (call world).after.books
      → KeepsBooks world.books (if enabled then call world else reply_with tt [] world).after.books
  client_active_keeps call world true keeps = keeps
  client_active_keeps call world false keeps = unchanged world.books

  layer_active_keeps : (call : World P C → Outcome P C (Unit {0})) (world : World P C) (client : Option (ClientState C)) → KeepsBooks world.books (call world).after.books
      → KeepsBooks world.books (let_some client (reply_with tt [] world) (λ c. if is_enabled_client c then call world else reply_with tt [] world)).after.books
  layer_active_keeps call world None keeps = unchanged world.books
  layer_active_keeps call world (Some client) keeps = client_active_keeps call world (is_enabled_client client) keeps

  top_active_keeps : (call : World P C → Outcome P C (Unit {0})) (world : World P C) (key : Option ClientKey) → KeepsBooks world.books (call world).after.books
      → KeepsBooks world.books (let_some key (reply_with tt [] world) (λ k.
      let_some (stored_client_at world k) (reply_with tt [] world) (λ c. if is_enabled_client c then call world else reply_with tt [] world))).after.books
  top_active_keeps call world None keeps = unchanged world.books
  top_active_keeps call world (Some key) keeps = layer_active_keeps call world (stored_client_at world key) keeps

  hub_active_keeps : (call : World P C → Outcome P C (Unit {0})) (world : World P C) (hub : Option (HubState P)) → KeepsBooks world.books (call world).after.books
      → KeepsBooks world.books (require_some Stale world hub (λ h. let_some h.stack.top.client (reply_with tt [] world) (λ k.
      let_some (stored_client_at world k) (reply_with tt [] world) (λ c. if is_enabled_client c then call world else reply_with tt [] world)))).after.books
  hub_active_keeps call world None keeps = unchanged world.books
  hub_active_keeps call world (Some hub) keeps = top_active_keeps call world hub.stack.top.client keeps

  -- a call that is made only on an active hub
  pub if_active_keeps : (hub : HubKey) (call : World P C → Outcome P C (Unit {0})) (world : World P C) → KeepsBooks world.books (call world).after.books
      → KeepsBooks world.books (if_active hub call world).after.books
  if_active_keeps hub call world keeps = hub_active_keeps call world (hub_at world hub) keeps

module _ {P C : Type 0} (gives : P → Partial) (meanings : C → Meanings) where
  pub capture_event_keeps : (hub : HubKey) (event : Event) (fresh : Fresh) (world : World P C)
      → KeepsBooks world.books (captures.capture_event gives meanings hub event fresh world).after.books
  unfolding hub_step
  capture_event_keeps hub event fresh world =
      call_keeps gives meanings (group.Hub (on_hub.CaptureEvent hub event fresh)) world refl

  pub capture_message_keeps : (hub : HubKey) (message : Bytes) (level : Level) (fresh : Fresh) (world : World P C)
      → KeepsBooks world.books (hubs.capture_message gives meanings hub message level fresh world).after.books
  unfolding hub_step
  capture_message_keeps hub message level fresh world =
      call_keeps gives meanings (group.Hub (on_hub.CaptureMessage hub message level fresh)) world refl

  pub capture_error_keeps : (hub : HubKey) (links : List ErrorLink) (fresh : Fresh) (world : World P C)
      → KeepsBooks world.books (hubs.capture_error gives meanings hub links fresh world).after.books
  unfolding hub_step
  capture_error_keeps hub links fresh world =
      call_keeps gives meanings (group.Hub (on_hub.CaptureError hub links fresh)) world refl

  pub capture_log_keeps : (hub : HubKey) (log : Log) (world : World P C)
      → KeepsBooks world.books (telemetry.capture_log meanings hub log world).after.books
  unfolding hub_step
  capture_log_keeps hub log world =
      call_keeps gives meanings (group.Hub (on_hub.CaptureLog hub log)) world refl

  pub capture_metric_keeps : (hub : HubKey) (draft : MetricDraft) (now : ℕ) (world : World P C)
      → KeepsBooks world.books (telemetry.capture_metric meanings hub draft now world).after.books
  unfolding hub_step
  capture_metric_keeps hub draft now world =
      call_keeps gives meanings (group.Hub (on_hub.CaptureMetric hub draft now)) world refl

  pub configure_keeps : (hub : HubKey) (edits : List (ScopeEdit P)) (now : ℕ) (world : World P C)
      → KeepsBooks world.books (hubs.configure hub edits now world).after.books
  unfolding hub_step
  configure_keeps hub edits now world =
      call_keeps gives meanings (group.Hub (on_hub.Configure hub edits now)) world refl

  pub start_session_keeps : (hub : HubKey) (fresh : Fresh) (world : World P C)
      → KeepsBooks world.books (sessions.start_session hub fresh world).after.books
  unfolding hub_step
  start_session_keeps hub fresh world =
      call_keeps gives meanings (group.Hub (on_hub.StartSession hub fresh)) world refl

  pub end_session_with_status_keeps : (hub : HubKey) (status : SessionStatus) (now : ℕ) (world : World P C)
      → KeepsBooks world.books (sessions.end_session_with_status hub status now world).after.books
  unfolding hub_step
  end_session_with_status_keeps hub status now world =
      call_keeps gives meanings (group.Hub (on_hub.EndSessionWithStatus hub status now)) world refl

  pub release_hub_keeps : (hub : HubKey) (now : ℕ) (world : World P C)
      → KeepsBooks world.books (layers.release_hub hub now world).after.books
  unfolding hub_step
  release_hub_keeps hub now world =
      call_keeps gives meanings (group.Hub (on_hub.ReleaseHub hub now)) world refl

  pub add_breadcrumbs_keeps : (hub : HubKey) (breadcrumbs : List Breadcrumb) (world : World P C)
      → KeepsBooks world.books (add_breadcrumbs meanings hub breadcrumbs world).after.books
  unfolding hub_step
  add_breadcrumbs_keeps hub breadcrumbs world =
      call_keeps gives meanings (group.Hub (on_hub.AddBreadcrumbs hub breadcrumbs)) world refl

  pub new_hub_keeps : (client : Option ClientKey) (scope : Scope P) (world : World P C)
      → KeepsBooks world.books (hubs.new_hub client scope world).after.books
  unfolding hub_step
  new_hub_keeps client scope world =
      call_keeps gives meanings (group.Hub (on_hub.NewHub client scope)) world refl

  pub new_hub_from_top_keeps : (hub : HubKey) (world : World P C)
      → KeepsBooks world.books (layers.new_hub_from_top hub world).after.books
  unfolding hub_step
  new_hub_from_top_keeps hub world =
      call_keeps gives meanings (group.Hub (on_hub.NewHubFromTop hub)) world refl

  pub bind_client_keeps : (hub : HubKey) (client : Option ClientKey) (world : World P C)
      → KeepsBooks world.books (layers.bind_client hub client world).after.books
  unfolding hub_step
  bind_client_keeps hub client world =
      call_keeps gives meanings (group.Hub (on_hub.BindClient hub client)) world refl
