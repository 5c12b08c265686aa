-- What the calls on logs and metrics answer, hand out and leave.
use Rattle.std.specs.Prelude.{ℕ, []}
use Rattle.sentry_base.specs.declared.protocol.keys.ClientKey.{ClientKey}
use Rattle.sentry_base.specs.declared.protocol.keys.HubKey.{HubKey}
use Rattle.sentry_base.specs.declared.protocol.log.Log.{Log}
use Rattle.sentry_base.specs.declared.protocol.metric.MetricDraft.{MetricDraft}
use Rattle.sentry_base.specs.declared.protocol.refusal.Refusal.TheVariants.{Stale}
use Rattle.sentry_options.specs.Meanings.{Meanings}
use Rattle.sentry_scope.specs.declared.scope.Scope.{Scope}
use Rattle.sentry_span_table.specs.SpanTables.{is_held}
use Rattle.sentry_state.specs.Outcomes.{Outcome, require, require_some, let_some, reply_with, hub_at, stored_client_at}
use Rattle.sentry_sending.specs.Sending.{reply_sending}
use Rattle.sentry_state.specs.Worlds.{World, span_table}
use Rattle.sentry_telemetry.specs.Telemetry.{client_log, client_metric, keep_log, keep_metric}

module _ {P C : Type 0} where
  -- a log of a client, under a scope
  unfoldable pub client_capture_log : (C → Meanings) → ClientKey → Log → Scope P → World P C → Outcome P C (Unit {0})
  client_capture_log meanings key log scope world =
      require_some Stale world (stored_client_at world key) (λ client.
      require Stale world (is_held (span_table world) scope.span)
      (reply_sending tt
      (keep_log key client.label (client_log meanings (span_table world) client scope log) world)))

  -- a metric of a client, under a scope, at a moment
  unfoldable pub client_capture_metric : (C → Meanings) → ClientKey → MetricDraft → Scope P → ℕ → World P C
      → Outcome P C (Unit {0})
  client_capture_metric meanings key draft scope now world =
      require_some Stale world (stored_client_at world key) (λ client.
      require Stale world (is_held (span_table world) scope.span)
      (reply_sending tt
      (keep_metric key client.label (client_metric meanings (span_table world) client scope now draft) world)))

  -- a log on a hub, under the client and the scope of its top layer; without a client nothing happens
  unfoldable pub capture_log : (C → Meanings) → HubKey → Log → World P C → Outcome P C (Unit {0})
  capture_log meanings key log world =
      require_some Stale world (hub_at world key) (λ hub.
      let_some hub.stack.top.client (reply_with tt [] world) (λ client_key.
      let_some (stored_client_at world client_key) (reply_with tt [] world) (λ client.
      reply_sending tt
      (keep_log client_key client.label
      (client_log meanings (span_table world) client hub.stack.top.scope log) world))))

  -- a metric on a hub at a moment, likewise
  unfoldable pub capture_metric : (C → Meanings) → HubKey → MetricDraft → ℕ → World P C → Outcome P C (Unit {0})
  capture_metric meanings key draft now world =
      require_some Stale world (hub_at world key) (λ hub.
      let_some hub.stack.top.client (reply_with tt [] world) (λ client_key.
      let_some (stored_client_at world client_key) (reply_with tt [] world) (λ client.
      reply_sending tt
      (keep_metric client_key client.label
      (client_metric meanings (span_table world) client hub.stack.top.scope now draft) world))))
