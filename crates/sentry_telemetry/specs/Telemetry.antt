-- What becomes of captured logs and metrics.
use Rattle.std.specs.Prelude.{ℕ, Option, None, if◌then◌else◌, Some}
use Rattle.sentry_base.specs.declared.protocol.keys.ClientKey.{ClientKey}
use Rattle.sentry_state.specs.Outcomes.{client_at}
use Rattle.sentry_sending.specs.Sending.{Sending, send, send_nothing, send_some}
use Rattle.sentry_state.specs.Worlds.{World}
use Rattle.sentry_span_table.specs.declared.table.records.SpanTable.{SpanTable}
use Rattle.sentry_scope.specs.declared.scope.Scope.{Scope}
use Rattle.sentry_options.specs.Meanings.{Meanings}
use Rattle.sentry_base.specs.declared.protocol.keys.Label.{Label}
use Rattle.sentry_state.specs.declared.state.ClientState.{ClientState}
use Rattle.sentry_state.specs.Books.{with_entry}
use Rattle.sentry_base.specs.Losses.{loss_of}
use Rattle.sentry_base.specs.Metrics.{metric_of}
use Rattle.sentry_base.specs.declared.protocol.log.Log.{Log}
use Rattle.sentry_base.specs.declared.protocol.losses.Category.{Category}
use Rattle.sentry_base.specs.declared.protocol.losses.Category.TheVariants as category
use Rattle.sentry_base.specs.declared.protocol.losses.Reason.TheVariants as reason
use Rattle.sentry_base.specs.declared.protocol.metric.Metric.{Metric}
use Rattle.sentry_base.specs.declared.protocol.metric.MetricDraft.{MetricDraft}
use Rattle.sentry_batches.specs.Batches.{accept, batch_on}
use Rattle.sentry_client_reports.specs.LossBooks.{LossEntry, engine_losses}
use Rattle.sentry_pipeline.specs.Pipeline.{prepare_log, prepare_metric}
use Rattle.sentry_telemetry.specs.Flushes.{batch_envelopes}
use Rattle.sentry_state.specs.Changes.{with_client_history, with_log_entry, with_metric_entry}

-- an item of this category that a callback dropped
abbrev pub item_loss : Category → LossEntry
item_loss category = engine_losses (loss_of category reason.BeforeSend 1)

module _ {P C : Type 0} where
  -- the log as a client would send it, or `None` if its callback drops it
  unfoldable pub client_log : (C → Meanings) → SpanTable → ClientState C → Scope P → Log → Option Log
  client_log meanings spans client scope log =
      prepare_log meanings spans client.options client.log_attributes scope log

  -- the metric of a draft at this moment as a client would send it, or `None` if its callback drops it
  unfoldable pub client_metric : (C → Meanings) → SpanTable → ClientState C → Scope P → ℕ → MetricDraft → Option Metric
  client_metric meanings spans client scope now draft =
      prepare_metric meanings spans client.options client.metric_attributes scope (metric_of scope.trace_id now draft)

  -- a log joins the batch of a client, which is sent when it has as many as the client's limit says; a closed client
  -- drops it
  unfoldable pub accept_log : ClientKey → Log → World P C → Sending P C
  accept_log key log world =
      send_some world (client_at world key) (λ client.
      if client.closed then send_nothing world else
      send key client
      (batch_envelopes (batch_on client.options.plain.max_batch_items (accept log) client.queues.logs) None)
      (with_client_history world key (with_log_entry (accept log) client)))

  -- the same of a metric
  unfoldable pub accept_metric : ClientKey → Metric → World P C → Sending P C
  accept_metric key metric world =
      send_some world (client_at world key) (λ client.
      if client.closed then send_nothing world else
      send key client
      (batch_envelopes None (batch_on client.options.plain.max_batch_items (accept metric) client.queues.metrics))
      (with_client_history world key (with_metric_entry (accept metric) client)))

  -- a log that came through the callback is accepted, and one that didn't is lost
  unfoldable pub keep_log : ClientKey → Label → Option Log → World P C → Sending P C
  keep_log key label None world = send_nothing (with_entry world label (item_loss category.LogItem))
  keep_log key label (Some log) world = accept_log key log world

  -- the same of a metric
  unfoldable pub keep_metric : ClientKey → Label → Option Metric → World P C → Sending P C
  keep_metric key label None world = send_nothing (with_entry world label (item_loss category.Metric))
  keep_metric key label (Some metric) world = accept_metric key metric world
