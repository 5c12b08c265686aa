-- What becomes of an event, a log or a metric between its capture and its envelope or batch.
use Rattle.std.specs.Prelude.{ℕ, nat_lt, Option, Some, None, List, [], ◌∷◌, if◌then◌else◌, codes, map}
use Rattle.std.specs.Option.{option_or}
use Rattle.std.specs.Str.{bytes_eq}
use Rattle.sentry_base.specs.Events.{is_nil, new_event, nil_id}
use Rattle.sentry_base.specs.declared.protocol.event.Event.{Event}
use Rattle.sentry_base.specs.declared.protocol.sdk.ClientSdkInfo.{ClientSdkInfo}
use Rattle.sentry_span_table.specs.declared.table.records.SpanTable.{SpanTable}
use Rattle.sentry_scope.specs.declared.scope.Scope.{Scope}
use Rattle.sentry_options.specs.declared.clientoptions.plain.PlainOptions.{PlainOptions}
use Rattle.sentry_options.specs.declared.clientoptions.ClientOptions.{ClientOptions}
use Rattle.sentry_options.specs.Constants.{sdk_name, sdk_version, sdk_package_name}
use Rattle.sentry_base.specs.Callbacks.{Partial}
use Rattle.sentry_scope.specs.Scopes.{process_all, fill}
use Rattle.sentry_options.specs.Meanings.{Meanings, process_by_all, call_if_any, enrich_by_all, call_on_item}
use Rattle.sentry_options.specs.declared.clientoptions.choices.EventSamplingStrategy.{EventSamplingStrategy}
use Rattle.sentry_options.specs.declared.clientoptions.choices.EventSamplingStrategy.TheVariants.{FixedRate}
use Rattle.sentry_base.specs.declared.protocol.fresh.Fresh.{Fresh}
use Rattle.sentry_base.specs.declared.protocol.losses.Reason.{Reason}
use Rattle.sentry_base.specs.declared.protocol.losses.Reason.TheVariants as reason
use Rattle.sentry_pipeline.specs.declared.pipeline.Preparation.{Preparation}
use Rattle.sentry_pipeline.specs.declared.pipeline.Preparation.TheVariants.{Kept, SampledOut, Dropped}
use Rattle.sentry_pipeline.specs.declared.pipeline.Place.{Place}
use Rattle.sentry_pipeline.specs.declared.pipeline.Place.TheVariants.{EventProcessor, Integration, BeforeSend}
use Rattle.sentry_plain.specs.Texts.{value_at}
use Rattle.sentry_base.specs.declared.protocol.context.Context.{Context}
use Rattle.sentry_base.specs.declared.protocol.context.Context.TheVariants.{Os}
use Rattle.sentry_pipeline.specs.declared.os_attributes.OsAttributes.{OsAttributes}
use Rattle.sentry_plain.specs.Defaults.{with_default}
use Rattle.sentry_scope.specs.Fills.{Attributes, fill_text, fill_log, fill_metric}
use Rattle.sentry_base.specs.declared.protocol.log.Log.{Log}
use Rattle.sentry_base.specs.declared.protocol.metric.Metric.{Metric}

-- what becomes of an event that is captured: the event that came through all callbacks, if it did, and whether it is to
-- be sent
pub record Prepared : Type 0 where
  pub preparation : Preparation
  pub event : Option Event

-- a nil id is replaced by the fresh one
abbrev pub with_id : List ℕ → Event → Event
with_id fresh event = if is_nil event.event_id then record event { event_id = fresh } else event

-- what every event of a client says of the SDK
abbrev pub sdk_info : Meanings → ClientSdkInfo
sdk_info client = record {
  name = sdk_name;
  version = sdk_version;
  packages = record { name = sdk_package_name; version = sdk_version } ∷ [];
  integrations = map (λ integration. integration.name) client.integrations;
}

-- the SDK if absent
abbrev pub with_sdk : ClientSdkInfo → Event → Event
with_sdk info event = record event { sdk = option_or event.sdk (Some info) }

-- release, environment and server name if absent, and the platform
abbrev pub with_defaults : PlainOptions → Event → Event
with_defaults options event = record event {
  release = option_or event.release options.release;
  environment = option_or event.environment options.environment;
  server_name = option_or event.server_name options.server_name;
  platform = if bytes_eq event.platform (codes "other") then codes "native" else event.platform;
}

-- goes on with the event, or tells the place where it was dropped
abbrev pub continue_or_drop : Place → Option Event → (Event → Prepared) → Prepared
continue_or_drop place None go = record { preparation = Dropped place; event = None }
continue_or_drop place (Some event) go = go event

module _ {P : Type 0} where
  -- the event with what the scope fills in, if there is one
  abbrev pub fill_if_any : SpanTable → Option (Scope P) → Event → Event
  fill_if_any spans None event = event
  fill_if_any spans (Some scope) event = fill spans scope event

  -- the event through the processors of the scope, if there is one
  abbrev pub process_if_any : (P → Partial) → Option (Scope P) → Partial
  process_if_any gives None event = Some event
  process_if_any gives (Some scope) event = process_all gives scope.processors event

-- an event is to be sent where its draw lies below the rate
abbrev pub sample : EventSamplingStrategy → ℕ → Preparation
sample (FixedRate rate) draw = if nat_lt draw rate then Kept else SampledOut

-- the event as it comes through all callbacks and whether it is to be sent, or the place that dropped it
unfoldable pub prepare_event : {P C : Type 0}
    → (P → Partial) → (C → Meanings) → SpanTable → ClientOptions C → ClientSdkInfo → Option (Scope P) → Fresh → Event
    → Prepared
prepare_event gives meanings spans options sdk scope fresh event =
    let client = meanings options.callbacks in
    let identified = with_sdk sdk (with_id fresh.uuid event) in
    continue_or_drop EventProcessor (process_if_any gives scope (fill_if_any spans scope identified)) (λ processed.
    continue_or_drop Integration (process_by_all client.integrations options.plain processed) (λ integrated.
    continue_or_drop BeforeSend (call_if_any client.before_send (with_defaults options.plain integrated)) (λ made.
    record { preparation = sample options.plain.event_sampling_strategy fresh.draw; event = Some made })))

-- why an event is counted as lost, if it is
abbrev pub loss_reason : Preparation → Option Reason
loss_reason Kept = None
loss_reason SampledOut = Some reason.SampleRate
loss_reason (Dropped EventProcessor) = Some reason.EventProcessor
loss_reason (Dropped Integration) = Some reason.EventProcessor
loss_reason (Dropped BeforeSend) = Some reason.BeforeSend

-- ---- what the integrations of a client say of the operating system

-- what a context says of the operating system
abbrev pub os_of : Option Context → OsAttributes
os_of (Some (Os name version)) = record { name = name; version = version }
os_of context = record { name = None; version = None }

module _ {C : Type 0} where
  -- an event of this moment, after each integration in turn
  abbrev pub enriched_event : (C → Meanings) → ClientOptions C → ℕ → Event
  enriched_event meanings options now =
      enrich_by_all (meanings options.callbacks).integrations options.plain (new_event nil_id now)

  -- what the context `os` of that event says
  abbrev pub os_attributes : (C → Meanings) → ClientOptions C → ℕ → OsAttributes
  os_attributes meanings options now = os_of (value_at (enriched_event meanings options now).contexts (codes "os"))

-- ---- the attributes that a client gives to each log and metric that lacks them

-- what the options and the SDK say of the program
unfoldable pub default_metric_attributes : PlainOptions → Attributes
default_metric_attributes options =
    fill_text (codes "server.address") options.server_name
    (fill_text (codes "sentry.release") options.release
    (fill_text (codes "sentry.environment") options.environment
    (fill_text (codes "sentry.sdk.version") (Some sdk_version)
    (fill_text (codes "sentry.sdk.name") (Some sdk_name) []))))

-- the same, and the operating system
unfoldable pub default_log_attributes : PlainOptions → OsAttributes → Attributes
default_log_attributes options os =
    fill_text (codes "os.version") os.version
    (fill_text (codes "os.name") os.name (default_metric_attributes options))

-- the attributes with each default put in where they have nothing at its key
abbrev pub fill_defaults : Attributes → Attributes → Attributes
fill_defaults [] attributes = attributes
fill_defaults (default ∷ defaults) attributes =
    fill_defaults defaults (with_default default.0 default.1 attributes)

-- ---- what becomes of a log or a metric between its capture and its batch, whatever the options say of logs and metrics

-- the log with the default attributes that it lacks
abbrev pub with_log_defaults : Attributes → Log → Log
with_log_defaults defaults log = record log { attributes = fill_defaults defaults log.attributes }

-- the metric with the default attributes that it lacks
abbrev pub with_metric_defaults : Attributes → Metric → Metric
with_metric_defaults defaults metric = record metric { attributes = fill_defaults defaults metric.attributes }

module _ {P C : Type 0} (meanings : C → Meanings) where
  -- the log as it is to be sent, or `None` if the callback drops it
  abbrev pub prepare_log : SpanTable → ClientOptions C → Attributes → Scope P → Log → Option Log
  prepare_log spans options defaults scope log =
      call_on_item (meanings options.callbacks).before_send_log (with_log_defaults defaults (fill_log spans scope log))

  -- the metric as it is to be sent, or `None` if the callback drops it
  abbrev pub prepare_metric : SpanTable → ClientOptions C → Attributes → Scope P → Metric → Option Metric
  prepare_metric spans options defaults scope metric =
      call_on_item (meanings options.callbacks).before_send_metric
      (with_metric_defaults defaults (fill_metric spans options.plain.send_default_pii scope metric))
