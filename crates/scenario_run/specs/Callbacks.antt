-- The callbacks of a scenario, as partial functions on events, breadcrumbs, logs and metrics.
use Rattle.std.specs.Prelude.{ℕ, Bool, true, false, ◌==◌, Option, Some, None, [], if◌then◌else◌, codes, unwrap_or}
use Rattle.std.specs.List.{starts_with}
use Rattle.sentry_plain.specs.Texts.{Bytes, put}
use Rattle.sentry_plain.specs.Defaults.{with_default}
use Rattle.sentry_base.specs.declared.protocol.breadcrumb.Breadcrumb.{Breadcrumb}
use Rattle.sentry_base.specs.declared.protocol.event.Event.{Event}
use Rattle.sentry_base.specs.declared.protocol.log.Log.{Log}
use Rattle.sentry_base.specs.declared.protocol.metric.Metric.{Metric}
use Rattle.sentry_base.specs.declared.protocol.context.Context.TheVariants as context
use Rattle.sentry_base.specs.Callbacks.{Partial, PartialOnBreadcrumbs, PartialOnLogs, PartialOnMetrics}
use Rattle.sentry_options.specs.Meanings.{IntegrationMeaning}
use Rattle.sentry_trace.specs.declared.performance.context.TransactionContext.{TransactionContext}
use Rattle.scenario_run.specs.declared.callbacks.Handler.{Handler}
use Rattle.scenario_run.specs.declared.callbacks.Handler.TheVariants as handler
use Rattle.scenario_run.specs.declared.callbacks.BreadcrumbFilter.{BreadcrumbFilter}
use Rattle.scenario_run.specs.declared.callbacks.LogFilter.{LogFilter}
use Rattle.scenario_run.specs.declared.callbacks.MetricFilter.{MetricFilter}
use Rattle.scenario_run.specs.declared.callbacks.NameSampler.{NameSampler}
use Rattle.scenario_run.specs.declared.callbacks.Extension.{Extension}
use Rattle.scenario_run.specs.declared.callbacks.Extension.TheVariants as extension

-- no text is the empty one
abbrev pub text_or_empty : Option Bytes → Bytes
text_or_empty text = unwrap_or text []

abbrev pub begins_with : Bytes → Bytes → Bool
begins_with text prefix = starts_with ◌==◌ text prefix

abbrev pub drop_if_begins : Bytes → Partial
drop_if_begins prefix event = if begins_with (text_or_empty event.message) prefix then None else Some event

abbrev pub keep_or_drop : BreadcrumbFilter → PartialOnBreadcrumbs
keep_or_drop filter breadcrumb =
    if begins_with (text_or_empty breadcrumb.message) filter.0 then None else Some breadcrumb

abbrev pub keep_or_drop_log : LogFilter → PartialOnLogs
keep_or_drop_log filter log = if begins_with log.body filter.0 then None else Some log

abbrev pub keep_or_drop_metric : MetricFilter → PartialOnMetrics
keep_or_drop_metric filter metric = if begins_with metric.name filter.0 then None else Some metric

abbrev pub set_tag : Bytes → Bytes → Event → Event
set_tag key value event = record event { tags = put event.tags key value }

-- the event with the context `os`, if it has none of that name
abbrev pub add_os : Event → Event
add_os event = record event {
  contexts = with_default (codes "os") (context.Os (Some (codes "plan")) (Some (codes "9"))) event.contexts;
}

abbrev pub handle : Handler → Partial
handle (handler.Drop prefix) event = drop_if_begins prefix event
handle (handler.SetTag key value) event = Some (set_tag key value event)

abbrev pub extend : Extension → IntegrationMeaning
extend extension.Os = record {
  name = codes "os";
  setup = λ options. options;
  process_event = λ options event. Some (add_os event);
}
extend (extension.Drop prefix) = record {
  name = codes "drop";
  setup = λ options. options;
  process_event = λ options. drop_if_begins prefix;
}

-- none of the traces that were decided against, and all others
abbrev pub rate_of_decision : Option Bool → ℕ
rate_of_decision (Some false) = 0
rate_of_decision (Some true) = 1000000
rate_of_decision None = 1000000

-- by the beginning of the name; the rate of `above` is more than all
abbrev pub rate_by_name : Bytes → Option Bool → ℕ
rate_by_name name decision =
    if begins_with name (codes "drop") then 0 else
    if begins_with name (codes "parent") then rate_of_decision decision else
    if begins_with name (codes "above") then 1500000 else 1000000

abbrev pub rate_of_context : NameSampler → TransactionContext → ℕ
rate_of_context sampler context = rate_by_name context.name context.sampled
