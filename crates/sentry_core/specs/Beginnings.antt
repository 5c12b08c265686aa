-- What is dropped by the text that it begins with.
use Rattle.std.specs.Prelude.{[], Bool, ◌==◌, Option, Some, None, if◌then◌else◌}
use Rattle.std.specs.Option.{unwrap_or}
use Rattle.std.specs.List.{starts_with}
use Rattle.sentry_base.specs.Callbacks.{Partial, PartialOnBreadcrumbs, PartialOnLogs, PartialOnMetrics}
use Rattle.sentry_plain.specs.Texts.{Bytes}

-- no text is the empty one
abbrev pub text_or_empty : Option Bytes → Bytes
text_or_empty text = unwrap_or text []

abbrev pub begins_with : Bytes → Bytes → Bool
begins_with text beginning = starts_with ◌==◌ text beginning

abbrev pub kept_event : Bytes → Partial
kept_event beginning event = if begins_with (text_or_empty event.message) beginning then None else Some event

abbrev pub kept_breadcrumb : Bytes → PartialOnBreadcrumbs
kept_breadcrumb beginning breadcrumb =
    if begins_with (text_or_empty breadcrumb.message) beginning then None else Some breadcrumb

abbrev pub kept_log : Bytes → PartialOnLogs
kept_log beginning log = if begins_with log.body beginning then None else Some log

abbrev pub kept_metric : Bytes → PartialOnMetrics
kept_metric beginning metric = if begins_with metric.name beginning then None else Some metric
