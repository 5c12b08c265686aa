-- What a client drops and changes, as partial functions on events, breadcrumbs, logs and metrics, and its sampler.
use Rattle.std.specs.Prelude.{ℕ, Bool, true, false, ◌==◌, Option, Some, None, [], if◌then◌else◌, unwrap_or, option_map, bytes_eq, codes}
use Rattle.std.specs.Option.{option_and_then}
use Rattle.std.specs.List.{starts_with}
use Rattle.sentry_plain.specs.Texts.{Bytes, value_at}
use Rattle.sentry_plain.specs.Values.{Data}
use Rattle.sentry_plain.specs.Values as values
use Rattle.sentry_base.specs.Callbacks.{Partial, PartialOnBreadcrumbs, PartialOnLogs, PartialOnMetrics}
use Rattle.sentry_base.specs.declared.protocol.event.Event.{Event}
use Rattle.sentry_options.specs.Decimals.{rate_of}
use Rattle.sentry_options.specs.Meanings.{Meanings}
use Rattle.sentry_trace.specs.CustomContexts.{entries_of}
use Rattle.sentry_trace.specs.declared.performance.context.TransactionContext.{TransactionContext}
use Rattle.c_records.specs.declared.filters.Filters.{Filters}

-- no text is the empty one
abbrev pub text_or_empty : Option Bytes → Bytes
text_or_empty text = unwrap_or text []

abbrev pub begins_with : Bytes → Bytes → Bool
begins_with text prefix = starts_with ◌==◌ text prefix

-- none if the message begins with the text
abbrev pub filtered_event : Bytes → Partial
filtered_event prefix event = if begins_with (text_or_empty event.message) prefix then None else Some event

-- the same, where there is such a text
abbrev pub kept_event : Option Bytes → Partial
kept_event None event = Some event
kept_event (Some prefix) event = filtered_event prefix event

-- the event of this platform, if there is one, where it is said to be native, as an event is that names none
abbrev pub with_platform : Option Bytes → Event → Event
with_platform None event = event
with_platform (Some platform) event =
    if bytes_eq event.platform (codes "native") then record event { platform = platform } else event

abbrev pub filtered_breadcrumb : Bytes → PartialOnBreadcrumbs
filtered_breadcrumb prefix breadcrumb =
    if begins_with (text_or_empty breadcrumb.message) prefix then None else Some breadcrumb

-- none if the body begins with the text
abbrev pub filtered_log : Bytes → PartialOnLogs
filtered_log prefix log = if begins_with log.body prefix then None else Some log

-- none if the name begins with the text
abbrev pub filtered_metric : Bytes → PartialOnMetrics
filtered_metric prefix metric = if begins_with metric.name prefix then None else Some metric

-- the rate that a text writes
abbrev pub rate_of_data : Data → Option ℕ
rate_of_data (values.text written) = rate_of written
rate_of_data other = None

-- the rate that a transaction is started with, if it is with one
abbrev pub given_rate : TransactionContext → Option ℕ
given_rate context = option_and_then rate_of_data (value_at (entries_of context.custom) (codes "rate"))

-- a decision that was made before stands, as the rate of all or of none
abbrev pub rate_after : Option Bool → ℕ → ℕ
rate_after None rate = rate
rate_after (Some true) rate = 1000000
rate_after (Some false) rate = 0

-- the callbacks of a client: one for each text, and a sampler, which gives the rate that a transaction is started with, or
-- else that of the client, and no integrations
abbrev pub filter_meanings : Filters → Meanings
filter_meanings filters = record {
  integrations = [];
  before_send = Some (λ event. option_map (with_platform filters.platform) (kept_event filters.events event));
  before_breadcrumb = option_map filtered_breadcrumb filters.breadcrumbs;
  before_send_log = option_map filtered_log filters.logs;
  before_send_metric = option_map filtered_metric filters.metrics;
  traces_sampler = Some (λ context. unwrap_or (given_rate context) (rate_after context.sampled filters.traces));
}
