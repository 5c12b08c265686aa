-- No object of a record's JSON has a name twice.
use Rattle.std.proofs.Common.{◌≡◌, ℕ, zero, suc, ◌+◌, ◌==◌, List, [], ◌∷◌, Bool, true, false, ◌&&◌, ◌||◌, Option, Some, None, codes, refl, get_or}
use Rattle.std.specs.Prelude.{All, IfSome, is_some}
use Rattle.std.specs.Str.{bytes_eq}
use Rattle.std.proofs.lemmas.List.Elements.{All-head, All-tail}
use Rattle.std.specs.Fmt.{signed_decimal}
use Rattle.json.specs.Json.{array, object, boolean, number, string, Items, Members, no_members, member}
use Rattle.json.specs.Strict.{HasUniqueKeys, ItemsHaveUniqueKeys}
use Rattle.uuid.specs.Text.{hyphenated_text, simple_text, lower}
use Rattle.sentry_plain.specs.Texts.{Bytes}
use Rattle.sentry_plain.specs.Values.{Data}
use Rattle.sentry_plain.specs.Values as kind
use Rattle.sentry_plain.specs.ValueView.{data_of}
use Rattle.sentry_plain.specs.declared.value.Value.{Value}
use Rattle.sentry_base.specs.Losses.{category_name, reason_name}
use Rattle.sentry_base.specs.Names.{level_name, log_level_name, metric_type_name, session_status_name}
use Rattle.sentry_base.specs.declared.protocol.breadcrumb.Breadcrumb.{Breadcrumb}
use Rattle.sentry_base.specs.declared.protocol.client_report.ClientReportItem.{ClientReportItem}
use Rattle.sentry_base.specs.declared.protocol.context.Context.{Context}
use Rattle.sentry_base.specs.declared.protocol.context.Context.TheVariants as context
use Rattle.sentry_base.specs.declared.protocol.context.TraceContext.{TraceContext}
use Rattle.sentry_base.specs.declared.protocol.envelope.EnvelopeItem.{EnvelopeItem}
use Rattle.sentry_base.specs.declared.protocol.envelope.EnvelopeItem.TheVariants as sent
use Rattle.sentry_base.specs.declared.protocol.event.Event.{Event}
use Rattle.sentry_base.specs.declared.protocol.exception.Exception.{Exception}
use Rattle.sentry_base.specs.declared.protocol.exception.Mechanism.{Mechanism}
use Rattle.sentry_base.specs.declared.protocol.log.Log.{Log}
use Rattle.sentry_base.specs.declared.protocol.log.LogAttribute.{LogAttribute}
use Rattle.sentry_base.specs.declared.protocol.metric.Metric.{Metric}
use Rattle.sentry_base.specs.declared.protocol.request.Request.{Request}
use Rattle.sentry_base.specs.declared.protocol.sdk.ClientSdkInfo.{ClientSdkInfo}
use Rattle.sentry_base.specs.declared.protocol.sdk.ClientSdkPackage.{ClientSdkPackage}
use Rattle.sentry_base.specs.declared.protocol.session.SessionAggregateItem.{SessionAggregateItem}
use Rattle.sentry_base.specs.declared.protocol.session.SessionAggregates.{SessionAggregates}
use Rattle.sentry_base.specs.declared.protocol.session.SessionAttributes.{SessionAttributes}
use Rattle.sentry_base.specs.declared.protocol.session.SessionUpdate.{SessionUpdate}
use Rattle.sentry_base.specs.declared.protocol.span.Span.{Span}
use Rattle.sentry_base.specs.declared.protocol.transaction.Transaction.{Transaction}
use Rattle.sentry_base.specs.declared.protocol.user.User.{User}
use Rattle.sentry_framing.specs.Json.{whole, items_of}
use Rattle.sentry_framing.specs.Moments.{moment_text, seconds_text}
use Rattle.sentry_framing.proofs.Headed.{each}
use Rattle.sentry_envelope.specs.Aggregates.{put_count, counts_json, aggregates_json}
use Rattle.sentry_envelope.specs.Attributes.{attribute_json, type_name, typed_value}
use Rattle.sentry_envelope.specs.Breadcrumbs.{breadcrumb_json}
use Rattle.sentry_envelope.specs.Contexts.{trace_context_json, os_json, other_own, other_json, context_json}
use Rattle.sentry_envelope.specs.Envelopes.{Stacktraces, item_content}
use Rattle.sentry_envelope.specs.Events.{mechanism_json, stacktrace_json, exception_json, exceptions_json, put_exceptions, event_json}
use Rattle.sentry_envelope.specs.Ids.{span_id_json, trace_id_json}
use Rattle.sentry_envelope.specs.Logs.{log_json}
use Rattle.sentry_envelope.specs.Members.{map_json}
use Rattle.sentry_envelope.specs.Metrics.{metric_json, unit_json}
use Rattle.sentry_envelope.specs.Names.{KeysOnce, DataOnce, RequestOnce, ContextOnce, ContextsOnce, EventOnce, TransactionOnce, MapsHaveKeysOnce, NamesComeOnce}
use Rattle.sentry_envelope.specs.Reports.{loss_json}
use Rattle.sentry_envelope.specs.Requests.{request_json}
use Rattle.sentry_envelope.specs.Sdks.{package_json, sdk_json}
use Rattle.sentry_envelope.specs.Sessions.{attributes_json, put_if_true, session_json}
use Rattle.sentry_envelope.specs.Spans.{span_json}
use Rattle.sentry_envelope.specs.Statuses.{span_status_json}
use Rattle.sentry_envelope.specs.Transactions.{transaction_json}
use Rattle.sentry_envelope.specs.Users.{user_own, user_json}
use Rattle.sentry_envelope.proofs.Names.{Named, once, nothing, skipped, named, named_optional, any_name, among, plain, must, may, unless, single, items_once, each_once, map_once, map_of_each, may_map, may_items, may_list, may_values, others_once}

abbrev none : Named any_name [] no_members
none = nothing any_name

texts_once : (xs : List Bytes) → ItemsHaveUniqueKeys (items_of string xs)
texts_once xs = each_once string (λ x. tt) xs

text_map_once : (es : List (Bytes × Bytes)) → KeysOnce es → HasUniqueKeys (map_json string es)
text_map_once es d = map_of_each string (λ x. tt) es d

-- of a value that may be there, and has P if it is
given : {X : Type 0} {P Q : X → Type 0} → ((x : X) → P x → Q x) → (o : Option X) → IfSome o P → IfSome o Q
given f None h = tt
given f (Some x) h = f x h

-- ---- users

-- the own names of a user, by which of its members are there
abbrev own_of : Bool → Bool → Bool → Bool → Bytes → Bool
own_of id email ip_address username name =
    (bytes_eq name (codes "id") && id)
    || (bytes_eq name (codes "email") && email)
    || (bytes_eq name (codes "ip_address") && ip_address)
    || (bytes_eq name (codes "username") && username)

when_some : {X : Type 0} (own : Bool → Bool) → own true ≡ true → (o : Option X) → IfSome o (λ x. own (is_some o) ≡ true)
when_some own h None = tt
when_some own h (Some x) = h

user_once : (user : User) → DataOnce user.data_ → HasUniqueKeys (user_json user)
user_once user h =
    let id = is_some user.id in
    let email = is_some user.email in
    let ip_address = is_some user.ip_address in
    let username = is_some user.username in
    let m0 = others_once (user_own user) user.data_ h in
    let m1 = named_optional string (codes "username") user.username m0 (plain user.username)
    (when_some (λ b. own_of id email ip_address b (codes "username")) refl user.username) refl in
    let m2 = named_optional string (codes "ip_address") user.ip_address m1 (plain user.ip_address)
    (when_some (λ b. own_of id email b username (codes "ip_address")) refl user.ip_address) refl in
    let m3 = named_optional string (codes "email") user.email m2 (plain user.email)
    (when_some (λ b. own_of id b ip_address username (codes "email")) refl user.email) refl in
    once (named_optional string (codes "id") user.id m3 (plain user.id)
    (when_some (λ b. own_of b email ip_address username (codes "id")) refl user.id) refl)

-- ---- contexts

trace_context_once : (trace : TraceContext) → DataOnce trace.data_ → HasUniqueKeys (trace_context_json trace)
trace_context_once trace h =
    let m0 = may string (codes "origin") trace.origin none (plain trace.origin) refl in
    let m1 = may span_status_json (codes "status") trace.status m0 (plain trace.status) refl in
    let m2 = may_values (codes "data") trace.data_ m1 h refl in
    let m3 = may string (codes "description") trace.description m2 (plain trace.description) refl in
    let m4 = may string (codes "op") trace.op m3 (plain trace.op) refl in
    let m5 = may span_id_json (codes "parent_span_id") trace.parent_span_id m4 (plain trace.parent_span_id) refl in
    let m6 = must (codes "trace_id") (trace_id_json trace.trace_id) m5 tt refl in
    let m7 = must (codes "span_id") (span_id_json trace.span_id) m6 tt refl in
    once (must (codes "type") (string (codes "trace")) m7 tt refl)

os_once : (name version : Option Bytes) → HasUniqueKeys (os_json name version)
os_once name version =
    let m0 = may string (codes "version") version none (plain version) refl in
    let m1 = may string (codes "name") name m0 (plain name) refl in
    once (must (codes "type") (string (codes "os")) m1 tt refl)

other_once : (values : List (Bytes × Data)) → DataOnce values → HasUniqueKeys (other_json values)
other_once values h = once (named (codes "type") (string (codes "unknown")) (others_once other_own values h) tt refl refl)

context_once : (c : Context) → ContextOnce c → HasUniqueKeys (context_json c)
context_once (context.Trace trace) h = trace_context_once trace h
context_once (context.Os name version) h = os_once name version
context_once (context.Other values) h = other_once values h

contexts_once : (es : List (Bytes × Context)) → ContextsOnce es → HasUniqueKeys (map_json context_json es)
contexts_once es h = map_once context_json ContextOnce context_once es h.0 h.1

-- ---- parts of events

request_once : (request : Request) → RequestOnce request → HasUniqueKeys (request_json request)
request_once request h =
    let m0 = may_map string (codes "env") request.env none (text_map_once request.env h.1) refl in
    let m1 = may_map string (codes "headers") request.headers m0 (text_map_once request.headers h.0) refl in
    let m2 = may string (codes "cookies") request.cookies m1 (plain request.cookies) refl in
    let m3 = may string (codes "query_string") request.query_string m2 (plain request.query_string) refl in
    let m4 = may string (codes "data") request.data_ m3 (plain request.data_) refl in
    let m5 = may string (codes "method") request.method m4 (plain request.method) refl in
    once (may string (codes "url") request.url m5 (plain request.url) refl)

package_once : (item : ClientSdkPackage) → HasUniqueKeys (package_json item)
package_once item =
    once (must (codes "name") (string item.name) (must (codes "version") (string item.version) none tt refl) tt refl)

sdk_once : (sdk : ClientSdkInfo) → HasUniqueKeys (sdk_json sdk)
sdk_once sdk =
    let m0 = may_items package_json (codes "packages") sdk.packages none (each_once package_json package_once sdk.packages) refl in
    let m1 = may_items string (codes "integrations") sdk.integrations m0 (texts_once sdk.integrations) refl in
    let m2 = must (codes "version") (string sdk.version) m1 tt refl in
    once (must (codes "name") (string sdk.name) m2 tt refl)

breadcrumb_once : (breadcrumb : Breadcrumb) → DataOnce breadcrumb.data_ → HasUniqueKeys (breadcrumb_json breadcrumb)
breadcrumb_once breadcrumb h =
    let m0 = may_values (codes "data") breadcrumb.data_ none h refl in
    let m1 = may string (codes "message") breadcrumb.message m0 (plain breadcrumb.message) refl in
    let m2 = must (codes "level") (string (level_name breadcrumb.level)) m1 tt refl in
    let m3 = may string (codes "category") breadcrumb.category m2 (plain breadcrumb.category) refl in
    let m4 = must (codes "type") (string breadcrumb.ty) m3 tt refl in
    once (must (codes "timestamp") (number (seconds_text breadcrumb.timestamp)) m4 tt refl)

mechanism_once : (mechanism : Mechanism) → HasUniqueKeys (mechanism_json mechanism)
mechanism_once mechanism =
    once (must (codes "type") (string mechanism.ty) (may boolean (codes "handled") mechanism.handled none (plain mechanism.handled) refl) tt refl)

-- a stack trace in which no name comes twice
abbrev StacktraceOnce : Option Value → Type 0
StacktraceOnce o = IfSome o (λ value. HasUniqueKeys (stacktrace_json value))

exception_once : (stacktrace : Option Value) (exception : Exception) → StacktraceOnce stacktrace → HasUniqueKeys (exception_json stacktrace exception)
exception_once stacktrace exception h =
    let m0 = may stacktrace_json (codes "stacktrace") stacktrace none h refl in
    let m1 = may mechanism_json (codes "mechanism") exception.mechanism m0 (each mechanism_once exception.mechanism) refl in
    let m2 = may string (codes "value") exception.value m1 (plain exception.value) refl in
    once (must (codes "type") (string exception.ty) m2 tt refl)

stacktrace_once : (ss : Stacktraces) (i : ℕ) → All StacktraceOnce ss → StacktraceOnce (get_or ss i None)
stacktrace_once [] i h = tt
stacktrace_once (s ∷ ss) zero h = All-head StacktraceOnce s ss h
stacktrace_once (s ∷ ss) (suc i) h = stacktrace_once ss i (All-tail StacktraceOnce s ss h)

exceptions_once : (ss : Stacktraces) (i : ℕ) (es : List Exception) → All StacktraceOnce ss → ItemsHaveUniqueKeys (exceptions_json ss i es)
exceptions_once ss i [] h = tt
exceptions_once ss i (e ∷ es) h = (exception_once (get_or ss i None) e (stacktrace_once ss i h), exceptions_once ss (i + 1) es h)

may_exceptions : {ns : List Bytes} {ms : Members} (ss : Stacktraces) (es : List Exception) → Named any_name ns ms → All StacktraceOnce ss
    → among (codes "exception") ns ≡ false → among (codes "stacktrace") (codes "exception" ∷ ns) ≡ false
    → Named any_name (codes "stacktrace" ∷ codes "exception" ∷ ns) (put_exceptions ss es ms)
may_exceptions ss [] h s a b = may stacktrace_json (codes "stacktrace") (get_or ss 0 None) (skipped (codes "exception") h) (stacktrace_once ss 0 s) b
may_exceptions ss (e ∷ es) h s a b =
    skipped (codes "stacktrace")
    (must (codes "exception") (object (member (codes "values") (array (exceptions_json ss 0 (e ∷ es))) no_members)) h
    (single (codes "values"), (exceptions_once ss 0 (e ∷ es) s, tt)) a)

-- ---- events and transactions

event_once : (ss : Stacktraces) (event : Event) → EventOnce ss event → HasUniqueKeys (event_json ss event)
event_once ss event h =
    let m0 = may sdk_json (codes "sdk") event.sdk none (each sdk_once event.sdk) refl in
    let m1 = may_values (codes "extra") event.extra m0 h.extra refl in
    let m2 = may_map string (codes "tags") event.tags m1 (text_map_once event.tags h.tags) refl in
    let m3 = may_exceptions ss event.exception m2 h.frames refl refl in
    let m4 = may_list breadcrumb_json (codes "breadcrumbs") event.breadcrumbs m3
    (items_once breadcrumb_json (λ breadcrumb. DataOnce breadcrumb.data_) breadcrumb_once event.breadcrumbs h.breadcrumbs) refl in
    let m5 = may_map context_json (codes "contexts") event.contexts m4 (contexts_once event.contexts h.contexts) refl in
    let m6 = may request_json (codes "request") event.request m5 (given request_once event.request h.request) refl in
    let m7 = may user_json (codes "user") event.user m6 (given user_once event.user h.user) refl in
    let m8 = may string (codes "environment") event.environment m7 (plain event.environment) refl in
    let m9 = may string (codes "release") event.release m8 (plain event.release) refl in
    let m10 = may string (codes "server_name") event.server_name m9 (plain event.server_name) refl in
    let m11 = must (codes "timestamp") (number (seconds_text event.timestamp)) m10 tt refl in
    let m12 = must (codes "platform") (string event.platform) m11 tt refl in
    let m13 = may string (codes "message") event.message m12 (plain event.message) refl in
    let m14 = may string (codes "transaction") event.transaction m13 (plain event.transaction) refl in
    let m15 = must (codes "fingerprint") (array (items_of string event.fingerprint)) m14 (texts_once event.fingerprint) refl in
    let m16 = must (codes "level") (string (level_name event.level)) m15 tt refl in
    once (must (codes "event_id") (string (simple_text lower event.event_id)) m16 tt refl)

span_once : (span : Span) → KeysOnce span.tags × DataOnce span.data_ → HasUniqueKeys (span_json span)
span_once span h =
    let m0 = may_values (codes "data") span.data_ none h.1 refl in
    let m1 = may_map string (codes "tags") span.tags m0 (text_map_once span.tags h.0) refl in
    let m2 = may span_status_json (codes "status") span.status m1 (plain span.status) refl in
    let m3 = must (codes "start_timestamp") (number (seconds_text span.start_timestamp)) m2 tt refl in
    let m4 = may (λ n. number (seconds_text n)) (codes "timestamp") span.timestamp m3 (plain span.timestamp) refl in
    let m5 = may string (codes "description") span.description m4 (plain span.description) refl in
    let m6 = may string (codes "op") span.op m5 (plain span.op) refl in
    let m7 = may span_id_json (codes "parent_span_id") span.parent_span_id m6 (plain span.parent_span_id) refl in
    let m8 = must (codes "trace_id") (trace_id_json span.trace_id) m7 tt refl in
    once (must (codes "span_id") (span_id_json span.span_id) m8 tt refl)

transaction_once : (transaction : Transaction) → TransactionOnce transaction → HasUniqueKeys (transaction_json transaction)
transaction_once transaction h =
    let m0 = may string (codes "server_name") transaction.server_name none (plain transaction.server_name) refl in
    let m1 = may request_json (codes "request") transaction.request m0 (given request_once transaction.request h.request) refl in
    let m2 = may_map context_json (codes "contexts") transaction.contexts m1 (contexts_once transaction.contexts h.contexts) refl in
    let m3 = must (codes "spans") (array (items_of span_json transaction.spans)) m2
    (items_once span_json (λ span. KeysOnce span.tags × DataOnce span.data_) span_once transaction.spans h.spans) refl in
    let m4 = must (codes "start_timestamp") (number (seconds_text transaction.start_timestamp)) m3 tt refl in
    let m5 = may (λ n. number (seconds_text n)) (codes "timestamp") transaction.timestamp m4 (plain transaction.timestamp) refl in
    let m6 = must (codes "platform") (string transaction.platform) m5 tt refl in
    let m7 = may sdk_json (codes "sdk") transaction.sdk m6 (each sdk_once transaction.sdk) refl in
    let m8 = may_values (codes "extra") transaction.extra m7 h.extra refl in
    let m9 = may_map string (codes "tags") transaction.tags m8 (text_map_once transaction.tags h.tags) refl in
    let m10 = may user_json (codes "user") transaction.user m9 (given user_once transaction.user h.user) refl in
    let m11 = may string (codes "environment") transaction.environment m10 (plain transaction.environment) refl in
    let m12 = may string (codes "release") transaction.release m11 (plain transaction.release) refl in
    let m13 = may string (codes "transaction") transaction.name m12 (plain transaction.name) refl in
    once (must (codes "event_id") (string (simple_text lower transaction.event_id)) m13 tt refl)

-- ---- sessions

session_attributes_once : (attributes : SessionAttributes) → HasUniqueKeys (attributes_json attributes)
session_attributes_once attributes =
    once (must (codes "release") (string attributes.release)
    (may string (codes "environment") attributes.environment none (plain attributes.environment) refl) tt refl)

may_if_true : {ns : List Bytes} {ms : Members} (k : Bytes) (b : Bool) → Named any_name ns ms → among k ns ≡ false → Named any_name (k ∷ ns) (put_if_true k b ms)
may_if_true k true h a = must k (boolean true) h tt a
may_if_true k false h a = skipped k h

session_once : (session : SessionUpdate) → HasUniqueKeys (session_json session)
session_once session =
    let m0 = must (codes "attrs") (attributes_json session.attributes) none (session_attributes_once session.attributes) refl in
    let m1 = must (codes "errors") (whole session.errors) m0 tt refl in
    let m2 = must (codes "status") (string (session_status_name session.status)) m1 tt refl in
    let m3 = may (λ n. number (seconds_text n)) (codes "duration") session.duration m2 (plain session.duration) refl in
    let m4 = may_if_true (codes "init") session.init m3 refl in
    let m5 = must (codes "started") (string (moment_text session.started)) m4 tt refl in
    let m6 = may string (codes "did") session.distinct_id m5 (plain session.distinct_id) refl in
    once (must (codes "sid") (string (hyphenated_text lower session.session_id)) m6 tt refl)

may_count : {ns : List Bytes} {ms : Members} (k : Bytes) (n : ℕ) → Named any_name ns ms → among k ns ≡ false → Named any_name (k ∷ ns) (put_count k n ms)
may_count k n h a = unless (n == 0) k (whole n) h tt a

counts_once : (counts : SessionAggregateItem) → HasUniqueKeys (counts_json counts)
counts_once counts =
    let m0 = may_count (codes "crashed") counts.crashed none refl in
    let m1 = may_count (codes "abnormal") counts.abnormal m0 refl in
    let m2 = may_count (codes "errored") counts.errored m1 refl in
    let m3 = may_count (codes "exited") counts.exited m2 refl in
    let m4 = may string (codes "did") counts.distinct_id m3 (plain counts.distinct_id) refl in
    once (must (codes "started") (string (moment_text counts.started)) m4 tt refl)

aggregates_once : (aggregates : SessionAggregates) → HasUniqueKeys (aggregates_json aggregates)
aggregates_once aggregates =
    let m0 = must (codes "attrs") (attributes_json aggregates.attributes) none (session_attributes_once aggregates.attributes) refl in
    once (must (codes "aggregates") (array (items_of counts_json aggregates.aggregates)) m0 (each_once counts_json counts_once aggregates.aggregates) refl)

-- ---- logs, metrics and reports

typed_value_once : (d : Data) → HasUniqueKeys (typed_value d)
typed_value_once kind.null = tt
typed_value_once (kind.boolean b) = tt
typed_value_once (kind.integer z) = tt
typed_value_once (kind.text bytes) = tt
typed_value_once (kind.list ds) = tt
typed_value_once (kind.map_of ms) = tt

attribute_once : (attribute : LogAttribute) → HasUniqueKeys (attribute_json attribute)
attribute_once attribute =
    once (must (codes "value") (typed_value (data_of attribute.0))
    (must (codes "type") (string (type_name (data_of attribute.0))) none tt refl) (typed_value_once (data_of attribute.0)) refl)

log_once : (log : Log) → KeysOnce log.attributes → HasUniqueKeys (log_json log)
log_once log h =
    let m0 = may_map attribute_json (codes "attributes") log.attributes none (map_of_each attribute_json attribute_once log.attributes h) refl in
    let m1 = must (codes "timestamp") (number (seconds_text log.timestamp)) m0 tt refl in
    let m2 = may trace_id_json (codes "trace_id") log.trace_id m1 (plain log.trace_id) refl in
    let m3 = must (codes "body") (string log.body) m2 tt refl in
    once (must (codes "level") (string (log_level_name log.level)) m3 tt refl)

metric_once : (metric : Metric) → KeysOnce metric.attributes → HasUniqueKeys (metric_json metric)
metric_once metric h =
    let m0 = may_map attribute_json (codes "attributes") metric.attributes none (map_of_each attribute_json attribute_once metric.attributes h) refl in
    let m1 = may unit_json (codes "unit") metric.unit m0 (plain metric.unit) refl in
    let m2 = may span_id_json (codes "span_id") metric.span_id m1 (plain metric.span_id) refl in
    let m3 = must (codes "trace_id") (trace_id_json metric.trace_id) m2 tt refl in
    let m4 = must (codes "timestamp") (number (seconds_text metric.timestamp)) m3 tt refl in
    let m5 = must (codes "value") (number (signed_decimal metric.value)) m4 tt refl in
    let m6 = must (codes "name") (string metric.name) m5 tt refl in
    once (must (codes "type") (string (metric_type_name metric.metric_type)) m6 tt refl)

loss_once : (loss : ClientReportItem) → HasUniqueKeys (loss_json loss)
loss_once loss =
    let m0 = must (codes "quantity") (whole loss.quantity) none tt refl in
    let m1 = must (codes "category") (string (category_name loss.category)) m0 tt refl in
    once (must (codes "reason") (string (reason_name loss.reason)) m1 tt refl)

-- an object of one list
list_once : (k : Bytes) (items : Items) → ItemsHaveUniqueKeys items → HasUniqueKeys (object (member k (array items) no_members))
list_once k items h = (single k, (h, tt))

-- ---- items

pub names_come_once : (ss : Stacktraces) (i : EnvelopeItem) → MapsHaveKeysOnce ss i → NamesComeOnce (item_content ss i)
names_come_once ss (sent.Event event) h = event_once ss event h
names_come_once ss (sent.SessionUpdate session) h = session_once session
names_come_once ss (sent.SessionAggregates aggregates) h = aggregates_once aggregates
names_come_once ss (sent.Transaction transaction) h = transaction_once transaction h
names_come_once ss (sent.Attachment attachment) h = tt
names_come_once ss (sent.Logs logs) h =
    list_once (codes "items") (items_of log_json logs) (items_once log_json (λ log. KeysOnce log.attributes) log_once logs h)
names_come_once ss (sent.Metrics metrics) h =
    list_once (codes "items") (items_of metric_json metrics) (items_once metric_json (λ metric. KeysOnce metric.attributes) metric_once metrics h)
names_come_once ss (sent.ClientReport report) h =
    list_once (codes "discarded_events") (items_of loss_json report.items) (each_once loss_json loss_once report.items)
