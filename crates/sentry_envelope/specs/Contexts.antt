-- The JSON of contexts.
use Rattle.std.specs.Prelude.{codes, Bool, List, Option}
use Rattle.std.specs.Str.{bytes_eq}
use Rattle.json.specs.Json.{Json, string, object, no_members, member}
use Rattle.sentry_plain.specs.Texts.{Bytes}
use Rattle.sentry_plain.specs.Values.{Data}
use Rattle.sentry_base.specs.declared.protocol.context.Context.{Context}
use Rattle.sentry_base.specs.declared.protocol.context.Context.TheVariants as context
use Rattle.sentry_base.specs.declared.protocol.context.TraceContext.{TraceContext}
use Rattle.sentry_framing.specs.Json.{optional}
use Rattle.sentry_envelope.specs.Breadcrumbs.{put_values}
use Rattle.sentry_envelope.specs.Ids.{span_id_json, trace_id_json}
use Rattle.sentry_envelope.specs.Members.{put_others}
use Rattle.sentry_envelope.specs.Statuses.{span_status_json}
use Rattle.sentry_envelope.specs.Values.{value_json}

abbrev pub trace_context_json : TraceContext → Json
trace_context_json trace = object
    (member (codes "type") (string (codes "trace"))
    (member (codes "span_id") (span_id_json trace.span_id)
    (member (codes "trace_id") (trace_id_json trace.trace_id)
    (optional span_id_json (codes "parent_span_id") trace.parent_span_id
    (optional string (codes "op") trace.op
    (optional string (codes "description") trace.description
    (put_values (codes "data") trace.data_
    (optional span_status_json (codes "status") trace.status
    (optional string (codes "origin") trace.origin
    no_members)))))))))

abbrev pub os_json : Option Bytes → Option Bytes → Json
os_json name version = object
    (member (codes "type") (string (codes "os"))
    (optional string (codes "name") name
    (optional string (codes "version") version
    no_members)))

-- the name of the member that a context of no kind that is known here has beside its values
abbrev pub other_own : Bytes → Bool
other_own name = bytes_eq name (codes "type")

abbrev pub other_json : List (Bytes × Data) → Json
other_json values = object
    (member (codes "type") (string (codes "unknown"))
    (put_others other_own value_json values
    no_members))

abbrev pub context_json : Context → Json
context_json (context.Trace trace) = trace_context_json trace
context_json (context.Os name version) = os_json name version
context_json (context.Other values) = other_json values
