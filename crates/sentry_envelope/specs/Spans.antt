-- The JSON of spans.
use Rattle.std.specs.Prelude.{codes}
use Rattle.json.specs.Json.{Json, number, string, object, no_members, member}
use Rattle.sentry_base.specs.declared.protocol.span.Span.{Span}
use Rattle.sentry_framing.specs.Json.{optional}
use Rattle.sentry_framing.specs.Moments.{seconds_text}
use Rattle.sentry_envelope.specs.Breadcrumbs.{put_values}
use Rattle.sentry_envelope.specs.Ids.{span_id_json, trace_id_json}
use Rattle.sentry_envelope.specs.Members.{put_map}
use Rattle.sentry_envelope.specs.Statuses.{span_status_json}

abbrev pub span_json : Span → Json
span_json span = object
    (member (codes "span_id") (span_id_json span.span_id)
    (member (codes "trace_id") (trace_id_json span.trace_id)
    (optional span_id_json (codes "parent_span_id") span.parent_span_id
    (optional string (codes "op") span.op
    (optional string (codes "description") span.description
    (optional (λ n. number (seconds_text n)) (codes "timestamp") span.timestamp
    (member (codes "start_timestamp") (number (seconds_text span.start_timestamp))
    (optional span_status_json (codes "status") span.status
    (put_map string (codes "tags") span.tags
    (put_values (codes "data") span.data_
    no_members))))))))))
