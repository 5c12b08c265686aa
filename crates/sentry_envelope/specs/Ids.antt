-- The JSON of the ids of traces and spans: hexadecimal digits in lower case.
use Rattle.json.specs.Json.{Json, string}
use Rattle.hex.specs.Hex.{encode_lower}
use Rattle.sentry_base.specs.declared.protocol.ids.SpanId.{SpanId}
use Rattle.sentry_base.specs.declared.protocol.ids.TraceId.{TraceId}

abbrev pub trace_id_json : TraceId → Json
trace_id_json id = string (encode_lower id.0)

abbrev pub span_id_json : SpanId → Json
span_id_json id = string (encode_lower id.0)
