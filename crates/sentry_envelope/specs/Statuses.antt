-- The JSON of how spans ended.
use Rattle.json.specs.Json.{Json, string}
use Rattle.sentry_base.specs.declared.protocol.context.SpanStatus.{SpanStatus}
use Rattle.sentry_base.specs.Names.{span_status_name}

abbrev pub span_status_json : SpanStatus → Json
span_status_json span_status = string (span_status_name span_status)
