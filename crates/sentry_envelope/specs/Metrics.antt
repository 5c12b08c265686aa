-- The JSON of metrics.
use Rattle.std.specs.Prelude.{codes, List}
use Rattle.std.specs.Fmt.{signed_decimal}
use Rattle.json.specs.Json.{Json, number, string, array, object, no_members, member}
use Rattle.sentry_base.specs.declared.protocol.metric.Metric.{Metric}
use Rattle.sentry_base.specs.declared.protocol.unit.Unit.{Unit}
use Rattle.sentry_base.specs.Names.{metric_type_name, unit_name}
use Rattle.sentry_framing.specs.Json.{optional, items_of}
use Rattle.sentry_framing.specs.Moments.{seconds_text}
use Rattle.sentry_envelope.specs.Attributes.{attribute_json}
use Rattle.sentry_envelope.specs.Ids.{span_id_json, trace_id_json}
use Rattle.sentry_envelope.specs.Members.{put_map}

abbrev pub unit_json : Unit → Json
unit_json unit = string (unit_name unit)

abbrev pub metric_json : Metric → Json
metric_json metric = object
    (member (codes "type") (string (metric_type_name metric.metric_type))
    (member (codes "name") (string metric.name)
    (member (codes "value") (number (signed_decimal metric.value))
    (member (codes "timestamp") (number (seconds_text metric.timestamp))
    (member (codes "trace_id") (trace_id_json metric.trace_id)
    (optional span_id_json (codes "span_id") metric.span_id
    (optional unit_json (codes "unit") metric.unit
    (put_map attribute_json (codes "attributes") metric.attributes
    no_members))))))))

-- what one item of an envelope holds
abbrev pub metrics_json : List Metric → Json
metrics_json metrics = object (member (codes "items") (array (items_of metric_json metrics)) no_members)
