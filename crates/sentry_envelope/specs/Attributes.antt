-- The JSON of the attributes of logs and metrics.
use Rattle.std.specs.Prelude.{codes}
use Rattle.json.specs.Json.{Json, string, object, no_members, member}
use Rattle.sentry_plain.specs.Texts.{Bytes}
use Rattle.sentry_plain.specs.Values.{Data, null, boolean, integer, text, list, map_of}
use Rattle.sentry_plain.specs.ValueView.{data_of}
use Rattle.sentry_base.specs.declared.protocol.log.LogAttribute.{LogAttribute}
use Rattle.sentry_framing.specs.Json.{json_text}
use Rattle.sentry_envelope.specs.Values.{value_json}

abbrev pub type_name : Data → Bytes
type_name null = codes "string"
type_name (boolean b) = codes "boolean"
type_name (integer z) = codes "integer"
type_name (text bytes) = codes "string"
type_name (list ds) = codes "string"
type_name (map_of ms) = codes "string"

-- null, a list or a map is sent as the text of its JSON
abbrev pub typed_value : Data → Json
typed_value null = string (json_text (value_json null))
typed_value (boolean b) = value_json (boolean b)
typed_value (integer z) = value_json (integer z)
typed_value (text bytes) = value_json (text bytes)
typed_value (list ds) = string (json_text (value_json (list ds)))
typed_value (map_of ms) = string (json_text (value_json (map_of ms)))

abbrev pub attribute_json : LogAttribute → Json
attribute_json attribute = object
    (member (codes "value") (typed_value (data_of attribute.0))
    (member (codes "type") (string (type_name (data_of attribute.0)))
    no_members))
