-- The JSON of logs.
use Rattle.std.specs.Prelude.{codes, List}
use Rattle.json.specs.Json.{Json, number, string, array, object, no_members, member}
use Rattle.sentry_base.specs.declared.protocol.log.Log.{Log}
use Rattle.sentry_base.specs.Names.{log_level_name}
use Rattle.sentry_framing.specs.Json.{optional, items_of}
use Rattle.sentry_framing.specs.Moments.{seconds_text}
use Rattle.sentry_envelope.specs.Attributes.{attribute_json}
use Rattle.sentry_envelope.specs.Ids.{trace_id_json}
use Rattle.sentry_envelope.specs.Members.{put_map}

abbrev pub log_json : Log → Json
log_json log = object
    (member (codes "level") (string (log_level_name log.level))
    (member (codes "body") (string log.body)
    (optional trace_id_json (codes "trace_id") log.trace_id
    (member (codes "timestamp") (number (seconds_text log.timestamp))
    (put_map attribute_json (codes "attributes") log.attributes
    no_members)))))

-- what one item of an envelope holds
abbrev pub logs_json : List Log → Json
logs_json logs = object (member (codes "items") (array (items_of log_json logs)) no_members)
