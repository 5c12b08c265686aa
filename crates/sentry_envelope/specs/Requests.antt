-- The JSON of HTTP requests.
use Rattle.std.specs.Prelude.{codes}
use Rattle.json.specs.Json.{Json, string, object, no_members}
use Rattle.sentry_base.specs.declared.protocol.request.Request.{Request}
use Rattle.sentry_framing.specs.Json.{optional}
use Rattle.sentry_envelope.specs.Members.{put_map}

abbrev pub request_json : Request → Json
request_json request = object
    (optional string (codes "url") request.url
    (optional string (codes "method") request.method
    (optional string (codes "data") request.data_
    (optional string (codes "query_string") request.query_string
    (optional string (codes "cookies") request.cookies
    (put_map string (codes "headers") request.headers
    (put_map string (codes "env") request.env
    no_members)))))))
