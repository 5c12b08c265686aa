-- The JSON of users.
use Rattle.std.specs.Prelude.{codes, Bool, ◌&&◌, ◌||◌, is_some}
use Rattle.std.specs.Str.{bytes_eq}
use Rattle.json.specs.Json.{Json, string, object, no_members}
use Rattle.sentry_plain.specs.Texts.{Bytes}
use Rattle.sentry_base.specs.declared.protocol.user.User.{User}
use Rattle.sentry_framing.specs.Json.{optional}
use Rattle.sentry_envelope.specs.Members.{put_others}
use Rattle.sentry_envelope.specs.Values.{value_json}

-- the names of the members that a user has
abbrev pub user_own : User → Bytes → Bool
user_own user name =
    (bytes_eq name (codes "id") && is_some user.id)
    || (bytes_eq name (codes "email") && is_some user.email)
    || (bytes_eq name (codes "ip_address") && is_some user.ip_address)
    || (bytes_eq name (codes "username") && is_some user.username)

-- further data stands among the members, but for what has the name of one
abbrev pub user_json : User → Json
user_json user = object
    (optional string (codes "id") user.id
    (optional string (codes "email") user.email
    (optional string (codes "ip_address") user.ip_address
    (optional string (codes "username") user.username
    (put_others (user_own user) value_json user.data_
    no_members)))))
