-- The JSON of events.
use Rattle.std.specs.Prelude.{codes, ℕ, ◌+◌, List, [], ◌∷◌, Option, None, get_or}
use Rattle.json.specs.Json.{Json, boolean, number, string, array, object, Items, no_items, item, Members, no_members, member}
use Rattle.uuid.specs.Text.{simple_text, lower}
use Rattle.sentry_plain.specs.Texts.{Bytes}
use Rattle.sentry_plain.specs.ValueView.{data_of}
use Rattle.sentry_plain.specs.declared.value.Value.{Value}
use Rattle.sentry_base.specs.declared.protocol.exception.Exception.{Exception}
use Rattle.sentry_base.specs.declared.protocol.exception.Mechanism.{Mechanism}
use Rattle.sentry_base.specs.declared.protocol.event.Event.{Event}
use Rattle.sentry_framing.specs.Json.{optional, items_of}
use Rattle.sentry_framing.specs.Moments.{seconds_text}
use Rattle.sentry_base.specs.Names.{level_name}
use Rattle.sentry_envelope.specs.Breadcrumbs.{put_values, breadcrumb_json}
use Rattle.sentry_envelope.specs.Contexts.{context_json}
use Rattle.sentry_envelope.specs.Members.{put_map}
use Rattle.sentry_envelope.specs.Requests.{request_json}
use Rattle.sentry_envelope.specs.Sdks.{sdk_json}
use Rattle.sentry_envelope.specs.Users.{user_json}
use Rattle.sentry_envelope.specs.Values.{value_json}

-- a list as `{"values":[..]}`, if it has any
abbrev pub put_list : {X : Type 0} → (X → Json) → Bytes → List X → Members → Members
put_list to_json key [] rest = rest
put_list to_json key (x ∷ xs) rest = member key (object (member (codes "values") (array (items_of to_json (x ∷ xs))) no_members)) rest

abbrev pub mechanism_json : Mechanism → Json
mechanism_json mechanism = object
    (member (codes "type") (string mechanism.ty)
    (optional boolean (codes "handled") mechanism.handled
    no_members))

abbrev pub stacktrace_json : Value → Json
stacktrace_json stacktrace = value_json (data_of stacktrace)

abbrev pub exception_json : Option Value → Exception → Json
exception_json stacktrace exception = object
    (member (codes "type") (string exception.ty)
    (optional string (codes "value") exception.value
    (optional mechanism_json (codes "mechanism") exception.mechanism
    (optional stacktrace_json (codes "stacktrace") stacktrace
    no_members))))

-- exceptions from an index on, each with the stack trace at its index, if there is one
abbrev pub exceptions_json : List (Option Value) → ℕ → List Exception → Items
exceptions_json stacktraces i [] = no_items
exceptions_json stacktraces i (e ∷ es) = item (exception_json (get_or stacktraces i None) e) (exceptions_json stacktraces (i + 1) es)

-- the exceptions, if there are any; without one, the first stack trace is that of the event
abbrev pub put_exceptions : List (Option Value) → List Exception → Members → Members
put_exceptions stacktraces [] rest = optional stacktrace_json (codes "stacktrace") (get_or stacktraces 0 None) rest
put_exceptions stacktraces (e ∷ es) rest =
    member (codes "exception") (object (member (codes "values") (array (exceptions_json stacktraces 0 (e ∷ es))) no_members)) rest

-- an event, with the stack traces of its exceptions
abbrev pub event_json : List (Option Value) → Event → Json
event_json stacktraces event = object
    (member (codes "event_id") (string (simple_text lower event.event_id))
    (member (codes "level") (string (level_name event.level))
    (member (codes "fingerprint") (array (items_of string event.fingerprint))
    (optional string (codes "transaction") event.transaction
    (optional string (codes "message") event.message
    (member (codes "platform") (string event.platform)
    (member (codes "timestamp") (number (seconds_text event.timestamp))
    (optional string (codes "server_name") event.server_name
    (optional string (codes "release") event.release
    (optional string (codes "environment") event.environment
    (optional user_json (codes "user") event.user
    (optional request_json (codes "request") event.request
    (put_map context_json (codes "contexts") event.contexts
    (put_list breadcrumb_json (codes "breadcrumbs") event.breadcrumbs
    (put_exceptions stacktraces event.exception
    (put_map string (codes "tags") event.tags
    (put_values (codes "extra") event.extra
    (optional sdk_json (codes "sdk") event.sdk
    no_members))))))))))))))))))
