-- The JSON of transactions.
use Rattle.std.specs.Prelude.{codes}
use Rattle.json.specs.Json.{Json, number, string, array, object, no_members, member}
use Rattle.uuid.specs.Text.{simple_text, lower}
use Rattle.sentry_base.specs.declared.protocol.transaction.Transaction.{Transaction}
use Rattle.sentry_framing.specs.Json.{optional, items_of}
use Rattle.sentry_framing.specs.Moments.{seconds_text}
use Rattle.sentry_envelope.specs.Breadcrumbs.{put_values}
use Rattle.sentry_envelope.specs.Contexts.{context_json}
use Rattle.sentry_envelope.specs.Members.{put_map}
use Rattle.sentry_envelope.specs.Requests.{request_json}
use Rattle.sentry_envelope.specs.Sdks.{sdk_json}
use Rattle.sentry_envelope.specs.Spans.{span_json}
use Rattle.sentry_envelope.specs.Users.{user_json}

abbrev pub transaction_json : Transaction → Json
transaction_json transaction = object
    (member (codes "event_id") (string (simple_text lower transaction.event_id))
    (optional string (codes "transaction") transaction.name
    (optional string (codes "release") transaction.release
    (optional string (codes "environment") transaction.environment
    (optional user_json (codes "user") transaction.user
    (put_map string (codes "tags") transaction.tags
    (put_values (codes "extra") transaction.extra
    (optional sdk_json (codes "sdk") transaction.sdk
    (member (codes "platform") (string transaction.platform)
    (optional (λ n. number (seconds_text n)) (codes "timestamp") transaction.timestamp
    (member (codes "start_timestamp") (number (seconds_text transaction.start_timestamp))
    (member (codes "spans") (array (items_of span_json transaction.spans))
    (put_map context_json (codes "contexts") transaction.contexts
    (optional request_json (codes "request") transaction.request
    (optional string (codes "server_name") transaction.server_name
    no_members)))))))))))))))
