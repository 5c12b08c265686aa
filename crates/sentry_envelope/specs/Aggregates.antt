-- The JSON of counts of sessions.
use Rattle.std.specs.Prelude.{codes, ℕ, ◌==◌, if◌then◌else◌}
use Rattle.json.specs.Json.{Json, string, array, object, Members, no_members, member}
use Rattle.sentry_plain.specs.Texts.{Bytes}
use Rattle.sentry_base.specs.declared.protocol.session.SessionAggregateItem.{SessionAggregateItem}
use Rattle.sentry_base.specs.declared.protocol.session.SessionAggregates.{SessionAggregates}
use Rattle.sentry_framing.specs.Json.{whole, optional, items_of}
use Rattle.sentry_framing.specs.Moments.{moment_text}
use Rattle.sentry_envelope.specs.Sessions.{attributes_json}

-- a count that is left out if it is zero
abbrev pub put_count : Bytes → ℕ → Members → Members
put_count key n rest = if n == 0 then rest else member key (whole n) rest

abbrev pub counts_json : SessionAggregateItem → Json
counts_json counts = object
    (member (codes "started") (string (moment_text counts.started))
    (optional string (codes "did") counts.distinct_id
    (put_count (codes "exited") counts.exited
    (put_count (codes "errored") counts.errored
    (put_count (codes "abnormal") counts.abnormal
    (put_count (codes "crashed") counts.crashed
    no_members))))))

abbrev pub aggregates_json : SessionAggregates → Json
aggregates_json aggregates = object
    (member (codes "aggregates") (array (items_of counts_json aggregates.aggregates))
    (member (codes "attrs") (attributes_json aggregates.attributes)
    no_members))
