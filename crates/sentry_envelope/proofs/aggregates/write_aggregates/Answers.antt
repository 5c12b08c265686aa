use Rattle.std.proofs.Common.{ap}
use Rattle.json.specs.Json.{array}
use Rattle.sentry_framing.specs.Json.{items_of}
use Rattle.sentry_envelope.specs.Aggregates.{counts_json}
use Rattle.sentry_envelope.specs.Sessions.{attributes_json}
use Rattle.sentry_framing.proofs.Written.{made, puts, same_json, then}
use Rattle.sentry_envelope.proofs.aggregates.write_aggregates.Goals as goal

pub returns : goal.returns
returns c =
    let counts =
    puts (array (items_of counts_json c.args.aggregates.now.aggregates)) c.in_ok-key.ensures
    (same_json (array (items_of counts_json c.as_slice.result.now)) c.in_ok-write_items.ensures
    (ap (λ xs. array (items_of counts_json xs)) c.as_slice.ensures)) in
    made c.in_ok-begin_object.ensures
    (then counts
    (puts (attributes_json c.args.aggregates.now.attributes) c.in_ok-key-2.ensures
    (same_json (attributes_json c.get.result.now) c.in_ok-write_attributes.ensures (ap attributes_json c.get.ensures))))
    c.in_ok-end_object.ensures
