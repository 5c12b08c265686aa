use Rattle.std.proofs.Common.{ap}
use Rattle.json.specs.Json.{array}
use Rattle.sentry_framing.specs.Json.{items_of}
use Rattle.sentry_envelope.specs.Spans.{span_json}
use Rattle.sentry_framing.proofs.Written.{made, puts, same_json, says, then}
use Rattle.sentry_envelope.proofs.transactions.write_transaction.Goals as goal

pub returns : goal.returns
returns c =
    let spans =
    puts (array (items_of span_json c.args.transaction.now.spans)) c.in_ok-key.ensures
    (same_json (array (items_of span_json c.as_slice.result.now)) c.in_ok-write_items.ensures
    (ap (λ xs. array (items_of span_json xs)) c.as_slice.ensures)) in
    made c.in_ok-begin_object.ensures
    (then c.in_ok-put_simple.ensures (then c.in_ok-put_optional.ensures (then c.in_ok-put_optional-2.ensures
    (then c.in_ok-put_optional-3.ensures (then c.in_ok-put_user.ensures (then c.in_ok-put_text_map.ensures
    (then c.in_ok-put_values.ensures (then c.in_ok-put_sdk.ensures
    (then (says c.in_ok-put_text.ensures c.as_str.ensures) (then c.in_ok-put_optional_seconds.ensures
    (then c.in_ok-put_seconds.ensures (then spans (then c.in_ok-put_text_map-2.ensures
    (then c.in_ok-put_request.ensures c.in_ok-put_optional-4.ensures))))))))))))))
    c.in_ok-end_object.ensures
