use Rattle.sentry_framing.proofs.Written.{made, then}
use Rattle.sentry_envelope.proofs.requests.write_request.Goals as goal

pub returns : goal.returns
returns c =
    made c.in_ok-begin_object.ensures
    (then c.in_ok-put_optional.ensures (then c.in_ok-put_optional-2.ensures
    (then c.in_ok-put_optional-3.ensures (then c.in_ok-put_optional-4.ensures
    (then c.in_ok-put_optional-5.ensures (then c.in_ok-put_text_map.ensures c.in_ok-put_text_map-2.ensures))))))
    c.in_ok-end_object.ensures
