use Rattle.sentry_framing.proofs.Written.{made, then}
use Rattle.sentry_envelope.proofs.spans.SpanWriteJson.write.Goals as goal

pub returns : goal.returns
returns c =
    made c.in_ok-begin_object.ensures
    (then c.in_ok-put_span_id.ensures (then c.in_ok-put_trace_id.ensures
    (then c.in_ok-put_optional_span_id.ensures (then c.in_ok-put_optional.ensures
    (then c.in_ok-put_optional-2.ensures (then c.in_ok-put_optional_seconds.ensures
    (then c.in_ok-put_seconds.ensures (then c.in_ok-put_status.ensures (then c.in_ok-put_text_map.ensures
    c.in_ok-put_values.ensures)))))))))
    c.in_ok-end_object.ensures
