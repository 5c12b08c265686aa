use Rattle.sentry_framing.proofs.Written.{made, says, then}
use Rattle.sentry_envelope.proofs.metrics.MetricWriteJson.write.Goals as goal

pub returns : goal.returns
returns c =
    made c.in_ok-begin_object.ensures
    (then (says c.in_ok-put_text.ensures c.as_str.ensures)
    (then (says c.in_ok-put_text-2.ensures c.as_str-2.ensures) (then c.in_ok-put_amount.ensures
    (then c.in_ok-put_seconds.ensures (then c.in_ok-put_trace_id.ensures
    (then c.in_ok-put_optional_span_id.ensures (then c.in_ok-put_unit.ensures
    c.in_ok-put_attributes.ensures)))))))
    c.in_ok-end_object.ensures
