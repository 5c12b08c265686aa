use Rattle.sentry_framing.proofs.Written.{made, then}
use Rattle.sentry_envelope.proofs.contexts.write_trace_context.Goals as goal

pub returns : goal.returns
returns c =
    made c.in_ok-begin_object.ensures
    (then c.in_ok-put_text.ensures (then c.in_ok-put_span_id.ensures (then c.in_ok-put_trace_id.ensures
    (then c.in_ok-put_optional_span_id.ensures (then c.in_ok-put_optional.ensures
    (then c.in_ok-put_optional-2.ensures (then c.in_ok-put_values.ensures (then c.in_ok-put_status.ensures
    c.in_ok-put_optional-3.ensures))))))))
    c.in_ok-end_object.ensures
