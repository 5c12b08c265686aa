use Rattle.sentry_framing.proofs.Written.{made, then}
use Rattle.sentry_envelope.proofs.contexts.write_other.Goals as goal

pub returns : goal.returns
returns c =
    made c.in_ok-begin_object.ensures
    (then c.in_ok-put_text.ensures c.in_ok-put_others.ensures)
    c.in_ok-end_object.ensures
