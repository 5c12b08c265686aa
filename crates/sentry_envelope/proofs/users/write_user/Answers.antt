use Rattle.sentry_framing.proofs.Written.{then, made}
use Rattle.sentry_envelope.proofs.users.write_user.Goals as goal

pub returns : goal.returns
returns c =
    made c.in_ok-begin_object.ensures
    (then c.in_ok-put_optional.ensures (then c.in_ok-put_optional-2.ensures (then c.in_ok-put_optional-3.ensures
    (then c.in_ok-put_optional-4.ensures c.in_ok-put_others.ensures))))
    c.in_ok-end_object.ensures
