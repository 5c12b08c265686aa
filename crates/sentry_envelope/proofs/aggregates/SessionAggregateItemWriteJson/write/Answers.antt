use Rattle.sentry_framing.proofs.Written.{made, then}
use Rattle.sentry_envelope.proofs.aggregates.SessionAggregateItemWriteJson.write.Goals as goal

pub returns : goal.returns
returns c =
    made c.in_ok-begin_object.ensures
    (then c.in_ok-put_moment.ensures (then c.in_ok-put_optional.ensures (then c.in_ok-put_count.ensures
    (then c.in_ok-put_count-2.ensures (then c.in_ok-put_count-3.ensures c.in_ok-put_count-4.ensures)))))
    c.in_ok-end_object.ensures
