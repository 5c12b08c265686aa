use Rattle.std.proofs.Common.{length, ap, arith, length-append}
use Rattle.sentry_transport.specs.QueueHistories.{queued_envelopes, taken_envelopes}
use Rattle.sentry_transport.proofs.CountLemmas.{offers_add_up}
use Rattle.sentry_transport.proofs.laws.envelopes_add_up.Goals as goal

pub returns : goal.returns
returns c = λ capacity history.
    let order = ap length (c.queue_keeps_order.ensures.order capacity history) in
    let both = length-append (taken_envelopes capacity history) (queued_envelopes capacity history) in
    let all = offers_add_up capacity history in omega arith
