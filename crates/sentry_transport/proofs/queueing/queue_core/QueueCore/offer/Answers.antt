use Rattle.std.proofs.Common.{subst, sym, ◌∷◌}
use Rattle.sentry_transport.specs.QueueHistories.{offer_call, Queue, StandsFor}
use Rattle.sentry_transport.proofs.RecordingLemmas.{stands_after_offer}
use Rattle.sentry_transport.proofs.queueing.queue_core.QueueCore.offer.Goals as goal

pub returns : goal.returns
returns c = λ capacity recorder history stands.
    subst (λ (queue : Queue). StandsFor capacity recorder (offer_call c.args.envelope c.args.now ∷ history) queue) (sym c.enqueue_left.ensures)
    (stands_after_offer capacity recorder history c.args.self.now stands c.args.envelope c.args.now)
