use Rattle.sentry_base.specs.declared.protocol.keys.HubKey.{HubKey}
use Rattle.sentry_lock.specs.Answers.{LockDrainsAndAnswers}
use Rattle.sentry_spans.specs.Spans as spans
use Rattle.std.proofs.Common.{◌≡◌, ◌⊎◌, false, subst}
use Rattle.std.specs.Prelude.{OnOk}
use Rattle.sentry_hub.proofs.performance.kinds.Transaction+L.finish_with_timestamp.Goals as goal

pub returns : goal.returns
returns g c =
    subst (λ (hub : HubKey). OnOk c.finish_on.result ((c.args.self.now.1 ≡ false) ⊎ LockDrainsAndAnswers g.row.L-Processor.Denot g.row.L-Callbacks.Denot g.row.L-Transport.Denot tt
    (spans.finish_transaction c.args.self.now.0 hub c.args.moment))) c.key.ensures c.finish_on.ensures.done
