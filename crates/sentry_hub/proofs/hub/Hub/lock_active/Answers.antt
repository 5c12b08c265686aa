use Rattle.sentry_base.specs.declared.protocol.keys.HubKey.{HubKey}
use Rattle.sentry_calls.specs.Hubs as hubs
use Rattle.sentry_lock.specs.Answers.{LockAnswersWithoutMemory}
use Rattle.std.proofs.Common.{◌≡◌, false, subst}
use Rattle.std.specs.Prelude.{IfOk, MatchOption}
use Rattle.sentry_hub.proofs.hub.Hub.lock_active.Goals as goal

pub returns : goal.returns
returns g c =
    subst (λ (hub : HubKey). IfOk c.lock_active.result (λ found. MatchOption found
    (LockAnswersWithoutMemory g.row.L-Processor.Denot g.row.L-Callbacks.Denot g.row.L-Transport.Denot false (hubs.is_active hub)) (λ locked. locked.hub ≡ hub)))
    c.self.view_is c.lock_active.ensures
