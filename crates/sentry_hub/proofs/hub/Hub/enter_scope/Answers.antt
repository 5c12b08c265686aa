use Rattle.sentry_hub.proofs.Locked.{same_as}
use Rattle.sentry_calls.specs.Layers as layers
use Rattle.sentry_lock.specs.Answers.{LockAnswers}
use Rattle.std.specs.Sync.Mutex.{mutex_guard_value}
use Rattle.sentry_hub.proofs.hub.Hub.enter_scope.Goals as goal

pub returns-in-Ok-clause-guard : goal.returns-in-Ok-clause-guard
returns-in-Ok-clause-guard g c =
    same_as (λ guard. LockAnswers g.row.L-Processor.Denot g.row.L-Callbacks.Denot g.row.L-Transport.Denot guard
    (layers.push_scope c.args.self.now)) c.in-Ok.guard (rw (← c.lock.ensures) (mutex_guard_value c.lock.result.guard.under, c.in-Ok.ensures.guard))
    c.configure_layer.result c.configure_layer.ensures.guard
