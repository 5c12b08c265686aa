use Rattle.sentry_hub.proofs.Locked.{locked_answers, refuses_same}
use Rattle.sentry_calls.specs.Hubs as hubs
use Rattle.sentry_state.specs.Outcomes.{memory}
use Rattle.std.proofs.Common.{Ok, Err}
use Rattle.std.specs.Sync.Mutex.{mutex_guard_value}
use Rattle.sentry_hub.proofs.hub.Hub.scope.Goals as goal

pub returns-in-Ok-clause-done : goal.returns-in-Ok-clause-done
returns-in-Ok-clause-done g c = rw (← c.lock.ensures) (rw c.into_inner.ensures (locked_answers (mutex_guard_value c.lock.result.guard.under) memory (hubs.scope c.lock.result.hub) (Ok c.in-Ok.scope) c.in-Ok.ensures.done))

pub returns-in-Err-clause-refused : goal.returns-in-Err-clause-refused
returns-in-Err-clause-refused g c =
    refuses_same (mutex_guard_value c.lock.result.guard.under) (λ hub. hubs.scope hub) _ _ c.lock.ensures memory (Err c.in-Err.refusal) c.in-Err.ensures.refused
