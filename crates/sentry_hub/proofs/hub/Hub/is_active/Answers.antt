use Rattle.sentry_calls.specs.Hubs as hubs
use Rattle.sentry_hub.proofs.Locked.{locked_answers, refuses_same}
use Rattle.sentry_state.specs.Outcomes.{nothing}
use Rattle.std.specs.Sync.Mutex.{mutex_guard_value}
use Rattle.sentry_hub.proofs.hub.Hub.is_active.Goals as goal

pub returns-clause-done : goal.returns-clause-done
returns-clause-done g c = rw (← c.lock.ensures) (locked_answers (mutex_guard_value c.lock.result.guard.under) nothing _ c.is_active.result c.is_active.ensures.done)

pub returns-clause-refused : goal.returns-clause-refused
returns-clause-refused g c =
    refuses_same (mutex_guard_value c.lock.result.guard.under) (λ hub. hubs.is_active hub) _ _ c.lock.ensures nothing c.is_active.result c.is_active.ensures.refused
