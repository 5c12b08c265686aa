use Rattle.sentry_hub.proofs.Locked.{locked_answers, refuses_same}
use Rattle.sentry_calls.specs.Hubs as hubs
use Rattle.sentry_state.specs.Outcomes.{nothing}
use Rattle.std.proofs.Common.{Ok, Err, None, inl}
use Rattle.std.specs.Sync.Mutex.{mutex_guard_value}
use Rattle.sentry_hub.proofs.hub.Hub.add_breadcrumb_with.Goals as goal

pub returns-in-Ok-None-clause-done : goal.returns-in-Ok-None-clause-done
returns-in-Ok-None-clause-done g c = rw (← c.lock.ensures) (inl (locked_answers (mutex_guard_value c.lock.result.guard.under) nothing (hubs.client c.lock.result.hub) (Ok None) (rw (← c.in-Ok-None.field-0-is) c.in-Ok-None.ensures.done)))

pub returns-in-Err-clause-refused : goal.returns-in-Err-clause-refused
returns-in-Err-clause-refused g c =
    inl (refuses_same (mutex_guard_value c.lock.result.guard.under) (λ hub. hubs.client hub) _ _ c.lock.ensures nothing (Err c.in-Err.refusal) c.in-Err.ensures.refused)
