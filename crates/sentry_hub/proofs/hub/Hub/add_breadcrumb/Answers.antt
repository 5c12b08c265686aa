use Rattle.sentry_hub.proofs.Locked.{locked_answers, refuses_same}
use Rattle.sentry_state.specs.Breadcrumbs.{add_breadcrumbs}
use Rattle.sentry_state.specs.Outcomes.{memory}
use Rattle.std.proofs.Common.{Ok, Err, inr}
use Rattle.std.specs.Sync.Mutex.{mutex_guard_value}
use Rattle.sentry_hub.proofs.hub.Hub.add_breadcrumb.Goals as goal

pub returns-in-Ok-clause-done : goal.returns-in-Ok-clause-done
returns-in-Ok-clause-done g c = (c.in_ok-breadcrumbs.breadcrumbs, c.in_ok-breadcrumbs.ensures, rw (← c.lock.ensures) (locked_answers (mutex_guard_value c.lock.result.guard.under) memory (add_breadcrumbs g.L.Callbacks.Callbacks.meanings c.lock.result.hub c.in_ok-breadcrumbs.breadcrumbs) (Ok tt) c.in-Ok.ensures.done))

pub returns-in-Err-clause-refused : goal.returns-in-Err-clause-refused
returns-in-Err-clause-refused g c =
    inr (c.in_ok-breadcrumbs.breadcrumbs, c.in_ok-breadcrumbs.ensures, refuses_same (mutex_guard_value c.lock.result.guard.under) (λ hub. add_breadcrumbs g.L.Callbacks.Callbacks.meanings hub c.in_ok-breadcrumbs.breadcrumbs) _ _ c.lock.ensures memory (Err c.in-Err.refusal) c.in-Err.ensures.refused)
