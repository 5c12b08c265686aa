use Rattle.sentry_hub.proofs.Locked.{locked_answers}
use Rattle.sentry_calls.specs.Hubs as hubs
use Rattle.sentry_state.specs.Outcomes.{memory}
use Rattle.std.proofs.Common.{Ok}
use Rattle.std.specs.Sync.Mutex.{mutex_guard_value}
use Rattle.sentry_hub.proofs.hub.Hub.configure_scope.Goals as goal

pub returns : goal.returns
returns g c = (c.in_ok-scope.scope, rw (← c.lock.ensures) (locked_answers (mutex_guard_value c.lock.result.guard.under) memory (hubs.scope c.lock.result.hub) (Ok c.in_ok-scope.scope) c.in_ok-scope.ensures.done), c.in_ok-answer.ensures)
