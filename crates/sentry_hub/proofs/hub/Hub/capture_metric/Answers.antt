use Rattle.sentry_hub.proofs.Locked.{locked_drains}
use Rattle.std.specs.Sync.Mutex.{mutex_guard_value}
use Rattle.sentry_hub.proofs.hub.Hub.capture_metric.Goals as goal

pub returns : goal.returns
returns g c = rw (← c.lock.ensures) (rw (← c.into_draft-draft.ensures) (locked_drains (mutex_guard_value c.lock.result.guard.under) _ c.capture_metric.result c.capture_metric.ensures))
