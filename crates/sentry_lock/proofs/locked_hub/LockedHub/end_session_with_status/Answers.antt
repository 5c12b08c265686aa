use Rattle.sentry_lock.proofs.LockAnswers.{drains}
use Rattle.std.proofs.Common.{◌∙◌}
use Rattle.std.specs.Sync.Mutex.{mutex_guard_value}
use Rattle.sentry_lock.proofs.locked_hub.LockedHub.end_session_with_status.Goals as goal

pub returns : goal.returns
returns g c =
    drains c.behind-guard.inside.core (mutex_guard_value c.args.self.guard.under) (c.behind-guard.view_is ∙ c.deref_mut.ensures.value)
    c.end_session_with_status.new.self.engine c.end_session_with_status.new.self.drainers _ c.in_ok-handed.handed.out
    c.deliver.result c.deliver.ensures c.in_ok-handed.ensures.done
