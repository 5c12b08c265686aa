use Rattle.sentry_lock.proofs.LockAnswers.{lock_drains}
use Rattle.sentry_lock.proofs.client.Client.capture_metric.Goals as goal

pub returns : goal.returns
returns g c =
    rw (← c.self.view_is, ← c.into_draft-draft.ensures) (lock_drains c.behind-guard.inside.core c.client_capture_metric.new.self.engine c.client_capture_metric.new.self.drainers _ c.in_ok-handed.handed.out
    c.deliver.result c.deliver.ensures c.in_ok-handed.ensures.done)
