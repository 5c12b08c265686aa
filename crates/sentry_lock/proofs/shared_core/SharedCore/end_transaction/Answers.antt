use Rattle.sentry_lock.proofs.LockAnswers.{if_drained, lock_drains}
use Rattle.sentry_lock.proofs.shared_core.SharedCore.end_transaction.Goals as goal

pub returns : goal.returns
returns g c =
    if_drained _ c.deliver.result (lock_drains c.behind-guard.inside.core c.end_transaction.new.self.engine
    c.end_transaction.new.self.drainers _ c.in_ok-handed.handed.out c.deliver.result c.deliver.ensures
    c.in_ok-handed.ensures.done)
