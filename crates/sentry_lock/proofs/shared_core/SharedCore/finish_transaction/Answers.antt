use Rattle.sentry_lock.proofs.LockAnswers.{lock_drains}
use Rattle.sentry_lock.proofs.shared_core.SharedCore.finish_transaction.Goals as goal

pub returns : goal.returns
returns g c =
    lock_drains c.behind-guard.inside.core c.finish_transaction.new.self.engine c.finish_transaction.new.self.drainers _ c.in_ok-handed.handed.out
    c.deliver.result c.deliver.ensures c.in_ok-handed.ensures.done
