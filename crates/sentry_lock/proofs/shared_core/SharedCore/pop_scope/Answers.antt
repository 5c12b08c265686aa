use Rattle.sentry_lock.proofs.LockAnswers.{lock_drains}
use Rattle.sentry_lock.proofs.shared_core.SharedCore.pop_scope.Goals as goal

pub returns-clause-done : goal.returns-clause-done
returns-clause-done g c =
    lock_drains c.behind-held.inside.core c.pop_scope.new.self.engine c.pop_scope.new.self.drainers _ c.in_ok-handed.handed.out
    c.deliver.result c.deliver.ensures c.in_ok-handed.ensures.done
