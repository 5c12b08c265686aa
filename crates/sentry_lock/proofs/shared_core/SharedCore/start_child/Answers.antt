use Rattle.sentry_lock.proofs.LockAnswers.{lock_answers, lock_refuses}
use Rattle.sentry_state.specs.Outcomes.{memory}
use Rattle.sentry_lock.proofs.shared_core.SharedCore.start_child.Goals as goal

pub returns-clause-done : goal.returns-clause-done
returns-clause-done g c =
    lock_answers c.behind-lock.inside.core memory c.start_child.new.self.engine _ c.start_child.result c.start_child.ensures.done

pub returns-clause-refused : goal.returns-clause-refused
returns-clause-refused g c =
    lock_refuses c.behind-lock.inside.core memory c.start_child.new.self.engine _ c.start_child.result c.start_child.ensures.done c.start_child.ensures.refused
