use Rattle.sentry_lock.proofs.LockAnswers.{lock_answers, lock_refuses}
use Rattle.sentry_state.specs.Outcomes.{memory}
use Rattle.sentry_lock.proofs.shared_core.SharedCore.new_hub.Goals as goal

pub returns-clause-done : goal.returns-clause-done
returns-clause-done g c =
    lock_answers c.behind-lock.inside.core memory c.new_hub-added.new.self.engine _ c.new_hub-added.result c.new_hub-added.ensures.done

pub returns-clause-refused : goal.returns-clause-refused
returns-clause-refused g c =
    lock_refuses c.behind-lock.inside.core memory c.new_hub-added.new.self.engine _ c.new_hub-added.result c.new_hub-added.ensures.done c.new_hub-added.ensures.refused
