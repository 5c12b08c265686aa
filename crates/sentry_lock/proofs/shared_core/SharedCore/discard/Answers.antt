use Rattle.sentry_lock.proofs.LockAnswers.{lock_answers, lock_refuses}
use Rattle.sentry_state.specs.Outcomes.{nothing}
use Rattle.sentry_lock.proofs.shared_core.SharedCore.discard.Goals as goal

pub returns-clause-done : goal.returns-clause-done
returns-clause-done g c =
    lock_answers c.behind-lock.inside.core nothing c.discard.new.self.engine _ c.discard.result c.discard.ensures.done

pub returns-clause-refused : goal.returns-clause-refused
returns-clause-refused g c =
    lock_refuses c.behind-lock.inside.core nothing c.discard.new.self.engine _ c.discard.result c.discard.ensures.done c.discard.ensures.refused
