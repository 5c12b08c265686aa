use Rattle.sentry_lock.proofs.LockAnswers.{drains_label, is_foreign}
use Rattle.sentry_lock.proofs.shared_core.SharedCore.drain_and_absorb.Goals as goal

pub returns-clause-done : goal.returns-clause-done
returns-clause-done g c =
    drains_label c.behind-lock.inside.core c.drain_and_absorb.new.self c.args.label c.drain_and_absorb.result
    c.drain_and_absorb.ensures.done

pub returns-clause-refused : goal.returns-clause-refused
returns-clause-refused g c =
    is_foreign c.behind-lock.inside.core c.drain_and_absorb.new.self c.args.label c.drain_and_absorb.result
    c.drain_and_absorb.ensures.refused
