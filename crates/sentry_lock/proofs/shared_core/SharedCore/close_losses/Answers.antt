use Rattle.sentry_lock.proofs.LockAnswers.{ends_label, is_foreign, label_ended}
use Rattle.sentry_lock.proofs.shared_core.SharedCore.close_losses.Goals as goal

pub returns-clause-done : goal.returns-clause-done
returns-clause-done g c =
    ends_label c.behind-lock.inside.core c.close_losses.new.self c.args.label c.close_losses.result
    (label_ended c.behind-lock.inside.core c.close_losses.new.self c.args.label c.close_losses.result
    c.close_losses.ensures.named c.close_losses.ensures.ended c.close_losses.ensures.held)

pub returns-clause-refused : goal.returns-clause-refused
returns-clause-refused g c =
    is_foreign c.behind-lock.inside.core c.close_losses.new.self c.args.label c.close_losses.result
    c.close_losses.ensures.refused
