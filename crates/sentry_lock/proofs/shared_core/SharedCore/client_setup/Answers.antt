use Rattle.std.proofs.Common.{inr}
use Rattle.sentry_lock.proofs.LockAnswers.{gives_label}
use Rattle.sentry_lock.proofs.shared_core.SharedCore.client_setup.Goals as goal

pub returns-in-Ok-clause-label : goal.returns-in-Ok-clause-label
returns-in-Ok-clause-label g c =
    gives_label (λ setup. setup.label) c.in-Ok.label c.behind-lock.inside.core c.in-Ok.ensures.taken.0
    c.in-Ok.ensures.taken.1 c.new.result c.new.ensures.label

pub returns-in-Err-clause-refused : goal.returns-in-Err-clause-refused
returns-in-Err-clause-refused g c = inr (c.behind-lock.inside.core, c.in-Err.ensures.full)
