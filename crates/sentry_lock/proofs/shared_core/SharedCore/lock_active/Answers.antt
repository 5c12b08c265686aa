use Rattle.sentry_lock.proofs.LockAnswers.{lock_reads}
use Rattle.sentry_state.specs.Outcomes.{nothing}
use Rattle.std.proofs.Common.{◌≡◌, ap, false, rules, Ok}
use Rattle.sentry_lock.proofs.shared_core.SharedCore.lock_active.Goals as goal

pub returns-then-not-out : goal.returns-then-not-out
returns-then-not-out g c =
    let inactive : false ≡ c.in_ok-out.out.reply = search rules in
    lock_reads c.behind-guard.inside.core nothing c.engine.result.now c.engine.ensures _ (Ok c.in_ok-out.out) (Ok false)
    (ap Ok inactive) tt c.in_ok-out.ensures
