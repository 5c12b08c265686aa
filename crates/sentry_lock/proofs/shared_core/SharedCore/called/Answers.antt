use Rattle.sentry_calls.specs.Steps.{needs}
use Rattle.sentry_lock.proofs.LockAnswers.{lock_makes}
use Rattle.sentry_lock.specs.ValueCalls.{can_hand_out}
use Rattle.sentry_lock.proofs.shared_core.SharedCore.called.Goals as goal

pub returns-in-Ok-clause-done : goal.returns-in-Ok-clause-done
returns-in-Ok-clause-done g c =
    let did = c.in-Ok.ensures.done in
    lock_makes c.behind-guard.inside.core (can_hand_out c.args.call) (needs c.args.call) did.0
    c.drain_and_apply-made.new.self.engine did.1 _ c.in-Ok.handed.out did.2 did.3

pub returns-in-Err-clause-refused : goal.returns-in-Err-clause-refused
returns-in-Err-clause-refused g c = (c.behind-guard.inside.core, c.in-Err.ensures.refusal)
