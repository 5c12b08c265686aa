use Rattle.sentry_calls.specs.Steps.{needs, step}
use Rattle.sentry_lock.proofs.LockAnswers.{makes_not}
use Rattle.sentry_lock.specs.ValueCalls.{can_hand_out}
use Rattle.sentry_lock.proofs.locked.Core.drain_and_apply.Goals as goal

pub returns-in-Err-clause-refusal : goal.returns-in-Err-clause-refusal
returns-in-Err-clause-refusal g c =
    makes_not c.args.self.now (can_hand_out c.args.call) (needs c.args.call) c.drain_for.new.self.engine
    c.drain_for.new.self.drainers (step g.P.EventCallback.gives g.C.Callbacks.meanings c.args.call)
    c.in-Err.refusal c.drain_for.ensures.drained c.in-Err.ensures.refusal
