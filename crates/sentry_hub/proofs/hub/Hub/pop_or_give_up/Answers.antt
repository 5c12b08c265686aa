use Rattle.sentry_base.specs.declared.protocol.keys.HubKey.{HubKey}
use Rattle.sentry_calls.specs.Layers as layers
use Rattle.sentry_lock.specs.Answers.{LockDrainsAndAnswers}
use Rattle.std.proofs.Common.{subst}
use Rattle.std.specs.Prelude.{ℕ}
use Rattle.sentry_hub.proofs.hub.Hub.pop_or_give_up.Goals as goal

pub returns-in_ok-popped-in-Err-OutOfMemory-default : goal.returns-in_ok-popped-in-Err-OutOfMemory-default
returns-in_ok-popped-in-Err-OutOfMemory-default g c =
    subst (λ (guard : HubKey × ℕ). LockDrainsAndAnswers g.row.L-Processor.Denot g.row.L-Callbacks.Denot g.row.L-Transport.Denot tt
    (layers.pop_scope guard.0 guard.1 c.args.now)) c.in-Err-OutOfMemory-default.ensures.back
    c.in_ok-popped-in-Err-OutOfMemory-default.ensures.done
