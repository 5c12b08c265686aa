use Rattle.sentry_base.specs.declared.protocol.keys.ClientKey.{ClientKey}
use Rattle.sentry_base.specs.declared.protocol.refusal.Refusal.TheVariants.{OutOfMemory}
use Rattle.sentry_calls.specs.Clients as clients
use Rattle.sentry_lock.proofs.LockAnswers.{lock_answers, lock_refuses}
use Rattle.sentry_lock.specs.Answers.{LockRefuses}
use Rattle.sentry_state.specs.Outcomes.{memory}
use Rattle.std.proofs.Common.{◌≡◌, Ok, Err, inr, subst}
use Rattle.std.specs.Prelude.{◌⊎◌}
use Rattle.sentry_lock.proofs.client.Client.clone_client.Goals as goal

pub returns-in-Ok-clause-done : goal.returns-in-Ok-clause-done
returns-in-Ok-clause-done g c =
    rw (← c.self.view_is) (lock_answers c.behind-lock.inside.core memory c.clone_client-cloned.new.self.engine _ (Ok c.in-Ok.key) c.in-Ok.ensures.done)

pub returns-in-Err-clause-refused : goal.returns-in-Err-clause-refused
returns-in-Err-clause-refused g c =
    subst (λ (key : ClientKey). (c.in-Err.refusal ≡ OutOfMemory) ⊎ LockRefuses g.row.L-Processor.Denot g.row.L-Callbacks.Denot
    g.row.L-Transport.Denot c.in-Err.refusal (clients.clone_client key c.args.now))
    c.self.view_is (inr (lock_refuses c.behind-lock.inside.core memory c.clone_client-cloned.new.self.engine
    (clients.clone_client c.self.inside.key c.args.now) (Err c.in-Err.refusal) tt c.in-Err.ensures.refused))
