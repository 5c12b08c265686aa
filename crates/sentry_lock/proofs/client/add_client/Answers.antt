use Rattle.std.specs.Option.{is_some}
use Rattle.sentry_calls.specs.Clients as clients
use Rattle.sentry_lock.proofs.LockAnswers.{adds_not, lock_did}
use Rattle.sentry_state.specs.Outcomes.{memory}
use Rattle.sentry_lock.proofs.client.add_client.Goals as goal

pub returns-in-Ok-clause-done : goal.returns-in-Ok-clause-done
returns-in-Ok-clause-done g c =
    lock_did c.behind-guard.inside.core memory c.add_client-added.new.self.engine _ c.in-Ok.out c.in-Ok.ensures.done

pub returns-clause-refused : goal.returns-clause-refused
returns-clause-refused g c =
    adds_not c.behind-guard.inside.core c.args.label c.in-Err.refusal
    (clients.add_client g.L.Callbacks.Callbacks.meanings c.args.options (is_some c.args.transport) c.args.label c.args.now)
    c.in-Err.ensures.refusal
