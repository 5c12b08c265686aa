use Rattle.std.specs.Option.{is_some}
use Rattle.sentry_calls.specs.Clients as clients
use Rattle.sentry_lock.proofs.LockAnswers.{adds_neither}
use Rattle.sentry_lock.proofs.client.Client.with_options.Goals as goal

pub returns-in-Ok-clause-done : goal.returns-in-Ok-clause-done
returns-in-Ok-clause-done g c = rw (← c.in_ok-share.ensures) c.in-Ok.ensures.done

pub returns-clause-refused : goal.returns-clause-refused
returns-clause-refused g c =
    adds_neither c.args.setup.label c.in-Err.refusal
    (λ transport. clients.add_client g.L.Callbacks.Callbacks.meanings c.args.setup.options (is_some transport) c.args.setup.label c.args.now)
    _ _ c.in_ok-share.ensures c.in-Err.ensures.refused
