use Rattle.sentry_lock.proofs.shared_core.SharedCore.call.Goals as goal

pub returns-in-Ok-clause-done : goal.returns-in-Ok-clause-done
returns-in-Ok-clause-done g c =
    rw c.deliver.ensures c.in-Ok.ensures.done
