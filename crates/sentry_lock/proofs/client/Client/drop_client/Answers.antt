use Rattle.sentry_lock.proofs.LockAnswers.{lock_drains}
use Rattle.sentry_lock.proofs.client.Client.drop_client.Goals as goal

pub returns : goal.returns
returns g c =
    let did = c.in_ok-handed.ensures.done in
    rw (← c.self.view_is) (lock_drains c.behind-guard.inside.core c.drop_client.new.self.engine did.1 _ c.in_ok-handed.handed.out
    c.deliver.result c.deliver.ensures (did.0, did.2, did.3))
