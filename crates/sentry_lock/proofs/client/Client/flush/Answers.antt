use Rattle.sentry_lock.proofs.LockAnswers.{lock_drains}
use Rattle.std.proofs.Common.{refl}
use Rattle.sentry_lock.proofs.client.Client.flush.Goals as goal

pub returns : goal.returns
returns g c =
    rw (← c.self.view_is) (lock_drains c.behind-guard.inside.core c.flush.new.self.engine c.flush.new.self.drainers _ c.in_ok-handed.handed.out tt refl
    c.in_ok-handed.ensures.done)
