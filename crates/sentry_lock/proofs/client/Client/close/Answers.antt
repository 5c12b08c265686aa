use Rattle.sentry_lock.proofs.LockAnswers.{lock_drains}
use Rattle.std.proofs.Common.{refl}
use Rattle.sentry_lock.proofs.client.Client.close.Goals as goal

pub returns : goal.returns
returns g c =
    rw (← c.self.view_is) (lock_drains c.behind-guard.inside.core c.close.new.self.engine c.close.new.self.drainers _ c.in_ok-handed.handed.out tt refl
    c.in_ok-handed.ensures.done)
