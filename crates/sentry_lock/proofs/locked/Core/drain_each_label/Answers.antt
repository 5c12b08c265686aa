use Rattle.std.proofs.Common.{refl, ap, length, arith}
use Rattle.sentry_lock.proofs.Walks.{after_none, leads_first}
use Rattle.sentry_lock.proofs.locked.Core.drain_each_label.Goals as goal

pub loop-init : goal.loop-init
loop-init g c =
    let self = c.args.self.now in
    let all = ap length (after_none self.drainers) in
    record {
      tag = refl;
      labels = refl;
      leads = leads_first self.tag self.engine self.drainers;
      left = omega arith;
    }
