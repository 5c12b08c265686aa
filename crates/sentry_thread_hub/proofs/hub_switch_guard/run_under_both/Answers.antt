use Rattle.std.proofs.Common.{rules}
use Rattle.sentry_thread_hub.proofs.hub_switch_guard.run_under_both.Goals as goal

pub returns : goal.returns
returns g c =
    let ran = c.run_under.ensures in
    (ran.0, record { shown = ran.1.shown; shows = search rules; left = ran.1.left; met = ran.1.met; leaves = ran.1.leaves }, search rules)
