use Rattle.sentry_hub.proofs.scoped.run_there.Goals as goal

-- the work ran on the hub
pub returns-clause-answer : goal.returns-clause-answer
returns-clause-answer g c =
    let ran = c.run_under.ensures in
    record { lent = ran.1.shown; left = ran.1.left; met = ran.1.met }
