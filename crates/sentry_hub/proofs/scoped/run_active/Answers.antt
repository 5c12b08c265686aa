use Rattle.sentry_hub.proofs.scoped.run_active.Goals as goal

-- the work ran
pub returns-clause-answer : goal.returns-clause-answer
returns-clause-answer g c = record { lent = _; span = _; left = _; met = c.work-answer.ensures }
