use Rattle.sentry_laws.proofs.PartsOfRuns.{runs_split}
use Rattle.sentry_laws.proofs.laws.runs_split.Goals as goal

pub returns : goal.returns
returns c s = λ gives meanings. runs_split gives meanings
