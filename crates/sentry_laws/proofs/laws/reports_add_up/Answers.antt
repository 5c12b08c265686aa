use Rattle.sentry_laws.proofs.Reports.{reports_add_up}
use Rattle.sentry_laws.proofs.laws.reports_add_up.Goals as goal

pub returns : goal.returns
returns c s = λ gives meanings. reports_add_up gives meanings
