use Rattle.sentry_laws.proofs.LabelBooks.{absorbed_stays}
use Rattle.sentry_laws.proofs.laws.absorbed_losses_stay.Goals as goal

pub returns : goal.returns
returns c s = λ gives meanings. absorbed_stays gives meanings
