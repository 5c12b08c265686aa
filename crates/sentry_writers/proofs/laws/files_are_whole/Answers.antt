use Rattle.sentry_writers.proofs.WholeLemmas.{shows_whole, ends_whole}
use Rattle.sentry_writers.proofs.laws.files_are_whole.Goals as goal

pub returns-clause-seen : goal.returns-clause-seen
returns-clause-seen c = λ partial name text done calls apart. shows_whole partial name text apart done calls

pub returns-clause-done : goal.returns-clause-done
returns-clause-done c = ends_whole
