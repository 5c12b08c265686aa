use Rattle.sentry_laws.proofs.CallsAddUp.{calls_add_up}
use Rattle.sentry_laws.proofs.LossesByCalls.{records_losses}
use Rattle.sentry_laws.proofs.laws.losses_are_recorded.Goals as goal

pub returns : goal.returns
returns c s = record { calls = records_losses; sums = calls_add_up }
