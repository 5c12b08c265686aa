use Rattle.std.proofs.Common.{inr, refl, rules}
use Rattle.sentry_hub.proofs.api.with_integration.Goals as goal

-- the closure ran on the current hub, and an integration of this name
pub returns-in-Some : goal.returns-in-Some
returns-in-Some g c = inr (_, _, c.callback.ensures, refl, search rules)
