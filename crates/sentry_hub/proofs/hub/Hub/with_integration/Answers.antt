use Rattle.std.proofs.Common.{rules, inr}
use Rattle.sentry_hub.proofs.hub.Hub.with_integration.Goals as goal

-- the closure ran on the integration that was found
pub returns-in-Some : goal.returns-in-Some
returns-in-Some g c = inr (_, c.callback-answer.ensures, search rules)
