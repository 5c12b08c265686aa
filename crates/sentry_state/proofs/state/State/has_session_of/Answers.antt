use Rattle.std.proofs.Common.{◌∙◌}
use Rattle.sentry_state.proofs.Keeping.{has_session_of_client}
use Rattle.sentry_state.proofs.state.State.has_session_of.Goals as goal

pub returns : goal.returns
returns g c = λ world s. c.has_session_of.ensures ∙ has_session_of_client c.args.client c.args.self.now world s
