use Rattle.std.proofs.Common.{ap, ◌∙◌}
use Rattle.sentry_sessions.specs.SessionSteps.{mark_handed_out}
use Rattle.sentry_sessions.proofs.SessionLemmas.{mark_handed_out_is}
use Rattle.sentry_sessions.proofs.session.record.Session.mark_handed_out.Goals as goal

pub returns : goal.returns
returns c = λ start history old. ap mark_handed_out old ∙ mark_handed_out_is start history
