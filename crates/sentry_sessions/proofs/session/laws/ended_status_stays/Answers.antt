use Rattle.sentry_sessions.proofs.SessionLemmas.{ended_status_stays_is}
use Rattle.sentry_sessions.proofs.session.laws.ended_status_stays.Goals as goal

pub returns : goal.returns
returns c = ended_status_stays_is
