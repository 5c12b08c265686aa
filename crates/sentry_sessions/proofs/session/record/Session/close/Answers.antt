use Rattle.std.proofs.Common.{sym, ◌∙◌}
use Rattle.sentry_sessions.proofs.SessionLemmas.{close_ended, close_counted}
use Rattle.sentry_sessions.proofs.session.record.Session.close.Goals as goal

pub returns-then-has_ended : goal.returns-then-has_ended
returns-then-has_ended c = λ start history old.
    close_ended c.args.status c.args.now _ start history (sym c.has_ended.ensures ∙ c.if-has_ended.true) old

pub returns : goal.returns
returns c = λ start history old.
    c.end_at.ensures ∙ close_counted c.args.status c.args.now _ start history (sym c.has_ended.ensures ∙ c.if-has_ended.false) old
