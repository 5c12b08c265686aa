use Rattle.std.proofs.Common.{sym, ◌∙◌}
use Rattle.sentry_sessions.proofs.SessionLemmas.{event_ended, event_counted}
use Rattle.sentry_sessions.proofs.session.record.Session.update_from_event.Goals as goal

pub returns-then-has_ended : goal.returns-then-has_ended
returns-then-has_ended c = λ start history old.
    event_ended c.args.event.now _ start history (sym c.has_ended.ensures ∙ c.if-has_ended.true) old

pub returns : goal.returns
returns c = λ start history old.
    c.count_event.ensures ∙ event_counted c.args.event.now _ start history (sym c.has_ended.ensures ∙ c.if-has_ended.false) old
