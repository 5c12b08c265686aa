use Rattle.std.proofs.Common.{◌≡◌, drop}
use Rattle.std.specs.List.{list_any}
use Rattle.sentry_sessions.specs.Sessions.{is_unhandled}
use Rattle.sentry_sessions.proofs.session.events.is_crash.Given as goal

-- the exceptions that are left decide
abbrev pub invariant-loop-exception : goal.invariant-loop-exception
invariant-loop-exception l =
    list_any is_unhandled (drop l.exception-index l.exception-items) ≡ list_any is_unhandled l.event.exception
