use Rattle.std.proofs.Common.{◌∙◌, ap, sym, ℕ, List, Some}
use Rattle.std.specs.List.{list_any}
use Rattle.sentry_scope.specs.Stacks.{is_client}
use Rattle.sentry_sessions.specs.declared.session.record.Session.{Session}
use Rattle.sentry_state.proofs.SessionCounts.{sessions_counted}
use Rattle.sentry_state.proofs.session_table.SessionTable.has_session_of.Goals as goal

-- a count above 0 says that a session was started under the client
pub returns-in-Some : goal.returns-in-Some
returns-in-Some c =
    let table = c.self.inside in
    c.is_counted.ensures
    ∙ (sessions_counted table.counted table.sessions table.counts c.self.invariant.counts c.args.client c.in-Some.number
    (sym c.counted_client.ensures ∙ c.in-Some.is)
    ∙ ap (λ (sessions : List (ℕ × Session)). list_any (λ entry. is_client c.args.client (Some entry.1.start.client)) sessions) c.self.view_is)
