use Rattle.std.proofs.Common.{◌≡◌, Some}
use Rattle.std.specs.List.{list_any}
use Rattle.sentry_scope.specs.Stacks.{is_client}
use Rattle.sentry_state.proofs.session_table.has_session_of.Given as goal

-- the sessions that are left decide
abbrev pub invariant-loop-session : goal.invariant-loop-session
invariant-loop-session l =
    list_any (λ entry. is_client l.client (Some entry.1.start.client)) l.session-iterator
    ≡ list_any (λ entry. is_client l.client (Some entry.1.start.client)) l.initial.session-iterator
