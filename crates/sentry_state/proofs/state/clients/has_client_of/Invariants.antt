use Rattle.std.proofs.Common.{◌≡◌}
use Rattle.std.specs.List.{list_any}
use Rattle.sentry_state.specs.Books.{is_label}
use Rattle.sentry_state.proofs.state.clients.has_client_of.Given as goal

-- the clients that are left decide
abbrev pub invariant-loop-client : goal.invariant-loop-client
invariant-loop-client g l =
    list_any (λ entry. is_label l.label entry.1.label) l.client-iterator
    ≡ list_any (λ entry. is_label l.label entry.1.label) l.initial.client-iterator
