-- A hub after one change.
use Rattle.std.specs.Prelude.{ℕ, ◌==◌, ◌&&◌, Bool, false, Option, None, Some, List, ◌∷◌}
use Rattle.std.specs.List.{list_any}
use Rattle.sentry_base.specs.declared.protocol.keys.ClientKey.{ClientKey}
use Rattle.sentry_base.specs.declared.protocol.keys.SessionKey.{SessionKey}
use Rattle.sentry_base.specs.declared.protocol.keys.SpanKey.{SpanKey}
use Rattle.sentry_base.specs.declared.protocol.keys.TransactionKey.{TransactionKey}
use Rattle.sentry_base.specs.declared.protocol.keys.TransactionOrSpanKey.{TransactionOrSpanKey}
use Rattle.sentry_base.specs.declared.protocol.keys.TransactionOrSpanKey.TheVariants.{Transaction, Span}
use Rattle.sentry_scope.specs.declared.scope.Scope.{Scope}
use Rattle.sentry_scope.specs.declared.scope.stack.Stack.{Stack}
use Rattle.sentry_scope.specs.Stacks.{names_client, names_session}
use Rattle.sentry_hub_table.specs.declared.hub.HubState.{HubState}

-- the transaction is named, and is this one
abbrev pub is_transaction : TransactionKey → Option TransactionOrSpanKey → Bool
is_transaction key None = false
is_transaction key (Some (Transaction named)) = (named.tag == key.tag) && (named.number == key.number)
is_transaction key (Some (Span named)) = false

-- the span is named, and is this one
abbrev pub is_span : SpanKey → Option TransactionOrSpanKey → Bool
is_span key None = false
is_span key (Some (Transaction named)) = false
is_span key (Some (Span named)) = (named.tag == key.tag) && (named.number == key.number)

module _ {P : Type 0} where
  -- the hub with another scope on top
  abbrev pub with_scope : HubState P → Scope P → HubState P
  with_scope hub scope = record hub { stack = record hub.stack { top = record hub.stack.top { scope = scope } } }

  -- the hub with other layers
  abbrev pub with_stack : HubState P → Stack P → HubState P
  with_stack hub stack = record hub { stack = stack }

  -- the hub with another client on top, or none
  abbrev pub with_client : HubState P → Option ClientKey → HubState P
  with_client hub client = record hub { stack = record hub.stack { top = record hub.stack.top { client = client } } }

  -- the hub whose top layer names another session, or none
  abbrev pub with_session : HubState P → Option SessionKey → HubState P
  with_session hub session = record hub { stack = record hub.stack { top = record hub.stack.top { session = session } } }

  -- a layer of a hub names the client
  abbrev pub is_client_named : ClientKey → List (ℕ × HubState P) → Bool
  is_client_named key hubs = list_any (λ entry. names_client key entry.1.stack) hubs

  -- a layer of a hub names the session
  abbrev pub is_session_named : SessionKey → List (ℕ × HubState P) → Bool
  is_session_named key hubs = list_any (λ entry. names_session key entry.1.stack) hubs

  -- a layer of the stack names the transaction
  abbrev pub names_transaction : TransactionKey → Stack P → Bool
  names_transaction key stack = list_any (λ layer. is_transaction key layer.scope.span) (stack.top ∷ stack.below)

  -- a layer of the stack names the span
  abbrev pub names_span : SpanKey → Stack P → Bool
  names_span key stack = list_any (λ layer. is_span key layer.scope.span) (stack.top ∷ stack.below)

  -- a layer of a hub names the transaction
  abbrev pub is_transaction_named : TransactionKey → List (ℕ × HubState P) → Bool
  is_transaction_named key hubs = list_any (λ entry. names_transaction key entry.1.stack) hubs

  -- a layer of a hub names the span
  abbrev pub is_span_named : SpanKey → List (ℕ × HubState P) → Bool
  is_span_named key hubs = list_any (λ entry. names_span key entry.1.stack) hubs
