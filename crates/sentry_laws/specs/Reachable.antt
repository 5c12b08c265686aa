-- What holds in every world that calls lead to.
use Rattle.std.specs.Prelude.{◌≡◌, ◌≤◌, ℕ, true, Some, None, List, ◌∷◌}
use Rattle.std.specs.List.{AllByRecursion}
use Rattle.sentry_plain.specs.Tables.{value_at}
use Rattle.sentry_base.specs.declared.protocol.keys.Label.{Label}
use Rattle.sentry_base.specs.declared.protocol.keys.SessionKey.{SessionKey}
use Rattle.sentry_hub_table.specs.Hubs.{is_session_named}
use Rattle.sentry_hub_table.specs.declared.hub.HubState.{HubState}
use Rattle.sentry_scope.specs.declared.scope.stack.StackLayer.{StackLayer}
use Rattle.sentry_span_table.specs.SpanTables.{is_held}
use Rattle.sentry_state.specs.Books.{has_book, has_client_of}
use Rattle.sentry_state.specs.Outcomes.{is_held_or_none, session_at}
use Rattle.sentry_state.specs.Worlds.{World, SessionHistory, span_table}

-- nothing stands under a number from this one on
abbrev pub IsFreeFrom : {X : Type 0} → ℕ → List (ℕ × X) → Type 0
IsFreeFrom next table = (number : ℕ) → next ≤ number → value_at table number ≡ None

module _ {P C : Type 0} where
  -- the next numbers are free, and all that come after them
  abbrev pub NumbersAreFree : World P C → Type 0
  NumbersAreFree world =
      IsFreeFrom world.next.client world.clients
      × IsFreeFrom world.next.hub world.hubs
      × IsFreeFrom world.next.session world.sessions
      × IsFreeFrom world.next.transaction world.transactions
      × IsFreeFrom world.next.span world.spans

  -- a label has a book exactly where a client has the label
  abbrev pub BooksAreOfClients : World P C → Type 0
  BooksAreOfClients world = (label : Label) → has_book world label ≡ has_client_of label world.clients

  -- each layer of each hub is so
  abbrev pub EachLayer : (StackLayer P → Type 0) → World P C → Type 0
  EachLayer IsSo world =
      (number : ℕ) (hub : HubState P) → value_at world.hubs number ≡ Some hub
      → AllByRecursion IsSo (hub.stack.top ∷ hub.stack.below)

  -- a client that a layer names is held
  abbrev pub ClientsAreHeld : World P C → Type 0
  ClientsAreHeld world = EachLayer (λ layer. is_held_or_none world layer.client ≡ true) world

  -- a transaction or a span that the scope of a layer names is held
  abbrev pub ActiveSpansAreHeld : World P C → Type 0
  ActiveSpansAreHeld world = EachLayer (λ layer. is_held (span_table world) layer.scope.span ≡ true) world

  -- a session that is held is named by a layer of some hub
  abbrev pub SessionsAreNamed : World P C → Type 0
  SessionsAreNamed world =
      (key : SessionKey) (session : SessionHistory) → session_at world key ≡ Some session
      → is_session_named key world.hubs ≡ true
