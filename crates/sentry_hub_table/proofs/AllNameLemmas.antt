-- How many layers name each record, of all kinds at once.
use Rattle.std.proofs.Common.{◌≡◌, refl, ap, ℕ, ◌+◌, ◌<◌, List, length}
use Rattle.std.specs.Prelude.{Some, None}
use Rattle.sentry_plain.specs.Tables.{value_at, replace_at, put, without}
use Rattle.sentry_scope.specs.Stacks.{push, pop, depth}
use Rattle.sentry_scope.specs.declared.scope.Scope.{Scope}
use Rattle.sentry_hub_table.specs.Hubs.{with_scope}
use Rattle.sentry_hub_table.specs.Names.{transaction_name, span_name, client_of, session_of, transaction_of, span_of, layer_names, all_layers, CountsNames, HasNames, HasRoom, HasRoomFor, KeepsNames, RaisesNames, LowersNames, HasAllLayers, LowersLayers}
use Rattle.sentry_hub_table.specs.declared.hub.HubState.{HubState}
use Rattle.sentry_hub_table.specs.Tallies.{Lowers, Raises}
use Rattle.sentry_hub_table.specs.declared.names.Names.{Names}
use Rattle.sentry_hub_table.specs.declared.tally.Tally.{Tally}
use Rattle.sentry_hub_table.proofs.NameLemmas.{has_name, renamed, has_room_for, has_layers, kept_name, kept_counts, grown, shrunk, with_hub, without_hub, without_none}

module _ {P : Type 0} (hubs : List (ℕ × HubState P)) (number : ℕ) where
  -- a hub is replaced that names the same
  pub all_kept : (hub after : HubState P) → value_at hubs number ≡ Some hub → after.stack.below ≡ hub.stack.below
      → layer_names after.stack.top ≡ layer_names hub.stack.top
      → (names : Names) → CountsNames names hubs → CountsNames names (replace_at hubs number after)
  all_kept hub after h below top names counts = record {
    clients = kept_name client_of hubs number hub after h below (ap (λ n. n.client) top) names.clients counts.clients;
    sessions = kept_name session_of hubs number hub after h below (ap (λ n. n.session) top) names.sessions counts.sessions;
    transactions = kept_name transaction_of hubs number hub after h below (ap (λ n. n.transaction) top) names.transactions counts.transactions;
    spans = kept_name span_of hubs number hub after h below (ap (λ n. n.span) top) names.spans counts.spans;
  }

  -- a hub gets another scope on top
  pub all_rescoped : (hub : HubState P) (scope : Scope P) → value_at hubs number ≡ Some hub
      → (names : Names) (transactions more_transactions spans more_spans : Tally) → CountsNames names hubs
      → Lowers names.transactions transactions (transaction_of hub.stack.top)
      → Raises transactions more_transactions (transaction_name scope.span)
      → Lowers names.spans spans (span_of hub.stack.top) → Raises spans more_spans (span_name scope.span)
      → CountsNames (record names { transactions = more_transactions; spans = more_spans }) (replace_at hubs number (with_scope hub scope))
  all_rescoped hub scope h names transactions more_transactions spans more_spans counts lowers raises lowers_span raises_span = record {
    clients = kept_name client_of hubs number hub (with_scope hub scope) h refl refl names.clients counts.clients;
    sessions = kept_name session_of hubs number hub (with_scope hub scope) h refl refl names.sessions counts.sessions;
    transactions =
        renamed transaction_of hubs number hub (with_scope hub scope) h refl names.transactions transactions more_transactions
        counts.transactions lowers raises;
    spans = renamed span_of hubs number hub (with_scope hub scope) h refl names.spans spans more_spans counts.spans lowers_span raises_span;
  }

  -- there is more room
  pub all_counted : (old new : Names) → CountsNames old hubs → KeepsNames old new → CountsNames new hubs
  all_counted old new counts keeps = record {
    clients = kept_counts client_of hubs old.clients new.clients counts.clients keeps.clients;
    sessions = kept_counts session_of hubs old.sessions new.sessions counts.sessions keeps.sessions;
    transactions = kept_counts transaction_of hubs old.transactions new.transactions counts.transactions keeps.transactions;
    spans = kept_counts span_of hubs old.spans new.spans counts.spans keeps.spans;
  }

  -- what the top layer of a hub names is counted
  pub all_named : (hub : HubState P) → value_at hubs number ≡ Some hub → (names : Names) → CountsNames names hubs
      → HasNames names (layer_names hub.stack.top)
  all_named hub h names counts = record {
    clients = has_name client_of hubs number hub h names.clients counts.clients;
    sessions = has_name session_of hubs number hub h names.sessions counts.sessions;
    transactions = has_name transaction_of hubs number hub h names.transactions counts.transactions;
    spans = has_name span_of hubs number hub h names.spans counts.spans;
  }

  -- with room for one more layer than there are, there is room for its names
  pub all_room : (names : Names) → CountsNames names hubs → HasRoomFor names (all_layers hubs + 1) → HasRoom names
  all_room names counts room = record {
    clients = has_room_for client_of hubs names.clients counts.clients room.clients;
    sessions = has_room_for session_of hubs names.sessions counts.sessions room.sessions;
    transactions = has_room_for transaction_of hubs names.transactions counts.transactions room.transactions;
    spans = has_room_for span_of hubs names.spans counts.spans room.spans;
  }

  -- a layer comes
  pub all_grown : (hub after : HubState P) → value_at hubs number ≡ Some hub → after.stack ≡ push hub.stack
      → (old new : Names) → CountsNames old hubs → HasRoomFor old (all_layers hubs + 1) → RaisesNames old new (layer_names hub.stack.top)
      → CountsNames new (replace_at hubs number after)
  all_grown hub after h pushed old new counts room raises = record {
    clients = grown client_of hubs number hub after h pushed old.clients new.clients counts.clients room.clients raises.clients;
    sessions = grown session_of hubs number hub after h pushed old.sessions new.sessions counts.sessions room.sessions raises.sessions;
    transactions = grown transaction_of hubs number hub after h pushed old.transactions new.transactions counts.transactions room.transactions raises.transactions;
    spans = grown span_of hubs number hub after h pushed old.spans new.spans counts.spans room.spans raises.spans;
  }

  -- a layer goes
  pub all_shrunk : (hub after : HubState P) → value_at hubs number ≡ Some hub → 0 < depth hub.stack → after.stack ≡ pop hub.stack
      → (old new : Names) → CountsNames old hubs → LowersNames old new (layer_names hub.stack.top)
      → CountsNames new (replace_at hubs number after)
  all_shrunk hub after h some popped old new counts lowers = record {
    clients = shrunk client_of hubs number hub after h some popped old.clients new.clients counts.clients lowers.clients;
    sessions = shrunk session_of hubs number hub after h some popped old.sessions new.sessions counts.sessions lowers.sessions;
    transactions = shrunk transaction_of hubs number hub after h some popped old.transactions new.transactions counts.transactions lowers.transactions;
    spans = shrunk span_of hubs number hub after h some popped old.spans new.spans counts.spans lowers.spans;
  }

  -- a hub of one layer comes
  pub all_come : (hub : HubState P) → value_at hubs number ≡ None → length hub.stack.below ≡ 0
      → (old new : Names) → CountsNames old hubs → HasRoomFor old (all_layers hubs + 1) → RaisesNames old new (layer_names hub.stack.top)
      → CountsNames new (put hubs number hub)
  all_come hub h one old new counts room raises = record {
    clients = with_hub client_of hubs number hub h one old.clients new.clients counts.clients room.clients raises.clients;
    sessions = with_hub session_of hubs number hub h one old.sessions new.sessions counts.sessions room.sessions raises.sessions;
    transactions = with_hub transaction_of hubs number hub h one old.transactions new.transactions counts.transactions room.transactions raises.transactions;
    spans = with_hub span_of hubs number hub h one old.spans new.spans counts.spans room.spans raises.spans;
  }

  -- the layers below the top are counted, once the top is not
  pub all_below : (hub : HubState P) → value_at hubs number ≡ Some hub → (old lowered : Names) → CountsNames old hubs
      → LowersNames old lowered (layer_names hub.stack.top) → HasAllLayers lowered hub.stack.below
  all_below hub h old lowered counts lowers = record {
    clients = has_layers client_of hubs number hub h old.clients lowered.clients counts.clients lowers.clients;
    sessions = has_layers session_of hubs number hub h old.sessions lowered.sessions counts.sessions lowers.sessions;
    transactions = has_layers transaction_of hubs number hub h old.transactions lowered.transactions counts.transactions lowers.transactions;
    spans = has_layers span_of hubs number hub h old.spans lowered.spans counts.spans lowers.spans;
  }

  -- a hub goes
  pub all_gone : (hub : HubState P) → value_at hubs number ≡ Some hub → (old lowered new : Names) → CountsNames old hubs
      → LowersNames old lowered (layer_names hub.stack.top) → LowersLayers lowered new hub.stack.below
      → CountsNames new (without hubs number)
  all_gone hub h old lowered new counts lowers below = record {
    clients = without_hub client_of hubs number hub h old.clients lowered.clients new.clients counts.clients lowers.clients below.clients;
    sessions = without_hub session_of hubs number hub h old.sessions lowered.sessions new.sessions counts.sessions lowers.sessions below.sessions;
    transactions = without_hub transaction_of hubs number hub h old.transactions lowered.transactions new.transactions counts.transactions lowers.transactions below.transactions;
    spans = without_hub span_of hubs number hub h old.spans lowered.spans new.spans counts.spans lowers.spans below.spans;
  }

  -- nothing goes where nothing stands
  pub none_goes : value_at hubs number ≡ None → (names : Names) → CountsNames names hubs → CountsNames names (without hubs number)
  none_goes h names counts = record {
    clients = without_none client_of hubs number h names.clients counts.clients;
    sessions = without_none session_of hubs number h names.sessions counts.sessions;
    transactions = without_none transaction_of hubs number h names.transactions counts.transactions;
    spans = without_none span_of hubs number h names.spans counts.spans;
  }
