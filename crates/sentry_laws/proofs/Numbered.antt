-- In each table the numbers increase, and are below the next one.
use Rattle.std.proofs.Common.{ℕ, List, [], ◌∷◌}
use Rattle.std.specs.Prelude.{Option}
use Rattle.sentry_base.specs.declared.protocol.envelope.Envelope.{Envelope}
use Rattle.sentry_base.specs.declared.protocol.keys.ClientKey.{ClientKey}
use Rattle.sentry_base.specs.declared.protocol.keys.Label.{Label}
use Rattle.sentry_options.specs.Meanings.{Meanings}
use Rattle.sentry_sending.specs.Sending.{send, after_sending}
use Rattle.sentry_span_table.specs.SpanLists.{TransactionHistory, with_span_finished}
use Rattle.sentry_span_table.specs.declared.table.records.SpanRecord.{SpanRecord}
use Rattle.sentry_state.specs.Changes.{with_client_history}
use Rattle.sentry_state.specs.Clients.{clone_from}
use Rattle.sentry_hub_table.specs.declared.hub.HubState.{HubState}
use Rattle.sentry_state.specs.Worlds.{World, ClientHistory, starting_world}
use Rattle.sentry_laws.proofs.Effects.{Effect}
use Rattle.sentry_laws.proofs.Changes.{Change, Changes, nothing, one, both, SpanChange, changes_transaction, changes_span, keeps_span, drops_transaction, drops_span, after_arrival, envelopes_on_arrival, makes_hub, makes_hub_from, changes_hub, sets_session, notes_event_id, releases_hub, adds_client, clones_client, drops_client, arrives, accepts, starts_session, changes_session, ends_session, starts_transaction, starts_span, changes_spans}
use Rattle.sentry_laws.proofs.Tables.{AreBelow, below_put, below_replaced, below_without}

module _ {P C : Type 0} where
  -- in each table the numbers increase, and are below the next one
  pub record IsNumbered (world : World P C) : Type 0 where
    pub clients : AreBelow 0 world.next.client world.clients
    pub hubs : AreBelow 0 world.next.hub world.hubs
    pub sessions : AreBelow 0 world.next.session world.sessions
    pub transactions : AreBelow 0 world.next.transaction world.transactions
    pub spans : AreBelow 0 world.next.span world.spans

  numbered_sending : (label : Label) (sent : List (ClientKey × Envelope)) (world : World P C) → IsNumbered world
      → IsNumbered (after_sending label sent world)
  numbered_sending label [] world h = h
  numbered_sending label (first ∷ rest) world h = record {
    clients = h.clients;
    hubs = h.hubs;
    sessions =
        h.sessions;
    transactions = h.transactions;
    spans = h.spans;
  }

  pub client_numbered : (world : World P C) (key : ClientKey) (new : ClientHistory C) → IsNumbered world
      → IsNumbered (with_client_history world key new)
  client_numbered world key new h =
      record {
        clients = below_replaced 0 world.next.client key.number new world.clients h.clients;
        hubs =
            h.hubs;
        sessions = h.sessions;
        transactions = h.transactions;
        spans = h.spans;
      }

  hubs_numbered : (world : World P C) (hubs : List (ℕ × HubState P)) → AreBelow 0 world.next.hub hubs → IsNumbered world
      → IsNumbered (record world { hubs = hubs })
  hubs_numbered world hubs below h =
      record { clients = h.clients; hubs = below; sessions = h.sessions; transactions = h.transactions; spans = h.spans }

  numbered_spans : (world : World P C) (transactions : List (ℕ × TransactionHistory)) (spans : List (ℕ × SpanRecord))
      → SpanChange world transactions spans → IsNumbered world
      → IsNumbered (record world { transactions = transactions; spans = spans })
  numbered_spans world transactions spans (changes_transaction number old new found traced finished) h = record {
    clients = h.clients;
    hubs = h.hubs;
    sessions = h.sessions;
    spans = h.spans;
    transactions = below_replaced 0 world.next.transaction number new world.transactions h.transactions;
  }
  numbered_spans world transactions spans (changes_span number old new found of_ traced) h = record {
    clients = h.clients;
    hubs = h.hubs;
    sessions = h.sessions;
    transactions = h.transactions;
    spans = below_replaced 0 world.next.span number new world.spans h.spans;
  }
  numbered_spans world transactions spans (keeps_span number held state found at) h = record {
    clients = h.clients;
    hubs = h.hubs;
    sessions = h.sessions;
    spans = h.spans;
    transactions = below_replaced 0 world.next.transaction held.transaction.number (with_span_finished held.span state)
        world.transactions h.transactions;
  }
  numbered_spans world transactions spans (drops_transaction key state at unnamed spanless) h = record {
    clients = h.clients;
    hubs = h.hubs;
    sessions = h.sessions;
    spans = h.spans;
    transactions = below_without 0 world.next.transaction key.number world.transactions h.transactions;
  }
  numbered_spans world transactions spans (drops_span key held at unnamed) h = record {
    clients = h.clients;
    hubs = h.hubs;
    sessions = h.sessions;
    transactions = h.transactions;
    spans = below_without 0 world.next.span key.number world.spans h.spans;
  }

  pub none_numbered : (tag start : ℕ) → IsNumbered (starting_world {P = P} {C = C} tag start)
  none_numbered tag start = record { clients = tt; hubs = tt; sessions = tt; transactions = tt; spans = tt }

module _ {P C : Type 0} (meanings : C → Meanings) where
  pub numbered_change : {given : Option Envelope} {old new : World P C} {some : List (Effect P C)} {sent : List
      (ClientKey × Envelope)} → Change meanings given old some sent new → IsNumbered old → IsNumbered new
  numbered_change (makes_hub world client scope held active) h =
      record {
        clients = h.clients;
        hubs = below_put world.next.hub _ world.hubs h.hubs;
        sessions =
            h.sessions;
        transactions = h.transactions;
        spans = h.spans;
      }
  numbered_change (makes_hub_from world maker hub found) h =
      record {
        clients = h.clients;
        hubs = below_put world.next.hub _ world.hubs h.hubs;
        sessions =
            h.sessions;
        transactions = h.transactions;
        spans = h.spans;
      }
  numbered_change (changes_hub world number old new change found fits allowed) h =
      hubs_numbered world _ (below_replaced 0 world.next.hub number new world.hubs h.hubs) h
  numbered_change (sets_session world number hub session found given) h =
      hubs_numbered world _ (below_replaced 0 world.next.hub number _ world.hubs h.hubs) h
  numbered_change (notes_event_id world number old new found same) h =
      hubs_numbered world _ (below_replaced 0 world.next.hub number new world.hubs h.hubs) h
  numbered_change (releases_hub world number hub found alone) h =
      hubs_numbered world _ (below_without 0 world.next.hub number world.hubs h.hubs) h
  numbered_change (adds_client world client now queues open_ of_engine) h =
      record {
        clients = below_put world.next.client client world.clients h.clients;
        hubs = h.hubs;
        sessions =
            h.sessions;
        transactions = h.transactions;
        spans = h.spans;
      }
  numbered_change (clones_client world original client now found) h =
      record {
        clients = below_put world.next.client (clone_from now client) world.clients h.clients;
        hubs =
            h.hubs;
        sessions = h.sessions;
        transactions = h.transactions;
        spans = h.spans;
      }
  numbered_change (drops_client world key client label found same none) h =
      record {
        clients = below_without 0 world.next.client key.number world.clients h.clients;
        hubs = h.hubs;
        sessions =
            h.sessions;
        transactions = h.transactions;
        spans = h.spans;
      }
  numbered_change (arrives world key client arrival is_off found open_ came) h =
      numbered_sending client.label (send key client (envelopes_on_arrival arrival client)
      (with_client_history world key (after_arrival arrival client))).sent
      (with_client_history world key (after_arrival arrival client))
      (client_numbered world key (after_arrival arrival client) h)
  numbered_change (accepts world key client arrival kind is_off found open_ came) h =
      numbered_sending client.label (send key client (envelopes_on_arrival arrival client)
      (with_client_history world key (after_arrival arrival client))).sent
      (with_client_history world key (after_arrival arrival client))
      (client_numbered world key (after_arrival arrival client) h)
  numbered_change (starts_session world number start) h = record {
    clients = h.clients;
    hubs = h.hubs;
    sessions =
        below_put world.next.session _ world.sessions h.sessions;
    transactions = h.transactions;
    spans = h.spans;
  }
  numbered_change (changes_session world number old new later found same) h =
      record {
        clients = h.clients;
        hubs = h.hubs;
        sessions =
            below_replaced 0 world.next.session number new world.sessions h.sessions;
        transactions = h.transactions;
        spans =
            h.spans;
      }
  numbered_change (ends_session world number) h = record {
    clients = h.clients;
    hubs = h.hubs;
    sessions =
        below_without 0 world.next.session number world.sessions h.sessions;
    transactions = h.transactions;
    spans =
        h.spans;
  }
  numbered_change (starts_transaction world state new_) h = record {
    clients = h.clients;
    hubs = h.hubs;
    sessions =
        h.sessions;
    transactions = below_put world.next.transaction state world.transactions h.transactions;
    spans =
        h.spans;
  }
  numbered_change (starts_span world parent place held found of_ traced) h =
      record {
        clients = h.clients;
        hubs = h.hubs;
        sessions = h.sessions;
        transactions = h.transactions;
        spans =
            below_put world.next.span held world.spans h.spans;
      }
  numbered_change (changes_spans world transactions spans change) h = numbered_spans world transactions spans change h
  numbered_change _ h =
      record { clients = h.clients; hubs = h.hubs; sessions = h.sessions; transactions = h.transactions; spans = h.spans }

  pub numbered_changes : {given : Option Envelope} {old new : World P C} {some : List (Effect P C)} {sent : List
      (ClientKey × Envelope)} → Changes meanings given old some sent new → IsNumbered old → IsNumbered new
  numbered_changes (nothing world) h = h
  numbered_changes (one c) h = numbered_change c h
  numbered_changes (both t u) h = numbered_changes u (numbered_changes t h)
