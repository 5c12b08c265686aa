-- A world after one change.
use Rattle.std.specs.Prelude.{◌≡◌, ℕ, Bool, Option, None, List, ◌∷◌, nat_lt, ◌+◌, ◌-◌, ◌^◌, Some, []}
use Rattle.sentry_plain.specs.Tables.{replace_at, value_at, put}
use Rattle.sentry_base.specs.declared.protocol.keys.ClientKey.{ClientKey}
use Rattle.sentry_base.specs.declared.protocol.keys.SessionKey.{SessionKey}
use Rattle.sentry_sessions.specs.SessionQueues.{QueueEntry}
use Rattle.sentry_sessions.specs.Sessions.{SessionEntry}
use Rattle.sentry_hub_table.specs.declared.hub.HubState.{HubState}
use Rattle.sentry_state.specs.declared.state.State.{State}
use Rattle.sentry_state.specs.Worlds.{World, ClientHistory, QueueHistories, SessionHistory, Stands, stored_client}
use Rattle.sentry_base.specs.declared.protocol.keys.HubKey.{HubKey}
use Rattle.sentry_sessions.specs.declared.session.record.SessionStart.{SessionStart}
use Rattle.sentry_base.specs.declared.protocol.breadcrumb.Breadcrumb.{Breadcrumb}
use Rattle.sentry_scope.specs.declared.scope.stack.Stack.{Stack}
use Rattle.sentry_scope.specs.Scopes.{breadcrumb_trail}
use Rattle.sentry_hub_table.specs.Hubs.{with_scope, with_session}
use Rattle.sentry_base.specs.declared.protocol.log.Log.{Log}
use Rattle.sentry_base.specs.declared.protocol.metric.Metric.{Metric}
use Rattle.sentry_batches.specs.Batches.{BatchEntry}

-- ---- sessions

-- the session with one more entry in its history
abbrev pub with_session_entry : SessionEntry → SessionHistory → SessionHistory
with_session_entry entry session = record session { history = entry ∷ session.history }

-- the queues with one more entry in the history of ended sessions
abbrev pub with_queue_entry : QueueEntry → QueueHistories → QueueHistories
with_queue_entry entry queues = record queues { sessions = entry ∷ queues.sessions }

-- the client with one more entry in the history of its ended sessions
abbrev pub with_client_entry : {C : Type 0} → QueueEntry → ClientHistory C → ClientHistory C
with_client_entry entry client = record client { queues = with_queue_entry entry client.queues }

-- ---- logs and metrics

-- the client with one more entry in the history of its logs
abbrev pub with_log_entry : {C : Type 0} → BatchEntry Log → ClientHistory C → ClientHistory C
with_log_entry entry client =
    record client { queues = record client.queues { logs = entry ∷ client.queues.logs } }

-- the client with one more entry in the history of its metrics
abbrev pub with_metric_entry : {C : Type 0} → BatchEntry Metric → ClientHistory C → ClientHistory C
with_metric_entry entry client =
    record client { queues = record client.queues { metrics = entry ∷ client.queues.metrics } }

-- ---- hubs

-- the hub whose top scope has the last n of its breadcrumbs followed by the added ones
abbrev pub with_breadcrumbs : {P : Type 0} → HubState P → ℕ → List Breadcrumb → HubState P
with_breadcrumbs hub n added =
    with_scope hub (record hub.stack.top.scope {
      breadcrumbs = breadcrumb_trail n hub.stack.top.scope.breadcrumbs added;
    })

module _ {P C : Type 0} where
  -- at a number that has a hub, what the function makes of that hub stands, and nothing else changed
  abbrev pub ChangesHub : State P C → State P C → ℕ → (HubState P → HubState P) → Type 0
  ChangesHub old new number f =
      (world : World P C) (hub : HubState P) → Stands old world → value_at old.hubs number ≡ Some hub
      → Stands new (record world { hubs = replace_at world.hubs number (f hub) })

  -- at a number that has a client, what the function makes of that client stands, and nothing else changed
  abbrev pub ChangesClient : State P C → State P C → ℕ → (ClientHistory C → ClientHistory C) → Type 0
  ChangesClient old new number f =
      (world : World P C) (client : ClientHistory C) → Stands old world
      → value_at old.clients number ≡ Some (stored_client client)
      → Stands new (record world { clients = replace_at world.clients number (f client) })

  -- the world with another client under a key that it has
  abbrev pub with_client_history : World P C → ClientKey → ClientHistory C → World P C
  with_client_history world key client = record world { clients = replace_at world.clients key.number client }

  -- the key of the next hub
  abbrev pub next_hub_key : World P C → HubKey
  next_hub_key world = record { tag = world.tag; number = world.next.hub }

  -- the world with a hub of these layers under the next number
  abbrev pub with_new_hub : Stack P → World P C → World P C
  with_new_hub stack world = record world {
    next = record world.next { hub = world.next.hub + 1 };
    hubs = put world.hubs world.next.hub (record { stack = stack; last_event_id = None });
  }

  -- a number is left for a session
  abbrev pub is_session_number_left : World P C → Bool
  is_session_number_left world = nat_lt world.next.session (2 ^ 64 - 1)

  -- the world with one more session, which started so, under the next number
  abbrev pub with_new_session : SessionStart → World P C → World P C
  with_new_session start world = record world {
    sessions = put world.sessions world.next.session (record { start = start; history = [] });
  }

  -- the world in which the top layer of a hub names the session under the next number
  abbrev pub with_next_session_named : ℕ → HubState P → World P C → World P C
  with_next_session_named number hub world = record world {
    next = record world.next { session = world.next.session + 1 };
    hubs = replace_at world.hubs number
        (with_session hub (Some (record { tag = world.tag; number = world.next.session })));
  }
