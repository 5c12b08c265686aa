-- What an engine stands for: everything that its calls did, in plain values.
use Rattle.std.specs.Prelude.{◌≡◌, ℕ, Bool, List, [], map}
use Rattle.sentry_base.specs.declared.protocol.keys.Label.{Label}
use Rattle.sentry_base.specs.declared.protocol.log.Log.{Log}
use Rattle.sentry_base.specs.declared.protocol.metric.Metric.{Metric}
use Rattle.sentry_base.specs.declared.protocol.sdk.ClientSdkInfo.{ClientSdkInfo}
use Rattle.sentry_options.specs.declared.clientoptions.ClientOptions.{ClientOptions}
use Rattle.sentry_options.specs.declared.clientoptions.plain.PlainOptions.{PlainOptions}
use Rattle.sentry_batches.specs.Batches.{BatchEntry}
use Rattle.sentry_batches.specs.Batches as batch
use Rattle.sentry_client_reports.specs.LossBooks.{LossEntry, book_of}
use Rattle.sentry_sessions.specs.SessionQueues.{QueueEntry, queue_of}
use Rattle.sentry_sessions.specs.Sessions.{SessionEntry, session_of, session_attributes}
use Rattle.sentry_pipeline.specs.Pipeline.{default_log_attributes, default_metric_attributes}
use Rattle.sentry_pipeline.specs.declared.os_attributes.OsAttributes.{OsAttributes}
use Rattle.sentry_sessions.specs.declared.session.record.Session.{Session}
use Rattle.sentry_sessions.specs.declared.session.record.SessionStart.{SessionStart}
use Rattle.sentry_span_table.specs.SpanLists.{TransactionHistory, stored_transaction}
use Rattle.sentry_span_table.specs.declared.table.records.SpanRecord.{SpanRecord}
use Rattle.sentry_span_table.specs.declared.table.records.SpanTable.{SpanTable}
use Rattle.sentry_state.specs.declared.state.ClientState.{ClientState}
use Rattle.sentry_hub_table.specs.declared.hub.HubState.{HubState}
use Rattle.sentry_state.specs.declared.state.NextNumbers.{NextNumbers}
use Rattle.sentry_state.specs.declared.state.Queues.{Queues}
use Rattle.sentry_state.specs.declared.state.State.{State}

-- all that came to the queues of a client, and the moments of their last due ticks
pub record QueueHistories : Type 0 where
  pub sessions : List QueueEntry
  pub session_tick : ℕ
  pub logs : List (BatchEntry Log)
  pub log_tick : ℕ
  pub metrics : List (BatchEntry Metric)
  pub metric_tick : ℕ

-- a client, with what its integrations say of the operating system, and what is said of the SDK; nothing comes to its
-- queues once it is closed
pub record ClientHistory (C : Type 0) : Type 0 where
  pub options : ClientOptions C
  pub label : Label
  pub occupied : Bool
  pub os : OsAttributes
  pub sdk : ClientSdkInfo
  pub closed : Bool
  pub queues : QueueHistories

-- how a session started, and all that came to it
pub record SessionHistory : Type 0 where
  pub start : SessionStart
  pub history : List SessionEntry

-- all that the calls did: the clients, the hubs, the sessions that go on, for each label of a client the history of its
-- losses, and the transactions and spans that were not discarded
pub record World (P C : Type 0) : Type 0 where
  pub tag : ℕ
  pub next : NextNumbers
  pub clients : List (ℕ × ClientHistory C)
  pub hubs : List (ℕ × HubState P)
  pub sessions : List (ℕ × SessionHistory)
  pub books : List (ℕ × List LossEntry)
  pub transactions : List (ℕ × TransactionHistory)
  pub spans : List (ℕ × SpanRecord)

-- the table with f of each value
abbrev pub map_values : {X Y : Type 0} → (X → Y) → List (ℕ × X) → List (ℕ × Y)
map_values f entries = map (λ entry. (entry.0, f entry.1)) entries

-- what an engine stores of the queues of a client
abbrev pub stored_queues : PlainOptions → QueueHistories → Queues
stored_queues options queues = record {
  sessions = queue_of options.session_mode queues.sessions;
  session_tick = record { 0 = queues.session_tick };
  logs = batch.queue_of options.max_batch_items queues.logs queues.log_tick;
  metrics = batch.queue_of options.max_batch_items queues.metrics queues.metric_tick;
}

-- what an engine stores of a session
abbrev pub stored_session : SessionHistory → Session
stored_session session = session_of session.start session.history

module _ {C : Type 0} where
  -- what an engine stores of a client; what its logs, metrics and sessions have is made of its options, and of what is
  -- said of the operating system
  abbrev pub stored_client : ClientHistory C → ClientState C
  stored_client client = record {
    options = client.options;
    label = client.label;
    occupied = client.occupied;
    sdk = client.sdk;
    log_attributes = default_log_attributes client.options.plain client.os;
    metric_attributes = default_metric_attributes client.options.plain;
    session_attributes = session_attributes client.options.plain;
    closed = client.closed;
    queues = stored_queues client.options.plain client.queues;
  }

module _ {P C : Type 0} where
  -- the table of transactions and spans that an engine has
  abbrev pub span_table : World P C → SpanTable
  span_table world = record {
    tag = world.tag;
    transactions = map_values stored_transaction world.transactions;
    spans = world.spans;
  }

-- the engine has all of the world, but of its clients, sessions, books and transactions only what is stored
pub record Stands {P C : Type 0} (engine : State P C) (world : World P C) : Type 0 where
  pub tag : engine.tag ≡ world.tag
  pub next : engine.next ≡ world.next
  pub clients : engine.clients ≡ map_values stored_client world.clients
  pub hubs : engine.hubs ≡ world.hubs
  pub sessions : engine.sessions ≡ map_values stored_session world.sessions
  pub books : engine.books ≡ map_values book_of world.books
  pub spans : engine.spans ≡ span_table world

module _ {P C : Type 0} where
  -- the world in which nothing happened yet, with numbers from the first
  abbrev pub starting_world : ℕ → ℕ → World P C
  starting_world tag first = record {
    tag = tag;
    next = record { client = first; hub = first; session = first; transaction = first; span = first };
    clients = [];
    hubs = [];
    sessions = [];
    books = [];
    transactions = [];
    spans = [];
  }

  -- the same with numbers from 0
  abbrev pub first_world : ℕ → World P C
  first_world tag = starting_world tag 0
