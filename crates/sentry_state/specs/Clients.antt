-- How clients are made, and whether something names them.
use Rattle.std.specs.Prelude.{ℕ, Bool, List, ◌&&◌, is_some, Some, [], false}
use Rattle.std.specs.List.{list_any}
use Rattle.sentry_base.specs.declared.protocol.keys.ClientKey.{ClientKey}
use Rattle.sentry_state.specs.Worlds.{ClientHistory, QueueHistories, SessionHistory}
use Rattle.sentry_options.specs.Meanings.{Meanings}
use Rattle.sentry_options.specs.Options.{set_up}
use Rattle.sentry_base.specs.declared.protocol.keys.Label.{Label}
use Rattle.sentry_options.specs.declared.clientoptions.ClientOptions.{ClientOptions}
use Rattle.sentry_scope.specs.Stacks.{is_client}
use Rattle.sentry_pipeline.specs.Pipeline.{os_attributes, sdk_info}
use Rattle.std.specs.Option.{is_some}
use Rattle.sentry_state.specs.declared.state.ClientState.{ClientState}
pub use Rattle.sentry_hub_table.specs.Hubs.{is_client_named}

-- a client is enabled where its options have a DSN and its slot is occupied
abbrev pub is_enabled_client : {C : Type 0} → ClientState C → Bool
is_enabled_client client = is_some client.options.plain.dsn && client.occupied

-- a session that goes on was started under the client
abbrev pub has_session_of : ClientKey → List (ℕ × SessionHistory) → Bool
has_session_of key sessions = list_any (λ entry. is_client key (Some entry.1.start.client)) sessions

-- the queues of a client that is made at this moment
abbrev pub queues_from : ℕ → QueueHistories
queues_from now = record {
  sessions = [];
  session_tick = now;
  logs = [];
  log_tick = now;
  metrics = [];
  metric_tick = now;
}

-- a client after the `setup` of its integrations, with what they then say of the operating system, and with what is said
-- of the SDK, which names them; its slot is occupied where it had a DSN before that, and has a transport
unfoldable pub new_client : {C : Type 0} → (C → Meanings) → ClientOptions C → Bool → Label → ℕ → ClientHistory C
new_client meanings options transport label now = record {
  options = set_up meanings options;
  label = label;
  occupied = is_some options.plain.dsn && transport;
  os = os_attributes meanings (set_up meanings options) now;
  sdk = sdk_info (meanings (set_up meanings options).callbacks);
  closed = false;
  queues = queues_from now;
}

-- a clone of a client that is made at this moment: nothing waits in its queues, and nothing has closed it
abbrev pub clone_from : {C : Type 0} → ℕ → ClientHistory C → ClientHistory C
clone_from now client = record client { closed = false; queues = queues_from now }
