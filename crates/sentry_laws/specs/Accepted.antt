-- Which logs and metrics come to the queue of a client, by the calls.
use Rattle.std.specs.Prelude.{◌≡◌, ℕ, Bool, false, Option, Some, None, List, [], ◌∷◌, ◌++◌, ◌==◌, ◌&&◌, ◌||◌, not, Result, Ok, Err, if◌then◌else◌}
use Rattle.std.specs.Option.{option_to_list}
use Rattle.sentry_plain.specs.Tables.{value_at}
use Rattle.sentry_base.specs.Callbacks.{Partial}
use Rattle.sentry_base.specs.declared.protocol.keys.ClientKey.{ClientKey}
use Rattle.sentry_base.specs.declared.protocol.log.Log.{Log}
use Rattle.sentry_base.specs.declared.protocol.metric.Metric.{Metric}
use Rattle.sentry_base.specs.declared.protocol.refusal.Refusal.{Refusal}
use Rattle.sentry_options.specs.Meanings.{Meanings}
use Rattle.sentry_scope.specs.declared.scope.Scope.{Scope}
use Rattle.sentry_batches.specs.Batches.{BatchEntry, accepted_items}
use Rattle.sentry_hub_table.specs.declared.hub.HubState.{HubState}
use Rattle.sentry_telemetry.specs.Telemetry.{client_log, client_metric}
use Rattle.sentry_state.specs.declared.state.Out.{Out}
use Rattle.sentry_state.specs.Outcomes.{client_at, hub_at}
use Rattle.sentry_state.specs.Worlds.{World, ClientHistory, QueueHistories, stored_client, span_table}
use Rattle.sentry_calls.specs.declared.call.Call.{Call}
use Rattle.sentry_calls.specs.declared.call.Call.TheVariants as group
use Rattle.sentry_calls.specs.declared.call.clients.ClientCall.TheVariants.{ClientCaptureLog, ClientCaptureMetric}
use Rattle.sentry_calls.specs.declared.call.hubs.HubCall.TheVariants.{CaptureLog, CaptureMetric}
use Rattle.sentry_calls.specs.declared.call.Reply.{Reply}
use Rattle.sentry_calls.specs.Runs.{Run}
use Rattle.sentry_laws.specs.Closed.{closes}

module _ {C T : Type 0} where
  -- what comes to the client with this number, closed or not, where an item is captured for the client under a key: the
  -- item as it passes the callback, if it is this client, and isn't closed
  abbrev pub comes_to : ℕ → Bool → ClientKey → Option (ClientHistory C) → (ClientHistory C → Option T) → List T
  comes_to number closed key None item = []
  comes_to number closed key (Some client) item =
      if (number == key.number) && not closed then option_to_list (item client) else []

module _ {P C T : Type 0} where
  -- the same for the client that a layer names, if it names one
  abbrev pub comes_under : ℕ → Bool → World P C → Option ClientKey → (ClientHistory C → Option T) → List T
  comes_under number closed world None item = []
  comes_under number closed world (Some key) item = comes_to number closed key (client_at world key) item

  -- the same under the top layer of a hub
  abbrev pub comes_on : ℕ → Bool → World P C → Option (HubState P) → (Scope P → ClientHistory C → Option T) → List T
  comes_on number closed world None item = []
  comes_on number closed world (Some hub) item =
      comes_under number closed world hub.stack.top.client (item hub.stack.top.scope)

module _ {P C : Type 0} (meanings : C → Meanings) where
  -- the log that a call brings to the client with this number, closed or not, if it brings one
  abbrev pub logs_by : ℕ → Bool → World P C → Call P C → List Log
  logs_by number closed world (group.Client (ClientCaptureLog key log scope)) =
      comes_to number closed key (client_at world key)
      (λ client. client_log meanings (span_table world) (stored_client client) scope log)
  logs_by number closed world (group.Hub (CaptureLog key log)) =
      comes_on number closed world (hub_at world key)
      (λ scope client. client_log meanings (span_table world) (stored_client client) scope log)
  logs_by number closed world call = []

  -- the same of metrics
  abbrev pub metrics_by : ℕ → Bool → World P C → Call P C → List Metric
  metrics_by number closed world (group.Client (ClientCaptureMetric key draft scope now)) =
      comes_to number closed key (client_at world key)
      (λ client. client_metric meanings (span_table world) (stored_client client) scope now draft)
  metrics_by number closed world (group.Hub (CaptureMetric key draft now)) =
      comes_on number closed world (hub_at world key)
      (λ scope client. client_metric meanings (span_table world) (stored_client client) scope now draft)
  metrics_by number closed world call = []

module _ {P C T : Type 0} (gives : P → Partial) (meanings : C → Meanings) (history : QueueHistories → List (BatchEntry T))
    (brought : ℕ → Bool → World P C → Call P C → List T) where
  -- the client with this number, which earlier calls closed or not, accepted at each accepted call what the call brings
  -- to it and no more, if it is held; a new one nothing
  abbrev pub AcceptsByCalls : ℕ → Bool → (world : World P C) (calls : List (Call P C))
      (answers : List (Result (Out (Reply P C)) Refusal)) (last : World P C)
      → Run gives meanings world calls answers last → Type 0
  AcceptsByCalls number closed world (call ∷ calls) (Ok out ∷ answers) last run =
      ((after : ClientHistory C) → value_at run.0.clients number ≡ Some after
      → ((before : ClientHistory C) → value_at world.clients number ≡ Some before
      → accepted_items (history after.queues)
      ≡ accepted_items (history before.queues) ++ brought number closed world call)
      × (value_at world.clients number ≡ None → accepted_items (history after.queues) ≡ []))
      × AcceptsByCalls number (closed || closes number call) run.0 calls answers last run.2
  AcceptsByCalls number closed world (call ∷ calls) (Err refusal ∷ answers) last run =
      AcceptsByCalls number closed run.0 calls answers last run.2
  AcceptsByCalls number closed world [] answers last run = Unit {0}
  AcceptsByCalls number closed world (call ∷ calls) [] last run = Unit {0}

module _ {P C : Type 0} (gives : P → Partial) (meanings : C → Meanings) where
  abbrev pub AcceptsLogsByCalls : (world : World P C) (calls : List (Call P C))
      (answers : List (Result (Out (Reply P C)) Refusal)) (last : World P C)
      → Run gives meanings world calls answers last → Type 0
  AcceptsLogsByCalls world calls answers last run =
      (number : ℕ)
      → AcceptsByCalls gives meanings (λ queues. queues.logs) (logs_by meanings) number false world calls answers last run

  abbrev pub AcceptsMetricsByCalls : (world : World P C) (calls : List (Call P C))
      (answers : List (Result (Out (Reply P C)) Refusal)) (last : World P C)
      → Run gives meanings world calls answers last → Type 0
  AcceptsMetricsByCalls world calls answers last run =
      (number : ℕ)
      → AcceptsByCalls gives meanings (λ queues. queues.metrics) (metrics_by meanings) number false world calls answers
      last run
