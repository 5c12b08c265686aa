-- The logs and metrics that a client accepted, and the batches of them that were handed out.
use Rattle.std.specs.Prelude.{◌≡◌, ℕ, Bool, true, false, Option, Some, None, List, [], ◌∷◌, ◌++◌, ◌==◌, ◌||◌, Result, Ok, Err, if◌then◌else◌}
use Rattle.std.specs.List.{AllByRecursion}
use Rattle.std.specs.Option.{option_to_list}
use Rattle.sentry_plain.specs.Tables.{value_at}
use Rattle.sentry_base.specs.declared.protocol.envelope.Envelope.{Envelope}
use Rattle.sentry_base.specs.declared.protocol.envelope.EnvelopeItem.{EnvelopeItem}
use Rattle.sentry_base.specs.declared.protocol.envelope.EnvelopeItem.TheVariants as item
use Rattle.sentry_base.specs.declared.protocol.keys.ClientKey.{ClientKey}
use Rattle.sentry_base.specs.declared.protocol.log.Log.{Log}
use Rattle.sentry_base.specs.declared.protocol.metric.Metric.{Metric}
use Rattle.sentry_base.specs.declared.protocol.refusal.Refusal.{Refusal}
use Rattle.sentry_batches.specs.Batches.{BatchEntry, queued_items, accepted_items, items_of, IsBatch}
use Rattle.sentry_state.specs.declared.state.Out.{Out}
use Rattle.sentry_state.specs.Worlds.{World, ClientHistory, QueueHistories}
use Rattle.sentry_base.specs.Callbacks.{Partial}
use Rattle.sentry_options.specs.Meanings.{Meanings}
use Rattle.sentry_calls.specs.Runs.{Run}
use Rattle.sentry_calls.specs.declared.call.Call.{Call}
use Rattle.sentry_calls.specs.declared.call.Call.TheVariants.{Client}
use Rattle.sentry_calls.specs.declared.call.clients.ClientCall.TheVariants.{SendEnvelope}
use Rattle.sentry_calls.specs.declared.call.Reply.{Reply}
use Rattle.sentry_laws.specs.Closed.{closes}

-- the caller's own envelope, if the call hands one in
abbrev pub handed_in : {P C : Type 0} → Call P C → Option Envelope
handed_in (Client (SendEnvelope client envelope)) = Some envelope
handed_in call = None

-- the batch of logs that an item is, if it is one
abbrev pub log_batch : EnvelopeItem → Option (List Log)
log_batch (item.Logs logs) = Some logs
log_batch _ = None

abbrev pub metric_batch : EnvelopeItem → Option (List Metric)
metric_batch (item.Metrics metrics) = Some metrics
metric_batch _ = None

module _ {T : Type 0} (batch_in : EnvelopeItem → Option (List T)) where
  -- the batches among these items
  abbrev pub batches_among : List EnvelopeItem → List (List T)
  batches_among [] = []
  batches_among (item ∷ rest) = option_to_list (batch_in item) ++ batches_among rest

  -- the batches in the envelopes of the client with this number
  abbrev pub batches_for : ℕ → List (ClientKey × Envelope) → List (List T)
  batches_for number [] = []
  batches_for number (envelope ∷ rest) =
      (if number == envelope.0.number then batches_among envelope.1.items else []) ++ batches_for number rest

  -- the same, but none in an envelope that the caller handed in
  abbrev pub batches_by : Option Envelope → ℕ → List (ClientKey × Envelope) → List (List T)
  batches_by (Some given) number sent = []
  batches_by None number sent = batches_for number sent

  module _ {P C : Type 0} where
    -- the batches of a client that the engine made of what it accepted, the oldest first
    abbrev pub batches_sent : ℕ → List (Call P C) → List (Result (Out (Reply P C)) Refusal) → List (List T)
    batches_sent number (call ∷ calls) (Ok out ∷ answers) =
        batches_by (handed_in call) number out.sent ++ batches_sent number calls answers
    batches_sent number (call ∷ calls) (Err refusal ∷ answers) = batches_sent number calls answers
    batches_sent number [] answers = []
    batches_sent number (call ∷ calls) [] = []

    -- each client whose slot is occupied sent all that it accepted but its queue, in order, in batches of one item or
    -- more, and at most as many as its limit says
    abbrev pub SendsAccepted : (QueueHistories → List (BatchEntry T)) → List (Call P C)
        → List (Result (Out (Reply P C)) Refusal) → World P C → Type 0
    SendsAccepted history calls answers last =
        (number : ℕ) (client : ClientHistory C) → value_at last.clients number ≡ Some client → client.occupied ≡ true
        → (items_of (batches_sent number calls answers)
        ++ queued_items client.options.plain.max_batch_items (history client.queues)
        ≡ accepted_items (history client.queues))
        × AllByRecursion (IsBatch client.options.plain.max_batch_items) (batches_sent number calls answers)

module _ {T : Type 0} where
  -- these batches, followed by what waits, have the items that were accepted, in order; each has one item or more, and
  -- at most as many as the limit says
  abbrev pub AreSent : List (List T) → ℕ → List T → List T → Type 0
  AreSent sent limit waiting accepted =
      (items_of sent ++ waiting ≡ accepted) × AllByRecursion (IsBatch limit) sent

module _ {T : Type 0} (history : QueueHistories → List (BatchEntry T)) where
  -- what waits of a client, which is closed or not: nothing if it is
  abbrev pub what_waits : {C : Type 0} → Bool → ClientHistory C → List T
  what_waits closed client =
      if closed then [] else queued_items client.options.plain.max_batch_items (history client.queues)

  -- a client, closed by then or not, sent these batches by the end of a call, of all that it accepted: before the call,
  -- where it is no longer held, and then nothing waits
  abbrev pub IsSentBy : {C : Type 0} → Bool → List (List T) → ClientHistory C → Option (ClientHistory C) → Type 0
  IsSentBy closed sent client None =
      AreSent sent client.options.plain.max_batch_items [] (accepted_items (history client.queues))
  IsSentBy closed sent client (Some after) =
      AreSent sent after.options.plain.max_batch_items (what_waits closed after) (accepted_items (history after.queues))

module _ {T : Type 0} (batch_in : EnvelopeItem → Option (List T)) (history : QueueHistories → List (BatchEntry T))
  where
    module _ {P C : Type 0} (gives : P → Partial) (meanings : C → Meanings) where
      -- of the client with this number, which earlier calls closed or not, and which sent these batches before: it is so at
      -- the end of each call before which its slot is occupied, also of the call that empties the slot
      abbrev pub SendsAtEachCall : ℕ → Bool → List (List T) → (world : World P C) (calls : List (Call P C))
          (answers : List (Result (Out (Reply P C)) Refusal)) (last : World P C)
          → Run gives meanings world calls answers last → Type 0
      SendsAtEachCall number closed sent world (call ∷ calls) (Ok out ∷ answers) last run =
          ((client : ClientHistory C) → value_at world.clients number ≡ Some client → client.occupied ≡ true
          → IsSentBy history (closed || closes number call) (sent ++ batches_by batch_in (handed_in call) number out.sent)
          client (value_at run.0.clients number))
          × SendsAtEachCall number (closed || closes number call)
          (sent ++ batches_by batch_in (handed_in call) number out.sent) run.0 calls answers last run.2
      SendsAtEachCall number closed sent world (call ∷ calls) (Err refusal ∷ answers) last run =
          SendsAtEachCall number closed sent run.0 calls answers last run.2
      SendsAtEachCall number closed sent world [] answers last run = Unit {0}
      SendsAtEachCall number closed sent world (call ∷ calls) [] last run = Unit {0}

module _ {P C : Type 0} (gives : P → Partial) (meanings : C → Meanings) where
  abbrev pub SendsLogsAtEachCall : (world : World P C) (calls : List (Call P C))
      (answers : List (Result (Out (Reply P C)) Refusal)) (last : World P C)
      → Run gives meanings world calls answers last → Type 0
  SendsLogsAtEachCall world calls answers last run =
      (number : ℕ)
      → SendsAtEachCall log_batch (λ queues. queues.logs) gives meanings number false [] world calls answers last run

  abbrev pub SendsMetricsAtEachCall : (world : World P C) (calls : List (Call P C))
      (answers : List (Result (Out (Reply P C)) Refusal)) (last : World P C)
      → Run gives meanings world calls answers last → Type 0
  SendsMetricsAtEachCall world calls answers last run =
      (number : ℕ)
      → SendsAtEachCall metric_batch (λ queues. queues.metrics) gives meanings number false [] world calls answers last run

module _ {P C : Type 0} where
  abbrev pub SendsAcceptedLogs : List (Call P C) → List (Result (Out (Reply P C)) Refusal) → World P C → Type 0
  SendsAcceptedLogs calls answers last = SendsAccepted log_batch (λ queues. queues.logs) calls answers last

  abbrev pub SendsAcceptedMetrics : List (Call P C) → List (Result (Out (Reply P C)) Refusal) → World P C → Type 0
  SendsAcceptedMetrics calls answers last = SendsAccepted metric_batch (λ queues. queues.metrics) calls answers last
