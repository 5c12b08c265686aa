-- What a flush of a client's queues sends and leaves. Sessions go first, then logs, then metrics.
use Rattle.std.specs.Prelude.{ℕ, Bool, true, false, not, ◌&&◌, ◌||◌, ◌++◌, Option, Some, None, List, [], ◌∷◌, if◌then◌else◌}
use Rattle.std.specs.Option.{option_map}
use Rattle.sentry_base.specs.declared.protocol.envelope.Envelope.{Envelope}
use Rattle.sentry_base.specs.declared.protocol.envelope.EnvelopeItem.{EnvelopeItem}
use Rattle.sentry_base.specs.declared.protocol.envelope.EnvelopeItem.TheVariants as item
use Rattle.sentry_base.specs.declared.protocol.keys.ClientKey.{ClientKey}
use Rattle.sentry_base.specs.declared.protocol.log.Log.{Log}
use Rattle.sentry_base.specs.declared.protocol.metric.Metric.{Metric}
use Rattle.sentry_options.specs.declared.clientoptions.plain.PlainOptions.{PlainOptions}
use Rattle.sentry_batches.specs.Batches.{tick_history, batch_on_tick, is_due, after_tick}
use Rattle.sentry_batches.specs.declared.batcher.TheConstants.{BATCH_INTERVAL}
use Rattle.sentry_sessions.specs.SessionQueues.{QueueEntry, Waiting, flushed, queue_of, envelopes_of, envelope_of}
use Rattle.sentry_telemetry.specs.declared.flushes.Flush.{Flush}
use Rattle.sentry_telemetry.specs.declared.flushes.Flush.TheVariants.{All, Due, Closing}
use Rattle.sentry_telemetry.specs.declared.flushes.TheConstants.{SESSION_INTERVAL}
use Rattle.sentry_state.specs.Outcomes.{client_at}
use Rattle.sentry_sending.specs.Sending.{Sending, send, send_nothing, send_some}
use Rattle.sentry_state.specs.Changes.{with_client_history}
use Rattle.sentry_state.specs.Worlds.{World, ClientHistory, QueueHistories}

-- ---- which queues, and when

-- the flush is one of a queue that has this interval, and whose last due tick came at this moment
abbrev pub is_flushed : Flush → ℕ → ℕ → Bool
is_flushed All interval last_tick = true
is_flushed Closing interval last_tick = true
is_flushed (Due now) interval last_tick = is_due interval last_tick now

-- the moment of the queue's last due tick after it: only a tick moves it
abbrev pub tick_after : Flush → ℕ → ℕ → ℕ
tick_after All interval last_tick = last_tick
tick_after Closing interval last_tick = last_tick
tick_after (Due now) interval last_tick = after_tick interval last_tick now

abbrev pub is_closing : Flush → Bool
is_closing All = false
is_closing Closing = true
is_closing (Due now) = false

-- ---- what is sent

-- the envelopes of the ended sessions that wait, if they are flushed
abbrev pub session_envelopes : Bool → Waiting → List Envelope
session_envelopes flushes queue = if flushes then envelopes_of queue else []

-- an envelope with this item alone, if there is one, before others
abbrev pub envelope_if_some : Option EnvelopeItem → List Envelope → List Envelope
envelope_if_some None others = others
envelope_if_some (Some added) others = envelope_of (added ∷ []) ∷ others

-- the envelopes of a batch of logs and of a batch of metrics, as far as there are such
abbrev pub batch_envelopes : Option (List Log) → Option (List Metric) → List Envelope
batch_envelopes logs metrics =
    envelope_if_some (option_map item.Logs logs) (envelope_if_some (option_map item.Metrics metrics) [])

-- the logs that a flush hands out of a batch with this limit, if it does
abbrev pub flushed_logs : ℕ → Flush → QueueHistories → Option (List Log)
flushed_logs limit flush queues = batch_on_tick limit (is_flushed flush BATCH_INTERVAL queues.log_tick) queues.logs

-- the metrics that a flush hands out, if it does
abbrev pub flushed_metrics : ℕ → Flush → QueueHistories → Option (List Metric)
flushed_metrics limit flush queues =
    batch_on_tick limit (is_flushed flush BATCH_INTERVAL queues.metric_tick) queues.metrics

-- the envelopes of a flush of a client with these options
abbrev pub flushed_envelopes : Flush → PlainOptions → QueueHistories → List Envelope
flushed_envelopes flush options queues =
    session_envelopes (is_flushed flush SESSION_INTERVAL queues.session_tick) (queue_of options.session_mode queues.sessions)
    ++ batch_envelopes (flushed_logs options.max_batch_items flush queues)
    (flushed_metrics options.max_batch_items flush queues)

-- ---- what is left

-- the history of ended sessions after a flush, if they are flushed
abbrev pub session_history : Bool → List QueueEntry → List QueueEntry
session_history flushes history = if flushes then flushed ∷ history else history

-- the queues, to whose sessions a flush came
abbrev pub flush_sessions : Flush → QueueHistories → QueueHistories
flush_sessions flush queues = record queues {
  sessions = session_history (is_flushed flush SESSION_INTERVAL queues.session_tick) queues.sessions;
  session_tick = tick_after flush SESSION_INTERVAL queues.session_tick;
}

-- the queues, to which a flush came
abbrev pub flush_histories : Flush → QueueHistories → QueueHistories
flush_histories flush queues = record (flush_sessions flush queues) {
  logs = tick_history (is_flushed flush BATCH_INTERVAL queues.log_tick) queues.logs;
  log_tick = tick_after flush BATCH_INTERVAL queues.log_tick;
  metrics = tick_history (is_flushed flush BATCH_INTERVAL queues.metric_tick) queues.metrics;
  metric_tick = tick_after flush BATCH_INTERVAL queues.metric_tick;
}

-- the client, to whose queues a flush came; the last one closes it, and empties its slot
abbrev pub after_flush : {C : Type 0} → Flush → ClientHistory C → ClientHistory C
after_flush flush client = record client {
  occupied = client.occupied && not (is_closing flush);
  closed = client.closed || is_closing flush;
  queues = flush_histories flush client.queues;
}

module _ {P C : Type 0} where
  -- what a flush hands out of the queues of a client is sent; a closed client has none
  unfoldable pub flush_queues : Flush → ClientKey → World P C → Sending P C
  flush_queues flush key world =
      send_some world (client_at world key) (λ client.
      if client.closed then send_nothing world else
      send key client (flushed_envelopes flush client.options.plain client.queues)
      (with_client_history world key (after_flush flush client)))
