-- Which batches come with an arrival, for logs and for metrics.
use Rattle.std.proofs.Common.{◌≡◌, refl, ap, ◌∙◌, sym, ℕ, List, [], ◌∷◌, ◌++◌, Bool, true, false, map, reverse}
use Rattle.std.proofs.lemmas.List.{append-nil}
use Rattle.std.specs.Prelude.{Option, Some, None, Result, if◌then◌else◌}
use Rattle.std.specs.Option.{option_to_list}
use Rattle.sentry_base.specs.Callbacks.{Partial}
use Rattle.sentry_base.specs.declared.protocol.envelope.Envelope.{Envelope}
use Rattle.sentry_base.specs.declared.protocol.envelope.EnvelopeItem.{EnvelopeItem}
use Rattle.sentry_base.specs.declared.protocol.envelope.EnvelopeItem.TheVariants as item
use Rattle.sentry_base.specs.declared.protocol.log.Log.{Log}
use Rattle.sentry_base.specs.declared.protocol.metric.Metric.{Metric}
use Rattle.sentry_base.specs.declared.protocol.refusal.Refusal.{Refusal}
use Rattle.sentry_base.specs.declared.protocol.session.SessionUpdate.{SessionUpdate}
use Rattle.sentry_base.specs.declared.protocol.session.SessionAggregates.{SessionAggregates}
use Rattle.sentry_options.specs.Meanings.{Meanings}
use Rattle.sentry_options.specs.declared.clientoptions.choices.SessionMode.{SessionMode}
use Rattle.sentry_batches.specs.Batches.{BatchEntry, accept, batch_on, batch_on_tick, tick_history, batches}
use Rattle.sentry_sessions.specs.SessionQueues.{QueueEntry, since_flush, is_full, waiting_of, queue_of, individual, aggregates_of, aggregates_items, envelope_if_any, envelopes_of, envelopes_on}
use Rattle.sentry_state.specs.declared.state.Out.{Out}
use Rattle.sentry_state.specs.Worlds.{World, ClientHistory, starting_world}
use Rattle.sentry_telemetry.specs.Flushes.{batch_envelopes, session_envelopes, is_flushed, flushed_logs, flushed_metrics}
use Rattle.sentry_telemetry.specs.declared.flushes.TheConstants.{SESSION_INTERVAL}
use Rattle.sentry_batches.specs.declared.batcher.TheConstants.{BATCH_INTERVAL}
use Rattle.sentry_calls.specs.declared.call.Call.{Call}
use Rattle.sentry_calls.specs.declared.call.Reply.{Reply}
use Rattle.sentry_calls.specs.Runs.{Run}
use Rattle.sentry_laws.proofs.Changes.{is_batch_or_report, after_arrival, envelopes_on_arrival, Arrival, log_came, metric_came, session_ended, flush_came}
use Rattle.sentry_laws.specs.SentItems.{log_batch, metric_batch, batches_among, SendsAcceptedLogs, SendsAcceptedMetrics, SendsLogsAtEachCall, SendsMetricsAtEachCall}
use Rattle.sentry_laws.proofs.SentBatches.{limit_of, all_batches, all_batches-append, sends_accepted, sends_at_each_call}

log_is : (i : EnvelopeItem) → is_batch_or_report i ≡ false → log_batch i ≡ None
log_is (item.Logs logs) h = absurd cc
log_is _ h = refl

metric_is : (i : EnvelopeItem) → is_batch_or_report i ≡ false → metric_batch i ≡ None
metric_is (item.Metrics metrics) h = absurd cc
metric_is _ h = refl

-- ---- the batches of one queue

module _ {T : Type 0} where
  ticked : (limit : ℕ) (b : Bool) (history : List (BatchEntry T)) → batches limit (tick_history b history)
      ≡ batches limit history ++ option_to_list (batch_on_tick limit b history)
  ticked limit true history = refl
  ticked limit false history = sym (append-nil (batches limit history))

log_batches_of : (logs : Option (List Log)) (metrics : Option (List Metric))
    → all_batches log_batch (batch_envelopes logs metrics) ≡ option_to_list logs
log_batches_of None None = refl
log_batches_of None (Some metrics) = refl
log_batches_of (Some logs) None = refl
log_batches_of (Some logs) (Some metrics) = refl

metric_batches_of : (logs : Option (List Log)) (metrics : Option (List Metric)) → all_batches metric_batch
    (batch_envelopes logs metrics) ≡ option_to_list metrics
metric_batches_of None None = refl
metric_batches_of None (Some metrics) = refl
metric_batches_of (Some logs) None = refl
metric_batches_of (Some logs) (Some metrics) = refl

-- ---- no batch is in an envelope of sessions

module _ {T : Type 0} (batch_in : EnvelopeItem → Option (List T)) (update_is : (update : SessionUpdate)
    → batch_in (item.SessionUpdate update) ≡ None)
    (aggregates_is : (aggregates : SessionAggregates) → batch_in (item.SessionAggregates aggregates) ≡ None) where
  updates_none : (updates : List SessionUpdate) → batches_among batch_in (map item.SessionUpdate updates) ≡ []
  updates_none [] = refl
  updates_none (update ∷ rest) =
      ap (λ (o : Option (List T)). option_to_list o ++ batches_among batch_in (map item.SessionUpdate rest))
      (update_is update) ∙ updates_none rest

  aggregates_none : (o : Option SessionAggregates) → batches_among batch_in (aggregates_items o) ≡ []
  aggregates_none None = refl
  aggregates_none (Some aggregates) = ap (λ (o : Option (List T)). option_to_list o ++ []) (aggregates_is aggregates)

  envelope_none : (items : List EnvelopeItem) → batches_among batch_in items ≡ []
      → all_batches batch_in (envelope_if_any items) ≡ []
  envelope_none [] h = refl
  envelope_none (first ∷ rest) h = ap (λ l. l ++ []) h

  waiting_none : (mode : SessionMode) (updates : List SessionUpdate)
      → all_batches batch_in (envelopes_of (waiting_of mode updates)) ≡ []
  unfolding waiting_of
  waiting_none mode updates =
      let waiting = waiting_of mode updates in
      all_batches-append batch_in (envelope_if_any (aggregates_items (aggregates_of waiting)))
      (envelope_if_any waiting.individual)
      ∙ (ap (λ l. l ++ all_batches batch_in (envelope_if_any waiting.individual))
      (envelope_none (aggregates_items (aggregates_of waiting)) (aggregates_none (aggregates_of waiting)))
      ∙ envelope_none waiting.individual (updates_none (reverse (individual mode updates))))

  if_none : (b : Bool) (envelopes : List Envelope) → all_batches batch_in envelopes ≡ []
      → all_batches batch_in (if b then envelopes else []) ≡ []
  if_none true envelopes h = h
  if_none false envelopes h = refl

  pub session_none : (mode : SessionMode) (update : SessionUpdate) (history : List QueueEntry)
      → all_batches batch_in (envelopes_on mode update history) ≡ []
  session_none mode update history =
      if_none (is_full mode (update ∷ since_flush mode history))
      (envelopes_of (waiting_of mode (update ∷ since_flush mode history)))
      (waiting_none mode (update ∷ since_flush mode history))

  pub flushed_none : (b : Bool) (mode : SessionMode) (history : List QueueEntry) (others : List Envelope)
      → all_batches batch_in (session_envelopes b (queue_of mode history) ++ others) ≡ all_batches batch_in others
  flushed_none b mode history others =
      all_batches-append batch_in (session_envelopes b (queue_of mode history)) others
      ∙ ap (λ l. l ++ all_batches batch_in others) (if_none b (envelopes_of (queue_of mode history))
      (waiting_none mode (since_flush mode history)))

none_more : {T : Type 0} (xs ys : List (List T)) → ys ≡ [] → xs ≡ xs ++ ys
none_more xs ys h = sym (ap (λ l. xs ++ l) h ∙ append-nil xs)

module _ {C : Type 0} where
  logs_on : (arrival : Arrival) (client : ClientHistory C) → batches (limit_of (after_arrival arrival client))
      (after_arrival arrival client).queues.logs ≡ batches (limit_of client) client.queues.logs ++ all_batches log_batch
      (envelopes_on_arrival arrival client)
  logs_on (log_came log) client = ap (λ l. batches (limit_of client) client.queues.logs ++ l)
      (sym (log_batches_of (batch_on (limit_of client) (accept log) client.queues.logs) None))
  logs_on (metric_came metric) client = none_more (batches (limit_of client) client.queues.logs) _
      (log_batches_of None (batch_on (limit_of client) (accept metric) client.queues.metrics))
  logs_on (session_ended update) client = none_more (batches (limit_of client) client.queues.logs) _
      (session_none log_batch (λ u. refl) (λ a. refl) client.options.plain.session_mode update client.queues.sessions)
  logs_on (flush_came flush) client =
      let mode = client.options.plain.session_mode in
      ticked (limit_of client) (is_flushed flush BATCH_INTERVAL client.queues.log_tick) client.queues.logs
      ∙ ap (λ l. batches (limit_of client) client.queues.logs ++ l)
      (sym (flushed_none log_batch (λ u. refl) (λ a. refl)
      (is_flushed flush SESSION_INTERVAL client.queues.session_tick) mode client.queues.sessions
      (batch_envelopes (flushed_logs (limit_of client) flush client.queues)
      (flushed_metrics (limit_of client) flush client.queues))
      ∙ log_batches_of (flushed_logs (limit_of client) flush client.queues)
      (flushed_metrics (limit_of client) flush client.queues)))

  metrics_on : (arrival : Arrival) (client : ClientHistory C) → batches (limit_of (after_arrival arrival client))
      (after_arrival arrival client).queues.metrics ≡ batches (limit_of client) client.queues.metrics
      ++ all_batches metric_batch (envelopes_on_arrival arrival client)
  metrics_on (log_came log) client = none_more (batches (limit_of client) client.queues.metrics) _
      (metric_batches_of (batch_on (limit_of client) (accept log) client.queues.logs) None)
  metrics_on (metric_came metric) client = ap (λ l. batches (limit_of client) client.queues.metrics ++ l)
      (sym (metric_batches_of None (batch_on (limit_of client) (accept metric) client.queues.metrics)))
  metrics_on (session_ended update) client = none_more (batches (limit_of client) client.queues.metrics) _
      (session_none metric_batch (λ u. refl) (λ a. refl)
      client.options.plain.session_mode update client.queues.sessions)
  metrics_on (flush_came flush) client =
      let mode = client.options.plain.session_mode in
      ticked (limit_of client) (is_flushed flush BATCH_INTERVAL client.queues.metric_tick) client.queues.metrics
      ∙ ap (λ l. batches (limit_of client) client.queues.metrics ++ l)
      (sym (flushed_none metric_batch (λ u. refl) (λ a. refl)
      (is_flushed flush SESSION_INTERVAL client.queues.session_tick) mode client.queues.sessions
      (batch_envelopes (flushed_logs (limit_of client) flush client.queues)
      (flushed_metrics (limit_of client) flush client.queues))
      ∙ metric_batches_of (flushed_logs (limit_of client) flush client.queues)
      (flushed_metrics (limit_of client) flush client.queues)))

module _ {P C : Type 0} (gives : P → Partial) (meanings : C → Meanings) where
  pub sends_logs : (tag start : ℕ) (calls : List (Call P C)) (answers : List (Result (Out (Reply P C)) Refusal))
      (last : World P C)
      → Run gives meanings (starting_world tag start) calls answers last → SendsAcceptedLogs calls answers last
  sends_logs = sends_accepted log_batch log_is (λ report. refl) (λ queues. queues.logs) (λ now. refl)
      logs_on gives meanings

  pub sends_metrics : (tag start : ℕ) (calls : List (Call P C)) (answers : List (Result (Out (Reply P C)) Refusal))
      (last : World P C)
      → Run gives meanings (starting_world tag start) calls answers last → SendsAcceptedMetrics calls answers last
  sends_metrics = sends_accepted metric_batch metric_is (λ report. refl) (λ queues. queues.metrics) (λ now. refl)
      metrics_on gives meanings

  pub sends_logs_at_each_call : (tag start : ℕ) (calls : List (Call P C))
      (answers : List (Result (Out (Reply P C)) Refusal)) (last : World P C)
      (run : Run gives meanings (starting_world tag start) calls answers last)
      → SendsLogsAtEachCall gives meanings (starting_world tag start) calls answers last run
  sends_logs_at_each_call = sends_at_each_call log_batch log_is (λ report. refl) (λ queues. queues.logs) (λ now. refl)
      logs_on gives meanings (λ client. refl) (λ client none. none.0)

  pub sends_metrics_at_each_call : (tag start : ℕ) (calls : List (Call P C))
      (answers : List (Result (Out (Reply P C)) Refusal)) (last : World P C)
      (run : Run gives meanings (starting_world tag start) calls answers last)
      → SendsMetricsAtEachCall gives meanings (starting_world tag start) calls answers last run
  sends_metrics_at_each_call = sends_at_each_call metric_batch metric_is (λ report. refl) (λ queues. queues.metrics)
      (λ now. refl) metrics_on gives meanings (λ client. refl) (λ client none. none.1)
