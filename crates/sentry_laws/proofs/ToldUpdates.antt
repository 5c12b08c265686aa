-- Which updates of sessions are in what comes from a queue.
use Rattle.std.proofs.Common.{◌≡◌, refl, ap, subst, ℕ, zero, suc, List, [], ◌∷◌, ◌++◌, Bool, true, false, map, reverse, drop, ◌⊎◌, inl, inr}
use Rattle.std.proofs.lemmas.List.{append-nil, reverse-append}
use Rattle.std.specs.Prelude.{Option, Some, None, if◌then◌else◌, filter, not}
use Rattle.std.specs.Option.{option_to_list}
use Rattle.sentry_base.specs.Envelopes.{with_report}
use Rattle.sentry_base.specs.declared.protocol.client_report.ClientReport.{ClientReport}
use Rattle.sentry_base.specs.declared.protocol.envelope.Envelope.{Envelope}
use Rattle.sentry_base.specs.declared.protocol.envelope.EnvelopeItem.{EnvelopeItem}
use Rattle.sentry_base.specs.declared.protocol.envelope.EnvelopeItem.TheVariants as item
use Rattle.sentry_base.specs.declared.protocol.keys.ClientKey.{ClientKey}
use Rattle.sentry_base.specs.declared.protocol.log.Log.{Log}
use Rattle.sentry_base.specs.declared.protocol.metric.Metric.{Metric}
use Rattle.sentry_base.specs.declared.protocol.session.SessionAggregates.{SessionAggregates}
use Rattle.sentry_base.specs.declared.protocol.session.SessionUpdate.{SessionUpdate}
use Rattle.sentry_options.specs.declared.clientoptions.choices.SessionMode.{SessionMode}
use Rattle.sentry_batches.specs.Batches.{accept, batch_on}
use Rattle.sentry_sessions.specs.SessionQueues.{QueueEntry, enqueued, flushed, since_flush, is_full, is_aggregated, waiting_of, queue_of, individual, aggregates_of, aggregates_items, envelope_if_any, envelopes_of}
use Rattle.sentry_sending.specs.Sending.{for_client, envelopes_from}
use Rattle.sentry_telemetry.specs.Flushes.{batch_envelopes, session_envelopes, is_flushed, flushed_logs, flushed_metrics}
use Rattle.sentry_telemetry.specs.declared.flushes.TheConstants.{SESSION_INTERVAL}
use Rattle.sentry_state.specs.Worlds.{ClientHistory}
use Rattle.sentry_laws.specs.Statuses.{Among}
use Rattle.sentry_laws.specs.Updates.{update_in, updates_among, updates_in, all_queued}
use Rattle.sentry_laws.proofs.Changes.{Arrival, log_came, metric_came, session_ended, flush_came, envelopes_on_arrival}

-- ---- membership

module _ {X : Type 0} where
  pub among_append : (x : X) (xs ys : List X) → Among x (xs ++ ys) → Among x xs ⊎ Among x ys
  among_append x [] ys h = inr h
  among_append x (first ∷ xs) ys (inl e) = inl (inl e)
  among_append x (first ∷ xs) ys (inr h) = later (among_append x xs ys h)
    where
      later : Among x xs ⊎ Among x ys → ((x ≡ first) ⊎ Among x xs) ⊎ Among x ys
      later (inl h) = inl (inr h)
      later (inr h) = inr h

  pub among_first : (x : X) (xs ys : List X) → Among x xs → Among x (xs ++ ys)
  among_first x [] ys h = absurd h
  among_first x (first ∷ xs) ys (inl e) = inl e
  among_first x (first ∷ xs) ys (inr h) = inr (among_first x xs ys h)

  pub among_second : (x : X) (xs ys : List X) → Among x ys → Among x (xs ++ ys)
  among_second x [] ys h = h
  among_second x (first ∷ xs) ys h = inr (among_second x xs ys h)

  pub among_dropped : (x : X) (n : ℕ) (xs : List X) → Among x (drop n xs) → Among x xs
  among_dropped x zero xs h = h
  among_dropped x (suc n) [] h = h
  among_dropped x (suc n) (first ∷ xs) h = inr (among_dropped x n xs h)

  among_reversed : (x : X) (xs : List X) → Among x (reverse xs) → Among x xs
  among_reversed x [] h = h
  among_reversed x (first ∷ xs) h =
      turned (among_reversed x xs)
      (among_append x (reverse xs) (first ∷ []) (subst (Among x) (reverse-append (first ∷ []) xs) h))
    where
      turned : (Among x (reverse xs) → Among x xs) → Among x (reverse xs) ⊎ Among x (first ∷ [])
          → (x ≡ first) ⊎ Among x xs
      turned go (inl h) = inr (go h)
      turned go (inr (inl e)) = inl e
      turned go (inr (inr h)) = absurd h

  among_filtered : (test : X → Bool) (x : X) (xs : List X) → Among x (filter test xs) → Among x xs
  among_filtered test x [] h = h
  among_filtered test x (first ∷ xs) h = by_test (test first) (among_filtered test x xs) h
    where
      by_test : (b : Bool) → (Among x (filter test xs) → Among x xs)
          → Among x (if b then first ∷ filter test xs else filter test xs) → (x ≡ first) ⊎ Among x xs
      by_test true go (inl e) = inl e
      by_test true go (inr h) = inr (go h)
      by_test false go h = inr (go h)

-- ---- envelopes

-- the updates in envelopes, of whatever client
abbrev updates_of_all : List Envelope → List SessionUpdate
updates_of_all [] = []
updates_of_all (envelope ∷ rest) = updates_among envelope.items ++ updates_of_all rest

pub updates_in-append : (xs ys : List (ClientKey × Envelope)) (u : SessionUpdate) → Among u (updates_in (xs ++ ys))
    → Among u (updates_in xs) ⊎ Among u (updates_in ys)
updates_in-append [] ys u h = inr h
updates_in-append (x ∷ xs) ys u h =
    split (updates_in-append xs ys u) (among_append u (updates_among x.1.items) (updates_in (xs ++ ys)) h)
  where
    split : (Among u (updates_in (xs ++ ys)) → Among u (updates_in xs) ⊎ Among u (updates_in ys))
        → Among u (updates_among x.1.items) ⊎ Among u (updates_in (xs ++ ys))
        → Among u (updates_among x.1.items ++ updates_in xs) ⊎ Among u (updates_in ys)
    split go (inl h) = inl (among_first u (updates_among x.1.items) (updates_in xs) h)
    split go (inr h) = more (go h)
      where
        more : Among u (updates_in xs) ⊎ Among u (updates_in ys)
            → Among u (updates_among x.1.items ++ updates_in xs) ⊎ Among u (updates_in ys)
        more (inl h) = inl (among_second u (updates_among x.1.items) (updates_in xs) h)
        more (inr h) = inr h

among_one_more : (items : List EnvelopeItem) (added : EnvelopeItem) → update_in added ≡ None
    → updates_among (items ++ added ∷ []) ≡ updates_among items
among_one_more [] added none = ap (λ (o : Option SessionUpdate). option_to_list o ++ []) none
among_one_more (x ∷ xs) added none = ap (λ l. option_to_list (update_in x) ++ l) (among_one_more xs added none)

pub among_reported : (report : Option ClientReport) (envelope : Envelope)
    → updates_among (with_report report envelope).items ≡ updates_among envelope.items
among_reported None envelope = refl
among_reported (Some report) envelope = among_one_more envelope.items (item.ClientReport report) refl

from_client : (key : ClientKey) (report : Option ClientReport) (envelopes : List Envelope)
    → updates_in (for_client key report envelopes) ≡ updates_of_all envelopes
from_client key report [] = refl
from_client key report (first ∷ rest) =
    λ i. among_reported report first i ++ from_client key None rest i

pub from_slot : (occupied : Bool) (key : ClientKey) (report : Option ClientReport) (envelopes : List Envelope)
    (u : SessionUpdate) → Among u (updates_in (envelopes_from occupied key report envelopes))
    → Among u (updates_of_all envelopes)
from_slot true key report envelopes u h = subst (Among u) (from_client key report envelopes) h
from_slot false key report envelopes u h = absurd h

all-append : (xs ys : List Envelope) (u : SessionUpdate) → Among u (updates_of_all (xs ++ ys))
    → Among u (updates_of_all xs) ⊎ Among u (updates_of_all ys)
all-append [] ys u h = inr h
all-append (x ∷ xs) ys u h =
    split (all-append xs ys u) (among_append u (updates_among x.items) (updates_of_all (xs ++ ys)) h)
  where
    split : (Among u (updates_of_all (xs ++ ys)) → Among u (updates_of_all xs) ⊎ Among u (updates_of_all ys))
        → Among u (updates_among x.items) ⊎ Among u (updates_of_all (xs ++ ys))
        → Among u (updates_among x.items ++ updates_of_all xs) ⊎ Among u (updates_of_all ys)
    split go (inl h) = inl (among_first u (updates_among x.items) (updates_of_all xs) h)
    split go (inr h) = more (go h)
      where
        more : Among u (updates_of_all xs) ⊎ Among u (updates_of_all ys)
            → Among u (updates_among x.items ++ updates_of_all xs) ⊎ Among u (updates_of_all ys)
        more (inl h) = inl (among_second u (updates_among x.items) (updates_of_all xs) h)
        more (inr h) = inr h

-- ---- what waits in a queue

in_envelope : (items : List EnvelopeItem) (u : SessionUpdate) → Among u (updates_of_all (envelope_if_any items))
    → Among u (updates_among items)
in_envelope [] u h = absurd h
in_envelope (first ∷ rest) u h = subst (Among u) (append-nil (updates_among (first ∷ rest))) h

in_updates : (updates : List SessionUpdate) (u : SessionUpdate)
    → Among u (updates_among (map item.SessionUpdate updates)) → Among u updates
in_updates [] u h = h
in_updates (first ∷ rest) u (inl e) = inl e
in_updates (first ∷ rest) u (inr h) = inr (in_updates rest u h)

in_aggregates : (o : Option SessionAggregates) (u : SessionUpdate) → Among u (updates_among (aggregates_items o)) → ⊥
in_aggregates None u h = h
in_aggregates (Some aggregates) u h = h

in_waiting : (mode : SessionMode) (updates : List SessionUpdate) (u : SessionUpdate)
    → Among u (updates_of_all (envelopes_of (waiting_of mode updates))) → Among u updates
unfolding waiting_of
in_waiting mode updates u h =
    by_part (all-append (envelope_if_any (aggregates_items (aggregates_of (waiting_of mode updates))))
    (envelope_if_any (map item.SessionUpdate (reverse (individual mode updates)))) u h)
  where
    by_part : Among u (updates_of_all (envelope_if_any (aggregates_items (aggregates_of (waiting_of mode updates)))))
        ⊎ Among u (updates_of_all (envelope_if_any (map item.SessionUpdate (reverse (individual mode updates)))))
        → Among u updates
    by_part (inl h) =
        absurd (in_aggregates (aggregates_of (waiting_of mode updates)) u
        (in_envelope (aggregates_items (aggregates_of (waiting_of mode updates))) u h))
    by_part (inr h) =
        among_filtered (λ update. not (is_aggregated mode update)) u updates
        (among_reversed u (individual mode updates)
        (in_updates (reverse (individual mode updates)) u
        (in_envelope (map item.SessionUpdate (reverse (individual mode updates))) u h)))

in_history : (mode : SessionMode) (history : List QueueEntry) (u : SessionUpdate) → Among u (since_flush mode history)
    → Among u (all_queued history)
unfolding since_flush
in_history mode [] u h = h
in_history mode (flushed ∷ history) u h = absurd h
in_history mode (enqueued update ∷ history) u h =
    by_full (is_full mode (update ∷ since_flush mode history)) (in_history mode history u) h
  where
    by_full : (b : Bool) → (Among u (since_flush mode history) → Among u (all_queued history))
        → Among u (if b then [] else update ∷ since_flush mode history) → Among u (all_queued history ++ update ∷ [])
    by_full true go h = absurd h
    by_full false go (inl e) = among_second u (all_queued history) (update ∷ []) (inl e)
    by_full false go (inr h) = among_first u (all_queued history) (update ∷ []) (go h)

if_envelopes : (b : Bool) (envelopes : List Envelope) (u : SessionUpdate)
    → Among u (updates_of_all (if b then envelopes else [])) → Among u (updates_of_all envelopes)
if_envelopes true envelopes u h = h
if_envelopes false envelopes u h = absurd h

no_batches : (logs : Option (List Log)) (metrics : Option (List Metric)) (u : SessionUpdate)
    → Among u (updates_of_all (batch_envelopes logs metrics)) → ⊥
no_batches None None u h = h
no_batches None (Some metrics) u h = h
no_batches (Some logs) None u h = h
no_batches (Some logs) (Some metrics) u h = h

-- the update that comes, if one does
abbrev pub ComesBy : SessionUpdate → Arrival → Type 0
ComesBy u (session_ended update) = u ≡ update
ComesBy u _ = ⊥

module _ {C : Type 0} where
  -- an update that is sent where something comes was queued before, or comes
  pub sent_on_arrival : (arrival : Arrival) (client : ClientHistory C) (u : SessionUpdate)
      → Among u (updates_of_all (envelopes_on_arrival arrival client))
      → Among u (all_queued client.queues.sessions) ⊎ ComesBy u arrival
  sent_on_arrival (log_came log) client u h =
      absurd (no_batches (batch_on client.options.plain.max_batch_items (accept log) client.queues.logs) None u h)
  sent_on_arrival (metric_came metric) client u h =
      absurd (no_batches None (batch_on client.options.plain.max_batch_items (accept metric) client.queues.metrics) u h)
  sent_on_arrival (session_ended update) client u h =
      let mode = client.options.plain.session_mode in
      let history = client.queues.sessions in
      by_place (in_waiting mode (update ∷ since_flush mode history) u
      (if_envelopes (is_full mode (update ∷ since_flush mode history))
      (envelopes_of (waiting_of mode (update ∷ since_flush mode history))) u h))
    where
      by_place : Among u (update ∷ since_flush client.options.plain.session_mode client.queues.sessions)
          → Among u (all_queued client.queues.sessions) ⊎ (u ≡ update)
      by_place (inl e) = inr e
      by_place (inr h) = inl (in_history client.options.plain.session_mode client.queues.sessions u h)
  sent_on_arrival (flush_came flush) client u h =
      let mode = client.options.plain.session_mode in
      let history = client.queues.sessions in
      by_part (all-append
      (session_envelopes (is_flushed flush SESSION_INTERVAL client.queues.session_tick) (queue_of mode history))
      (batch_envelopes (flushed_logs client.options.plain.max_batch_items flush client.queues)
      (flushed_metrics client.options.plain.max_batch_items flush client.queues)) u h)
    where
      by_part : Among u (updates_of_all (session_envelopes
          (is_flushed flush SESSION_INTERVAL client.queues.session_tick)
          (queue_of client.options.plain.session_mode client.queues.sessions)))
          ⊎ Among u (updates_of_all (batch_envelopes
          (flushed_logs client.options.plain.max_batch_items flush client.queues)
          (flushed_metrics client.options.plain.max_batch_items flush client.queues)))
          → Among u (all_queued client.queues.sessions) ⊎ ⊥
      by_part (inl h) =
          let mode = client.options.plain.session_mode in
          let history = client.queues.sessions in
          inl (in_history mode history u (in_waiting mode (since_flush mode history) u
          (if_envelopes (is_flushed flush SESSION_INTERVAL client.queues.session_tick)
          (envelopes_of (queue_of mode history)) u h)))
      by_part (inr h) =
          absurd (no_batches (flushed_logs client.options.plain.max_batch_items flush client.queues)
          (flushed_metrics client.options.plain.max_batch_items flush client.queues) u h)
