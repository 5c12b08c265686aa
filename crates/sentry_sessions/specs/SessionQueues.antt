-- The ended sessions of a client that wait to be sent, as a function of all sessions that ended and of all flushes. The
-- newest entry stands first.
use Rattle.std.specs.Prelude.{ℕ, ◌*◌, ◌/◌, ◌-◌, ◌^◌, ◌&&◌, ◌++◌, min, Bool, true, false, not, nat_eq, nat_le, map, reverse, filter, count_by, length, option_map, Option, Some, None, List, [], ◌∷◌, if◌then◌else◌}
use Rattle.std.specs.Option.{option_or}
use Rattle.std.specs.FinMap.{FinMap, from_entries, entries}
use Rattle.std.specs.Ordering.{eq_by_cmp}
use Rattle.std.specs.declared.cmp.Ordering.{Ordering}
use Rattle.sentry_base.specs.Envelopes.{empty_envelope}
use Rattle.sentry_base.specs.declared.protocol.envelope.Envelope.{Envelope}
use Rattle.sentry_base.specs.declared.protocol.envelope.EnvelopeItem.{EnvelopeItem}
use Rattle.sentry_base.specs.declared.protocol.envelope.EnvelopeItem.TheVariants as item
use Rattle.sentry_base.specs.declared.protocol.session.SessionAggregateItem.{SessionAggregateItem}
use Rattle.sentry_base.specs.declared.protocol.session.SessionAggregates.{SessionAggregates}
use Rattle.sentry_base.specs.declared.protocol.session.SessionAttributes.{SessionAttributes}
use Rattle.sentry_base.specs.declared.protocol.session.SessionStatus.{SessionStatus}
use Rattle.sentry_base.specs.declared.protocol.session.SessionStatus.TheVariants as session_status
use Rattle.sentry_base.specs.declared.protocol.session.SessionUpdate.{SessionUpdate}
use Rattle.sentry_options.specs.declared.clientoptions.choices.SessionMode.{SessionMode}
use Rattle.sentry_options.specs.declared.clientoptions.choices.SessionMode.TheVariants as session_mode
use Rattle.sentry_sessions.specs.AggregateOrder.{minute_cmp}
use Rattle.sentry_sessions.specs.declared.session.aggregates.AggregateCounts.{AggregateCounts}
use Rattle.sentry_sessions.specs.declared.session.aggregates.AggregateKey.{AggregateKey}
use Rattle.sentry_sessions.specs.declared.session.aggregates.TheConstants.{MINUTE, MAX_INDIVIDUAL}

-- one entry in the history
pub data QueueEntry : Type 0 where
  -- a session ended, with this update
  enqueued : SessionUpdate → QueueEntry
  -- all that waited was handed out
  flushed : QueueEntry

-- ---- counts

-- by the minute, and then by the distinct id, none first
abbrev pub aggregate_cmp : AggregateKey → AggregateKey → Ordering
aggregate_cmp a b = minute_cmp (a.started, a.distinct_id) (b.started, b.distinct_id)

-- the minute in which the session started, and its distinct id
abbrev pub key_of : SessionUpdate → AggregateKey
key_of update = record { started = update.started / MINUTE * MINUTE; distinct_id = update.distinct_id }

-- a session that goes on has not exited, and counts nowhere
abbrev pub is_exit : SessionStatus → Bool
is_exit session_status.Exited = true
is_exit _ = false

abbrev pub is_abnormal : SessionStatus → Bool
is_abnormal session_status.Abnormal = true
is_abnormal _ = false

abbrev pub is_crashed : SessionStatus → Bool
is_crashed session_status.Crashed = true
is_crashed _ = false

abbrev pub has_exited : SessionUpdate → Bool
has_exited update = is_exit update.status && nat_eq update.errors 0

abbrev pub has_errored : SessionUpdate → Bool
has_errored update = is_exit update.status && not (nat_eq update.errors 0)

abbrev pub was_abnormal : SessionUpdate → Bool
was_abnormal update = is_abnormal update.status

abbrev pub has_crashed : SessionUpdate → Bool
has_crashed update = is_crashed update.status

-- how many of the updates have the key and pass the test, at most 2^32 - 1
abbrev pub count_at : (SessionUpdate → Bool) → List SessionUpdate → AggregateKey → ℕ
count_at test updates key =
    min (count_by (λ update. eq_by_cmp aggregate_cmp key (key_of update) && test update) updates) (2 ^ 32 - 1)

abbrev pub counts_at : List SessionUpdate → AggregateKey → AggregateCounts
counts_at updates key = record {
  exited = count_at has_exited updates key;
  errored = count_at has_errored updates key;
  abnormal = count_at was_abnormal updates key;
  crashed = count_at has_crashed updates key;
}

-- the map that has, at the key of each update, the counts of that key
unfoldable pub counts_of : List SessionUpdate → FinMap aggregate_cmp AggregateCounts
counts_of updates = from_entries (map (λ update. (key_of update, counts_at updates (key_of update))) updates)

-- ---- what waits

abbrev pub is_aggregated : SessionMode → SessionUpdate → Bool
is_aggregated session_mode.Application update = false
is_aggregated session_mode.Request update = update.init

-- the updates that are counted
abbrev pub aggregated_updates : SessionMode → List SessionUpdate → List SessionUpdate
aggregated_updates mode updates = filter (is_aggregated mode) updates

-- the updates that are sent one by one
abbrev pub individual : SessionMode → List SessionUpdate → List SessionUpdate
individual mode updates = filter (λ update. not (is_aggregated mode update)) updates

abbrev pub is_full : SessionMode → List SessionUpdate → Bool
is_full mode updates = nat_le MAX_INDIVIDUAL (length (individual mode updates))

-- the updates since the last flush; the hundredth that is sent by itself makes a flush
unfoldable pub since_flush : SessionMode → List QueueEntry → List SessionUpdate
since_flush mode [] = []
since_flush mode (flushed ∷ earlier) = []
since_flush mode (enqueued update ∷ earlier) =
    if is_full mode (update ∷ since_flush mode earlier) then [] else update ∷ since_flush mode earlier

-- the last of a list, which is the oldest of the newest first
abbrev pub oldest : {A : Type 0} → List A → Option A
oldest [] = None
oldest (x ∷ xs) = option_or (oldest xs) (Some x)

-- what waits: counts in the order of their keys, the attributes of the first session that was counted, and the updates
-- that are sent one by one, oldest first
pub record Waiting : Type 0 where
  pub mode : SessionMode
  pub counts : List (AggregateKey × AggregateCounts)
  pub attributes : Option SessionAttributes
  pub individual : List EnvelopeItem

unfoldable pub waiting_of : SessionMode → List SessionUpdate → Waiting
waiting_of mode updates = record {
  mode = mode;
  counts = entries (counts_of (aggregated_updates mode updates));
  attributes = option_map (λ update. update.attributes) (oldest (aggregated_updates mode updates));
  individual = map item.SessionUpdate (reverse (individual mode updates));
}

-- what a queue keeps of its history
abbrev pub queue_of : SessionMode → List QueueEntry → Waiting
queue_of mode history = waiting_of mode (since_flush mode history)

-- ---- envelopes

abbrev pub aggregate_item : AggregateKey × AggregateCounts → SessionAggregateItem
aggregate_item entry = record {
  started = entry.0.started;
  distinct_id = entry.0.distinct_id;
  exited = entry.1.exited;
  errored = entry.1.errored;
  abnormal = entry.1.abnormal;
  crashed = entry.1.crashed;
}

-- the counts, if anything was counted
abbrev pub aggregates_of : Waiting → Option SessionAggregates
aggregates_of queue =
    option_map (λ attributes. record { aggregates = map aggregate_item queue.counts; attributes = attributes })
    queue.attributes

abbrev pub envelope_of : List EnvelopeItem → Envelope
envelope_of items = record empty_envelope { items = items }

-- an envelope of these items, or none without any
abbrev pub envelope_if_any : List EnvelopeItem → List Envelope
envelope_if_any [] = []
envelope_if_any (first ∷ rest) = envelope_of (first ∷ rest) ∷ []

abbrev pub aggregates_items : Option SessionAggregates → List EnvelopeItem
aggregates_items None = []
aggregates_items (Some aggregates) = item.SessionAggregates aggregates ∷ []

-- the counts in one envelope, and the other updates in the next
abbrev pub envelopes_of : Waiting → List Envelope
envelopes_of queue = envelope_if_any (aggregates_items (aggregates_of queue)) ++ envelope_if_any queue.individual

-- the envelopes that are handed out when a session ends with this update: all that waits, if it is the hundredth
abbrev pub envelopes_on : SessionMode → SessionUpdate → List QueueEntry → List Envelope
envelopes_on mode update history =
    let updates = update ∷ since_flush mode history in
    if is_full mode updates then envelopes_of (waiting_of mode updates) else []
