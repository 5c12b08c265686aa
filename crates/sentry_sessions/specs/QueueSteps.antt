-- What one call does to the sessions that wait. `SessionQueue`'s contracts say that this is what its history says.
use Rattle.std.specs.Prelude.{ℕ, ◌+◌, ◌-◌, ◌^◌, ◌++◌, min, Bool, not, ◌&&◌, nat_le, length, unwrap_or, Some, None, List, [], ◌∷◌, if◌then◌else◌}
use Rattle.std.specs.Option.{option_or}
use Rattle.std.specs.BTreeMap.{insert_entry, is_at}
use Rattle.std.specs.Map.{lookup}
use Rattle.sentry_base.specs.declared.protocol.envelope.Envelope.{Envelope}
use Rattle.sentry_base.specs.declared.protocol.envelope.EnvelopeItem.TheVariants as item
use Rattle.sentry_base.specs.declared.protocol.session.SessionUpdate.{SessionUpdate}
use Rattle.sentry_options.specs.declared.clientoptions.choices.SessionMode.{SessionMode}
use Rattle.sentry_sessions.specs.SessionQueues.{Waiting, aggregate_cmp, key_of, has_exited, has_errored, was_abnormal, has_crashed, is_aggregated, envelopes_of}
use Rattle.sentry_sessions.specs.declared.session.aggregates.AggregateCounts.{AggregateCounts}
use Rattle.sentry_sessions.specs.declared.session.aggregates.AggregateKey.{AggregateKey}
use Rattle.sentry_sessions.specs.declared.session.aggregates.TheConstants.{MAX_INDIVIDUAL}

-- one more, at most 2^32 - 1, if it is counted
abbrev pub add_if : Bool → ℕ → ℕ
add_if counted count = if counted then min (count + 1) (2 ^ 32 - 1) else count

abbrev pub no_counts : AggregateCounts
no_counts = record { exited = 0; errored = 0; abnormal = 0; crashed = 0 }

abbrev pub count_update : SessionUpdate → AggregateCounts → AggregateCounts
count_update update counts = record {
  exited = add_if (has_exited update) counts.exited;
  errored = add_if (has_errored update) counts.errored;
  abnormal = add_if (was_abnormal update) counts.abnormal;
  crashed = add_if (has_crashed update) counts.crashed;
}

abbrev pub counts_under : AggregateKey → List (AggregateKey × AggregateCounts) → AggregateCounts
counts_under key counts = unwrap_or (lookup (is_at (aggregate_cmp key)) counts) no_counts

-- the counts with one more update
abbrev pub count : SessionUpdate → List (AggregateKey × AggregateCounts) → List (AggregateKey × AggregateCounts)
count update counts =
    insert_entry aggregate_cmp counts (key_of update) (count_update update (counts_under (key_of update) counts))

abbrev pub aggregate : SessionUpdate → Waiting → Waiting
aggregate update queue = record queue {
  counts = count update queue.counts;
  attributes = option_or queue.attributes (Some update.attributes);
}

abbrev pub append : SessionUpdate → Waiting → Waiting
append update queue = record queue { individual = queue.individual ++ item.SessionUpdate update ∷ [] }

abbrev pub nothing : SessionMode → Waiting
nothing mode = record { mode = mode; counts = []; attributes = None; individual = [] }

abbrev pub clear : Waiting → Waiting
clear queue = nothing queue.mode

-- the next individual update is the hundredth
abbrev pub lacks_one : Waiting → Bool
lacks_one queue = nat_le (MAX_INDIVIDUAL - 1) (length queue.individual)

-- this update is the hundredth that is sent as it is
abbrev pub fills_queue : SessionUpdate → Waiting → Bool
fills_queue update queue = not (is_aggregated queue.mode update) && lacks_one queue

-- an update that is sent as it is
abbrev pub append_or_clear : SessionUpdate → Waiting → Waiting
append_or_clear update queue = if lacks_one queue then clear queue else append update queue

abbrev pub envelopes_on_append : SessionUpdate → Waiting → List Envelope
envelopes_on_append update queue = if lacks_one queue then envelopes_of (append update queue) else []

abbrev pub enqueue : SessionUpdate → Waiting → Waiting
enqueue update queue =
    if is_aggregated queue.mode update then aggregate update queue else append_or_clear update queue

abbrev pub envelopes_on_enqueue : SessionUpdate → Waiting → List Envelope
envelopes_on_enqueue update queue =
    if is_aggregated queue.mode update then [] else envelopes_on_append update queue
