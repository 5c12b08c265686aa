-- Sessions that wait: what one call does to what is kept is what one more entry does to what the history says.
use Rattle.std.proofs.Common.{◌≡◌, ◌<◌, ◌-◌, ℕ, Bool, true, false, not, cond, length, Option, Some, None, List, [], ◌∷◌, map, reverse, refl, sym, ap, ◌∙◌, arith}
use Rattle.std.proofs.lemmas.Bool.Decides.{nat_tests}
use Rattle.std.proofs.lemmas.Grind.{reverse_onto}
use Rattle.std.proofs.lemmas.List.{nil_from_length, map-append, length-map, length-reverse}
use Rattle.std.specs.FinMap.{entries, empty, len-empty, len-entries}
use Rattle.std.specs.Option.{option_or}
use Rattle.std.specs.Prelude.{nat_le, option_map, ◌&&◌}
use Rattle.sentry_base.specs.declared.protocol.envelope.Envelope.{Envelope}
use Rattle.sentry_base.specs.declared.protocol.envelope.EnvelopeItem.TheVariants as item
use Rattle.sentry_base.specs.declared.protocol.session.SessionUpdate.{SessionUpdate}
use Rattle.sentry_options.specs.declared.clientoptions.choices.SessionMode.{SessionMode}
use Rattle.sentry_sessions.specs.SessionLaws.{QueueIsShort}
use Rattle.sentry_sessions.specs.SessionQueues.{QueueEntry, enqueued, flushed, aggregate_cmp, counts_of, is_aggregated, aggregated_updates, individual, is_full, since_flush, oldest, Waiting, waiting_of, queue_of, envelopes_of, envelopes_on}
use Rattle.sentry_sessions.specs.QueueSteps.{aggregate, append, nothing, clear, lacks_one, append_or_clear, envelopes_on_append, enqueue, envelopes_on_enqueue, fills_queue}
use Rattle.sentry_sessions.specs.declared.session.aggregates.AggregateCounts.{AggregateCounts}
use Rattle.sentry_sessions.specs.declared.session.aggregates.TheConstants.{MAX_INDIVIDUAL}
use Rattle.sentry_sessions.proofs.AggregateLemmas.{count_is}

-- ---- what waits

-- what waits, of what is counted and of the others
abbrev waiting_from : SessionMode → List SessionUpdate → List SessionUpdate → Waiting
waiting_from mode counted others = record {
  mode = mode;
  counts = entries (counts_of counted);
  attributes = option_map (λ update. update.attributes) (oldest counted);
  individual = map item.SessionUpdate (reverse others);
}

no_entries : entries (counts_of []) ≡ []
unfolding counts_of
no_entries = nil_from_length _ (sym (len-entries (empty {X = AggregateCounts} {R = aggregate_cmp})) ∙ len-empty aggregate_cmp AggregateCounts)

-- nothing waits
pub waiting_none : (mode : SessionMode) → waiting_of mode [] ≡ nothing mode
unfolding waiting_of
waiting_none mode = λ i. record { mode = mode; counts = no_entries i; attributes = None; individual = [] }

first_kept : {A B : Type 0} (f : A → B) (o : Option A) (x : A) → option_map f (option_or o (Some x)) ≡ option_or (option_map f o) (Some (f x))
first_kept f None x = refl
first_kept f (Some y) x = refl

aggregate_from : (mode : SessionMode) (u : SessionUpdate) (counted others : List SessionUpdate)
    → waiting_from mode (u ∷ counted) others ≡ aggregate u (waiting_from mode counted others)
aggregate_from mode u counted others = λ i. record {
  mode = mode;
  counts = count_is u counted i;
  attributes = first_kept (λ (update : SessionUpdate). update.attributes) (oldest counted) u i;
  individual = map item.SessionUpdate (reverse others);
}

append_from : (mode : SessionMode) (u : SessionUpdate) (counted others : List SessionUpdate)
    → waiting_from mode counted (u ∷ others) ≡ append u (waiting_from mode counted others)
append_from mode u counted others = λ i. record {
  mode = mode;
  counts = entries (counts_of counted);
  attributes = option_map (λ update. update.attributes) (oldest counted);
  individual = (ap (map item.SessionUpdate) (reverse_onto others u []) ∙ map-append item.SessionUpdate (reverse others) (u ∷ [])) i;
}

module _ (mode : SessionMode) (u : SessionUpdate) (us : List SessionUpdate) where
  counted_more : is_aggregated mode u ≡ true → aggregated_updates mode (u ∷ us) ≡ u ∷ aggregated_updates mode us
  counted_more h = rw h refl

  others_stay : is_aggregated mode u ≡ true → individual mode (u ∷ us) ≡ individual mode us
  others_stay h = rw h refl

  counted_stay : is_aggregated mode u ≡ false → aggregated_updates mode (u ∷ us) ≡ aggregated_updates mode us
  counted_stay h = rw h refl

  others_more : is_aggregated mode u ≡ false → individual mode (u ∷ us) ≡ u ∷ individual mode us
  others_more h = rw h refl

  aggregate_is : is_aggregated mode u ≡ true → waiting_of mode (u ∷ us) ≡ aggregate u (waiting_of mode us)
  unfolding waiting_of
  aggregate_is h =
      let split : waiting_of mode (u ∷ us) ≡ waiting_from mode (u ∷ aggregated_updates mode us) (individual mode us) =
      λ i. waiting_from mode (counted_more h i) (others_stay h i) in
      split ∙ aggregate_from mode u (aggregated_updates mode us) (individual mode us)

  append_is : is_aggregated mode u ≡ false → waiting_of mode (u ∷ us) ≡ append u (waiting_of mode us)
  unfolding waiting_of
  append_is h =
      let split : waiting_of mode (u ∷ us) ≡ waiting_from mode (aggregated_updates mode us) (u ∷ individual mode us) =
      λ i. waiting_from mode (counted_stay h i) (others_more h i) in
      split ∙ append_from mode u (aggregated_updates mode us) (individual mode us)

-- ---- the hundredth

short_after : (mode : SessionMode) (updates : List SessionUpdate) (b : Bool) → is_full mode updates ≡ b
    → length (individual mode (cond b [] updates)) < MAX_INDIVIDUAL
short_after mode updates true h = omega arith
short_after mode updates false h = grind (arith, nat_tests)

short : (mode : SessionMode) (history : List QueueEntry) → length (individual mode (since_flush mode history)) < MAX_INDIVIDUAL
unfolding since_flush
short mode [] = omega arith
short mode (flushed ∷ earlier) = omega arith
short mode (enqueued u ∷ earlier) = short_after mode (u ∷ since_flush mode earlier) (is_full mode (u ∷ since_flush mode earlier)) refl

length_kept : (others : List SessionUpdate) → length (map item.SessionUpdate (reverse others)) ≡ length others
length_kept others = length-map (reverse others) item.SessionUpdate ∙ length-reverse others

pub queue_is_short_is : QueueIsShort
unfolding waiting_of
queue_is_short_is mode history =
    rw (length_kept (individual mode (since_flush mode history))) (short mode history)

not_full : (n : ℕ) → n < MAX_INDIVIDUAL → nat_le MAX_INDIVIDUAL n ≡ false
not_full n h = grind (arith, nat_tests)

one_below : (xs : List SessionUpdate) (x : SessionUpdate) → nat_le (MAX_INDIVIDUAL - 1) (length xs) ≡ nat_le MAX_INDIVIDUAL (length (x ∷ xs))
one_below xs x = grind (arith, nat_tests)

-- ---- steps

module _ (mode : SessionMode) (u : SessionUpdate) (history : List QueueEntry) where
  counted_not_full : is_aggregated mode u ≡ true → is_full mode (u ∷ since_flush mode history) ≡ false
  counted_not_full h =
      ap (λ (others : List SessionUpdate). nat_le MAX_INDIVIDUAL (length others)) (others_stay mode u (since_flush mode history) h)
      ∙ not_full (length (individual mode (since_flush mode history))) (short mode history)

  last_is : is_aggregated mode u ≡ false → lacks_one (queue_of mode history) ≡ is_full mode (u ∷ since_flush mode history)
  unfolding waiting_of
  last_is h =
      let others = individual mode (since_flush mode history) in
      ap (nat_le (MAX_INDIVIDUAL - 1)) (length_kept others)
      ∙ (one_below others u
      ∙ ap (λ (xs : List SessionUpdate). nat_le MAX_INDIVIDUAL (length xs)) (sym (others_more mode u (since_flush mode history) h)))

  after_append : (b : Bool) → is_aggregated mode u ≡ false
      → cond b (clear (queue_of mode history)) (append u (queue_of mode history)) ≡ waiting_of mode (cond b [] (u ∷ since_flush mode history))
  unfolding waiting_of
  after_append true h = sym (waiting_none mode)
  after_append false h = sym (append_is mode u (since_flush mode history) h)

  sent_on_append : (b : Bool) → is_aggregated mode u ≡ false
      → cond b (envelopes_of (append u (queue_of mode history))) [] ≡ cond b (envelopes_of (waiting_of mode (u ∷ since_flush mode history))) []
  sent_on_append true h = ap envelopes_of (sym (append_is mode u (since_flush mode history) h))
  sent_on_append false h = refl

  enqueue_by : (b : Bool) → is_aggregated mode u ≡ b → enqueue u (queue_of mode history) ≡ queue_of mode (enqueued u ∷ history)
  unfolding since_flush waiting_of
  enqueue_by true h =
      let queue = queue_of mode history in
      ap (λ (b : Bool). cond b (aggregate u queue) (append_or_clear u queue)) h
      ∙ (sym (aggregate_is mode u (since_flush mode history) h)
      ∙ ap (λ (b : Bool). waiting_of mode (cond b [] (u ∷ since_flush mode history))) (sym (counted_not_full h)))
  enqueue_by false h =
      let queue = queue_of mode history in
      ap (λ (b : Bool). cond b (aggregate u queue) (append_or_clear u queue)) h
      ∙ (ap (λ (b : Bool). cond b (clear queue) (append u queue)) (last_is h)
      ∙ after_append (is_full mode (u ∷ since_flush mode history)) h)

  envelopes_by : (b : Bool) → is_aggregated mode u ≡ b → envelopes_on_enqueue u (queue_of mode history) ≡ envelopes_on mode u history
  unfolding waiting_of
  envelopes_by true h =
      let queue = queue_of mode history in
      ap (λ (b : Bool). cond b [] (envelopes_on_append u queue)) h
      ∙ ap (λ (b : Bool). cond b (envelopes_of (waiting_of mode (u ∷ since_flush mode history))) []) (sym (counted_not_full h))
  envelopes_by false h =
      let queue = queue_of mode history in
      ap (λ (b : Bool). cond b [] (envelopes_on_append u queue)) h
      ∙ (ap (λ (b : Bool). cond b (envelopes_of (append u queue)) []) (last_is h)
      ∙ sent_on_append (is_full mode (u ∷ since_flush mode history)) h)

  -- a session that ended
  pub enqueue_is : enqueue u (queue_of mode history) ≡ queue_of mode (enqueued u ∷ history)
  enqueue_is = enqueue_by (is_aggregated mode u) refl

  -- the envelopes that it hands out
  pub envelopes_on_is : envelopes_on_enqueue u (queue_of mode history) ≡ envelopes_on mode u history
  envelopes_on_is = envelopes_by (is_aggregated mode u) refl

-- an update that is neither counted nor the hundredth
pub appended_is : (u : SessionUpdate) (queue : Waiting) → is_aggregated queue.mode u ≡ false → lacks_one queue ≡ false
    → append u queue ≡ enqueue u queue
appended_is u queue counted last =
    sym (ap (λ b. cond b (aggregate u queue) (append_or_clear u queue)) counted ∙ ap (λ b. cond b (clear queue) (append u queue)) last)

both_hold : (a l : Bool) → (not a && l) ≡ true → (a ≡ false) × (l ≡ true)
both_hold true l h = absurd cc
both_hold false l h = (refl, h)

nothing_sent : (a l : Bool) (envelopes : List Envelope) → (not a && l) ≡ false → cond a [] (cond l envelopes []) ≡ []
nothing_sent true l envelopes h = refl
nothing_sent false true envelopes h = absurd cc
nothing_sent false false envelopes h = refl

module _ (mode : SessionMode) (u : SessionUpdate) (history : List QueueEntry) (queue : Waiting) (is : queue ≡ queue_of mode history) where
  -- an update that is not the hundredth
  pub quiet_is : fills_queue u queue ≡ false → envelopes_on mode u history ≡ []
  quiet_is h =
      sym (ap (envelopes_on_enqueue u) is ∙ envelopes_on_is mode u history)
      ∙ nothing_sent (is_aggregated queue.mode u) (lacks_one queue) (envelopes_of (append u queue)) h

  -- the hundredth sends all that waits
  pub sent_is : fills_queue u queue ≡ true → envelopes_of (append u queue) ≡ envelopes_on mode u history
  sent_is h =
      let both = both_hold (is_aggregated queue.mode u) (lacks_one queue) h in
      sym (ap (λ b. cond b [] (envelopes_on_append u queue)) both.0 ∙ ap (λ b. cond b (envelopes_of (append u queue)) []) both.1)
      ∙ (ap (envelopes_on_enqueue u) is ∙ envelopes_on_is mode u history)

  -- and leaves nothing
  pub left_is : fills_queue u queue ≡ true → clear queue ≡ queue_of mode (enqueued u ∷ history)
  left_is h =
      let both = both_hold (is_aggregated queue.mode u) (lacks_one queue) h in
      sym (ap (λ b. cond b (aggregate u queue) (append_or_clear u queue)) both.0 ∙ ap (λ b. cond b (clear queue) (append u queue)) both.1)
      ∙ (ap (enqueue u) is ∙ enqueue_is mode u history)

-- a flush
pub clear_is : (mode : SessionMode) (history : List QueueEntry) → clear (queue_of mode history) ≡ queue_of mode (flushed ∷ history)
unfolding since_flush waiting_of
clear_is mode history = sym (waiting_none mode)

-- a new queue
pub new_is : (mode : SessionMode) → nothing mode ≡ queue_of mode []
unfolding since_flush
new_is mode = sym (waiting_none mode)
