-- A queue of envelopes, as the calls that came to it, the newest first. These alone say what is limited, what is kept and
-- what waits.
use Rattle.std.specs.Prelude.{◌≡◌, ℕ, ◌+◌, ◌-◌, ltb, ◌==◌, ◌&&◌, ◌||◌, not, Bool, true, false, if◌then◌else◌, Option, Some, None, List, [], ◌∷◌, ◌++◌, length, drop, slice_get, slice_index, option_map, option_to_list}
use Rattle.std.specs.List.{list_any}
use Rattle.sentry_base.specs.declared.protocol.envelope.Envelope.{Envelope}
use Rattle.sentry_base.specs.declared.protocol.losses.Category.{Category}
use Rattle.sentry_base.specs.Losses.{category_index}
use Rattle.sentry_client_reports.specs.declared.client_reports.step.LossStep.{LossStep}
use Rattle.sentry_client_reports.specs.LossWords.{LossPart, steps_to_record}
use Rattle.sentry_transport.specs.Limits.{is_kept, is_lost, kept_of, losses_of}

pub data QueueCall : Type 0 where
  -- an envelope was offered, at a moment
  offer_call : Envelope → ℕ → QueueCall
  -- the first envelope was asked for
  take_call : QueueCall
  -- a category was limited until a moment, or without a category each of them
  limit_call : Option Category → ℕ → QueueCall
  -- it was asked whether all that was offered since the last time is on its way
  settle_call : QueueCall

abbrev pub acts_on : Option Category → Category → Bool
acts_on None category = true
acts_on (Some one) category = category_index one == category_index category

-- the call limits the category at this moment
abbrev pub limits_at : ℕ → Category → QueueCall → Bool
limits_at now category (offer_call envelope moment) = false
limits_at now category take_call = false
limits_at now category (limit_call which until) = acts_on which category && ltb now until
limits_at now category settle_call = false

-- some call limits the category at this moment
abbrev pub is_limited : List QueueCall → ℕ → Category → Bool
is_limited history now category = list_any (limits_at now category) history

module _ (capacity : ℕ) where
  -- how many envelopes wait: a take takes one, wherever one waits
  abbrev pub waiting_count : List QueueCall → ℕ
  waiting_count [] = 0
  waiting_count (offer_call envelope now ∷ history) =
      waiting_count history
      + (if is_kept (is_limited history now) capacity (waiting_count history) envelope then 1 else 0)
  waiting_count (take_call ∷ history) = waiting_count history - 1
  waiting_count (limit_call which until ∷ history) = waiting_count history
  waiting_count (settle_call ∷ history) = waiting_count history

  -- the envelopes that were kept, in order of offering, each without its limited items
  abbrev pub kept_envelopes : List QueueCall → List Envelope
  kept_envelopes [] = []
  kept_envelopes (offer_call envelope now ∷ history) =
      kept_envelopes history ++ kept_of (is_limited history now) capacity (waiting_count history) envelope
  kept_envelopes (take_call ∷ history) = kept_envelopes history
  kept_envelopes (limit_call which until ∷ history) = kept_envelopes history
  kept_envelopes (settle_call ∷ history) = kept_envelopes history

  -- the queue: the last of the kept ones
  abbrev pub queued_envelopes : List QueueCall → List Envelope
  queued_envelopes history =
      drop (length (kept_envelopes history) - waiting_count history) (kept_envelopes history)

  -- what a take gives
  abbrev pub first_envelope : List QueueCall → Option Envelope
  first_envelope history = slice_get (queued_envelopes history) 0

  -- all that takes gave, in order
  abbrev pub taken_envelopes : List QueueCall → List Envelope
  taken_envelopes [] = []
  taken_envelopes (offer_call envelope now ∷ history) = taken_envelopes history
  taken_envelopes (take_call ∷ history) = taken_envelopes history ++ option_to_list (first_envelope history)
  taken_envelopes (limit_call which until ∷ history) = taken_envelopes history
  taken_envelopes (settle_call ∷ history) = taken_envelopes history

  -- all losses, in order
  abbrev pub queue_losses : List QueueCall → List (List ℕ)
  queue_losses [] = []
  queue_losses (offer_call envelope now ∷ history) =
      queue_losses history ++ losses_of (is_limited history now) capacity (waiting_count history) envelope
  queue_losses (take_call ∷ history) = queue_losses history
  queue_losses (limit_call which until ∷ history) = queue_losses history
  queue_losses (settle_call ∷ history) = queue_losses history

  -- an envelope, or some of its items, was lost since the last question
  abbrev pub has_lost : List QueueCall → Bool
  has_lost [] = false
  has_lost (offer_call envelope now ∷ history) =
      is_lost (is_limited history now) capacity (waiting_count history) envelope || has_lost history
  has_lost (take_call ∷ history) = has_lost history
  has_lost (limit_call which until ∷ history) = has_lost history
  has_lost (settle_call ∷ history) = false

  -- the answer to that question: nothing was lost since the last one, and nothing waits
  abbrev pub is_settled : List QueueCall → Bool
  is_settled history = not (has_lost history) && waiting_count history == 0

-- the steps that record each of these losses once, in order
abbrev pub steps_to_record_each : List (List ℕ) → List LossStep
steps_to_record_each [] = []
steps_to_record_each (losses ∷ rest) = steps_to_record losses ++ steps_to_record_each rest

-- a recorder that has recorded each of these losses once, and nothing else
abbrev pub recorder_after : List (List ℕ) → LossPart → LossPart
recorder_after losses recorder = record recorder { steps = recorder.steps ++ steps_to_record_each losses }

-- a queue as contracts see it: the envelopes that wait, the first to go first; until when each category is limited, by
-- its index; the recorder, if it has one; and whether something was lost since it was last asked
pub record Queue : Type 0 where
  pub envelopes : List Envelope
  pub capacity : ℕ
  pub limits : List ℕ
  pub recorder : Option LossPart
  pub has_lost : Bool

-- until when the numbers limit a category, and whether that is at this moment
abbrev pub is_limited_by : List ℕ → ℕ → Category → Bool
is_limited_by limits now category = ltb now (slice_index limits (category_index category))

-- the queue is what the calls made of one that began with this room and with this recorder
pub record StandsFor (room : ℕ) (first : Option LossPart) (history : List QueueCall) (queue : Queue) : Type 0 where
  pub capacity : queue.capacity ≡ room
  pub envelopes : queue.envelopes ≡ queued_envelopes room history
  pub limits : (now : ℕ) (category : Category) → is_limited_by queue.limits now category ≡ is_limited history now category
  pub recorder : queue.recorder ≡ option_map (recorder_after (queue_losses room history)) first
  pub has_lost : queue.has_lost ≡ has_lost room history
