-- A queue after one call.
use Rattle.std.specs.Prelude.{◌≡◌, ℕ, ltb, max, ◌||◌, true, if◌then◌else◌, Option, List, [], ◌∷◌, ◌++◌, length, map, option_map, slice_index}
use Rattle.sentry_base.specs.declared.protocol.envelope.Envelope.{Envelope}
use Rattle.sentry_base.specs.declared.protocol.losses.Category.{Category}
use Rattle.sentry_base.specs.Losses.{category_index}
use Rattle.sentry_base.specs.declared.protocol.losses.Reason.TheVariants.{RatelimitBackoff, QueueOverflow}
use Rattle.sentry_base.specs.RecordLosses.{item_losses, envelope_losses}
use Rattle.sentry_transport.specs.Limits.{has_limited, is_lost, limited_items, kept_of, losses_of}
use Rattle.sentry_transport.specs.QueueHistories.{Queue, is_limited_by, recorder_after, acts_on}

abbrev pub after_offer : Queue → Envelope → ℕ → Queue
after_offer queue envelope now =
    record queue {
      envelopes = queue.envelopes ++ kept_of (is_limited_by queue.limits now) queue.capacity (length queue.envelopes) envelope;
      recorder = option_map
          (recorder_after (losses_of (is_limited_by queue.limits now) queue.capacity (length queue.envelopes) envelope))
          queue.recorder;
      has_lost = is_lost (is_limited_by queue.limits now) queue.capacity (length queue.envelopes) envelope || queue.has_lost;
    }

-- an offer in two steps: the limited items are recorded, and what is left is put at the end, or recorded
abbrev pub after_recording_limited : Queue → Envelope → ℕ → Queue
after_recording_limited queue envelope now =
    record queue {
      recorder = option_map
          (recorder_after (map (item_losses RatelimitBackoff) (limited_items (is_limited_by queue.limits now) envelope.items)))
          queue.recorder;
      has_lost = has_limited (is_limited_by queue.limits now) envelope.items || queue.has_lost;
    }

abbrev pub after_enqueue : Queue → Envelope → Queue
after_enqueue queue envelope =
    if ltb (length queue.envelopes) queue.capacity
    then record queue { envelopes = queue.envelopes ++ envelope ∷ [] }
    else record queue {
      recorder = option_map (recorder_after (envelope_losses QueueOverflow envelope.items ∷ [])) queue.recorder;
      has_lost = true;
    }

-- a limit moves the moment of each category on which it acts, and only to a later one
abbrev pub AreLimited : Option Category → ℕ → List ℕ → List ℕ → Type 0
AreLimited which until old new =
    (category : Category) → slice_index new (category_index category)
    ≡ (if acts_on which category then max (slice_index old (category_index category)) until
    else slice_index old (category_index category))
