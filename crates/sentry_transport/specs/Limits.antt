-- Items of limited categories: which they are, and what is left of an envelope without them.
use Rattle.std.specs.Prelude.{ℕ, ltb, ◌==◌, ◌&&◌, ◌||◌, not, Bool, false, if◌then◌else◌, Option, Some, None, List, [], ◌∷◌, ◌++◌, length, map, filter, option_map, unwrap_or}
use Rattle.std.specs.List.{list_any}
use Rattle.sentry_base.specs.declared.protocol.envelope.Envelope.{Envelope}
use Rattle.sentry_base.specs.declared.protocol.envelope.EnvelopeItem.{EnvelopeItem}
use Rattle.sentry_base.specs.declared.protocol.envelope.EnvelopeItem.TheVariants as item
use Rattle.sentry_base.specs.declared.protocol.losses.Category.{Category}
use Rattle.sentry_base.specs.declared.protocol.losses.Category.TheVariants.{Error, Transaction, Session, Attachment, LogItem, Metric}
use Rattle.sentry_base.specs.declared.protocol.losses.Reason.TheVariants.{RatelimitBackoff, QueueOverflow}
use Rattle.sentry_base.specs.RecordLosses.{item_losses, envelope_losses}

-- the category by which an item is limited: a report has none
abbrev pub item_category : EnvelopeItem → Option Category
item_category (item.Event event) = Some Error
item_category (item.SessionUpdate update) = Some Session
item_category (item.SessionAggregates aggregates) = Some Session
item_category (item.Transaction transaction) = Some Transaction
item_category (item.Attachment attachment) = Some Attachment
item_category (item.Logs logs) = Some LogItem
item_category (item.Metrics metrics) = Some Metric
item_category (item.ClientReport report) = None

-- limited says which categories are limited
module _ (limited : Category → Bool) where
  abbrev pub is_item_limited : EnvelopeItem → Bool
  is_item_limited item = unwrap_or (option_map limited (item_category item)) false

  abbrev pub has_limited : List EnvelopeItem → Bool
  has_limited items = list_any is_item_limited items

  abbrev pub limited_items : List EnvelopeItem → List EnvelopeItem
  limited_items items = filter is_item_limited items

  abbrev pub other_items : List EnvelopeItem → List EnvelopeItem
  other_items items = filter (λ item. not (is_item_limited item)) items

  abbrev pub without_limited : Envelope → Envelope
  without_limited envelope = record envelope { items = other_items envelope.items }

  -- something is left to be queued: an envelope that came empty is whole
  abbrev pub leaves_something : Envelope → Bool
  leaves_something envelope =
      (length envelope.items == 0) || not (length (other_items envelope.items) == 0)

  -- the queue has this capacity, and so many envelopes wait in it
  module _ (capacity count : ℕ) where
    abbrev pub is_kept : Envelope → Bool
    is_kept envelope = leaves_something envelope && ltb count capacity

    abbrev pub is_turned_away : Envelope → Bool
    is_turned_away envelope = leaves_something envelope && not (ltb count capacity)

    -- all of it, or some of its items
    abbrev pub is_lost : Envelope → Bool
    is_lost envelope = is_turned_away envelope || has_limited envelope.items

    -- what goes to the end of the queue
    abbrev pub kept_of : Envelope → List Envelope
    kept_of envelope = if is_kept envelope then without_limited envelope ∷ [] else []

    -- the losses of an offer in order: each item that was taken out, and what was left of an envelope turned away
    abbrev pub losses_of : Envelope → List (List ℕ)
    losses_of envelope =
        map (item_losses RatelimitBackoff) (limited_items envelope.items)
        ++ (if is_turned_away envelope then envelope_losses QueueOverflow (other_items envelope.items) ∷ [] else [])
