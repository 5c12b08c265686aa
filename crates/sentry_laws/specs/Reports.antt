-- What the reports that a run handed out told, label by label.
use Rattle.std.specs.Prelude.{◌≡◌, ◌<◌, ◌+◌, ◌%◌, ◌^◌, ℕ, Bool, true, false, Option, Some, None, List, [], ◌∷◌, Result, Ok, Err, drop, length, slice_index, unwrap_or, if◌then◌else◌}
use Rattle.sentry_plain.specs.Tables.{value_at}
use Rattle.sentry_base.specs.Callbacks.{Partial}
use Rattle.sentry_base.specs.declared.protocol.envelope.Envelope.{Envelope}
use Rattle.sentry_base.specs.declared.protocol.envelope.EnvelopeItem.{EnvelopeItem}
use Rattle.sentry_base.specs.declared.protocol.envelope.EnvelopeItem.TheVariants as item
use Rattle.sentry_base.specs.declared.protocol.keys.ClientKey.{ClientKey}
use Rattle.sentry_base.specs.declared.protocol.keys.Label.{Label}
use Rattle.sentry_base.specs.declared.protocol.losses.TheConstants.{LOSS_QUANTITIES}
use Rattle.sentry_base.specs.declared.protocol.refusal.Refusal.{Refusal}
use Rattle.sentry_client_reports.specs.LossBooks.{LossEntry, pending_losses}
use Rattle.sentry_options.specs.Meanings.{Meanings}
use Rattle.sentry_state.specs.Books.{is_label, has_client_of}
use Rattle.sentry_state.specs.Outcomes.{client_at}
use Rattle.sentry_state.specs.Worlds.{World, ClientHistory, starting_world}
use Rattle.sentry_state.specs.declared.state.Out.{Out}
use Rattle.sentry_calls.specs.Runs.{Run}
use Rattle.sentry_calls.specs.declared.call.Call.{Call}
use Rattle.sentry_calls.specs.declared.call.Call.TheVariants.{Client}
use Rattle.sentry_calls.specs.declared.call.clients.ClientCall.TheVariants.{TakeReport}
use Rattle.sentry_calls.specs.declared.call.Reply.{Reply}
use Rattle.sentry_calls.specs.declared.call.Reply.TheVariants as reply
use Rattle.sentry_laws.specs.Losses.{told_by, came_in}
use Rattle.sentry_laws.specs.SentItems.{handed_in}

-- ---- what one call told

-- the quantity at an index that an item tells
abbrev pub told_by_item : ℕ → EnvelopeItem → ℕ
told_by_item i (item.ClientReport report) = slice_index (told_by (Some report)) i
told_by_item i _ = 0

abbrev pub told_by_items : ℕ → List EnvelopeItem → ℕ
told_by_items i [] = 0
told_by_items i (first ∷ rest) = told_by_item i first + told_by_items i rest

-- the items of an envelope that is handed out, but for those that the caller handed in
abbrev pub own_items : Option Envelope → List EnvelopeItem → List EnvelopeItem
own_items None items = items
own_items (Some given) items = drop (length given.items) items

-- the same in the envelopes of some clients
abbrev pub told_by_envelopes : ℕ → (ClientKey → Bool) → Option Envelope → List (ClientKey × Envelope) → ℕ
told_by_envelopes i of_label given [] = 0
told_by_envelopes i of_label given (first ∷ rest) =
    (if of_label first.0 then told_by_items i (own_items given first.1.items) else 0)
    + told_by_envelopes i of_label given rest

-- the client, if there is one, has the label
abbrev pub has_label : {C : Type 0} → Label → Option (ClientHistory C) → Bool
has_label label None = false
has_label label (Some client) = is_label label client.label

module _ {P C : Type 0} where
  -- the same in a report that the caller took
  abbrev pub told_by_reply : Label → ℕ → Call P C → Reply P C → ℕ
  told_by_reply label i (Client (TakeReport other)) (reply.Report report) =
      if is_label label other then slice_index (told_by report) i else 0
  told_by_reply label i call made = 0

  -- what the reports of a label in an answer tell at an index
  abbrev pub told_by_answer : Label → ℕ → World P C → Call P C → Result (Out (Reply P C)) Refusal → ℕ
  told_by_answer label i world call (Ok out) =
      told_by_envelopes i (λ key. has_label label (client_at world key)) (handed_in call) out.sent
      + told_by_reply label i call out.reply
  told_by_answer label i world call (Err refusal) = 0

  -- ---- what a run told

  -- all that came to the book of a label
  abbrev pub history_of : World P C → Label → List LossEntry
  history_of world label = unwrap_or (value_at world.books label.number) []

module _ {P C : Type 0} (gives : P → Partial) (meanings : C → Meanings) (label : Label) (i : ℕ) where
  -- what the reports of a label told in a run, since when a client has had it without a break
  abbrev pub told_since : ℕ → (world : World P C) (calls : List (Call P C))
      (answers : List (Result (Out (Reply P C)) Refusal)) (last : World P C)
      → Run gives meanings world calls answers last → ℕ
  told_since told world [] answers last run = told
  told_since told world (call ∷ calls) [] last run = told
  told_since told world (call ∷ calls) (answer ∷ answers) last run =
      told_since (if has_client_of label run.0.clients then told + told_by_answer label i world call answer else 0)
      run.0 calls answers last run.2

module _ {P C : Type 0} (gives : P → Partial) (meanings : C → Meanings) where
  -- for each label that a client has after a run, what its reports told and what is pending is what was recorded and
  -- absorbed
  abbrev pub LabelsAddUp : (world : World P C) (calls : List (Call P C))
      (answers : List (Result (Out (Reply P C)) Refusal)) (last : World P C)
      → Run gives meanings world calls answers last → Type 0
  LabelsAddUp world calls answers last run =
      (label : Label) (i : ℕ) → has_client_of label last.clients ≡ true → i < LOSS_QUANTITIES
      → (told_since gives meanings label i 0 world calls answers last run
      + slice_index (pending_losses (history_of last label)) i) % 2 ^ 64
      ≡ came_in (history_of last label) i % 2 ^ 64

  -- the same of every run
  abbrev pub ReportsAddUp : Type 0
  ReportsAddUp =
      (tag start : ℕ) (calls : List (Call P C)) (answers : List (Result (Out (Reply P C)) Refusal)) (last : World P C)
      (run : Run gives meanings (starting_world tag start) calls answers last)
      → LabelsAddUp (starting_world tag start) calls answers last run
