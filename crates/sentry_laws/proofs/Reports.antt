-- What the reports of a label told is what its book says.
use Rattle.std.proofs.Common.{◌≡◌, ◌<◌, ◌+◌, ◌%◌, ◌^◌, refl, ap, ◌∙◌, sym, subst, ℕ, List, [], ◌∷◌, ◌++◌, Bool, true, false, arith, length, drop, inl, inr, ◌⊎◌}
use Rattle.std.proofs.lemmas.Bool.{and_parts, or_parts, and_right}
use Rattle.std.specs.Prelude.{Option, Some, None, Result, Ok, Err, ◌==◌, ◌&&◌, slice_index, unwrap_or, option_to_list, if◌then◌else◌, nat_lt, ◌-◌}
use Rattle.std.specs.List.{list_any}
use Rattle.std.specs.Option.{is_some, option_and_then}
use Rattle.sentry_plain.specs.Tables.{value_at, put, replace_at, without}
use Rattle.sentry_plain.proofs.NumberLemmas.{same_number, equal_to_itself, equal_turned}
use Rattle.sentry_base.proofs.ByIndex.{at_index}
use Rattle.sentry_base.specs.Callbacks.{Partial}
use Rattle.sentry_base.specs.Envelopes.{with_report}
use Rattle.sentry_base.specs.declared.protocol.client_report.ClientReport.{ClientReport}
use Rattle.sentry_base.specs.declared.protocol.client_report.ClientReportItem.{ClientReportItem}
use Rattle.sentry_base.specs.declared.protocol.envelope.Envelope.{Envelope}
use Rattle.sentry_base.specs.declared.protocol.envelope.EnvelopeItem.{EnvelopeItem}
use Rattle.sentry_base.specs.declared.protocol.envelope.EnvelopeItem.TheVariants as item
use Rattle.sentry_base.specs.declared.protocol.keys.ClientKey.{ClientKey}
use Rattle.sentry_base.specs.declared.protocol.keys.Label.{Label}
use Rattle.sentry_base.specs.declared.protocol.log.Log.{Log}
use Rattle.sentry_base.specs.declared.protocol.metric.Metric.{Metric}
use Rattle.sentry_base.specs.declared.protocol.refusal.Refusal.{Refusal}
use Rattle.sentry_base.specs.declared.protocol.refusal.Refusal.TheVariants.{Stale, ForeignLosses, Full}
use Rattle.sentry_client_reports.specs.LossBooks.{LossEntry, engine_losses, drained_losses, report_point, pending_losses, report_items, report_of}
use Rattle.sentry_options.specs.Meanings.{Meanings}
use Rattle.sentry_options.specs.declared.clientoptions.ClientOptions.{ClientOptions}
use Rattle.sentry_telemetry.specs.declared.flushes.TheConstants.{SESSION_INTERVAL}
use Rattle.sentry_telemetry.specs.Flushes.{batch_envelopes, flushed_logs, flushed_metrics, is_flushed}
use Rattle.sentry_sending.specs.Sending.{send, after_sending, for_client, envelopes_from}
use Rattle.sentry_state.specs.declared.state.Out.{Out}
use Rattle.sentry_state.specs.Books.{with_book, with_entry, is_label, has_client_of, has_book, pending_report}
use Rattle.sentry_state.specs.Changes.{with_client_history}
use Rattle.sentry_state.specs.Outcomes.{client_at, require, require_some, reply_with}
use Rattle.sentry_state.specs.Worlds.{World, ClientHistory, starting_world}
use Rattle.sentry_calls.specs.Replies.{map_answer}
use Rattle.sentry_batches.specs.Batches.{accept, batch_on}
use Rattle.sentry_calls.specs.Clients as clients
use Rattle.sentry_calls.specs.Runs.{StepsTo, Run}
use Rattle.sentry_calls.specs.Steps.{client_step}
use Rattle.sentry_calls.specs.declared.call.Call.{Call}
use Rattle.sentry_calls.specs.declared.call.Call.TheVariants as group
use Rattle.sentry_calls.specs.declared.call.clients.ClientCall.{ClientCall}
use Rattle.sentry_calls.specs.declared.call.clients.ClientCall.TheVariants.{AddClient, CloneClient, TakeReport}
use Rattle.sentry_calls.specs.declared.call.hubs.HubCall.{HubCall}
use Rattle.sentry_calls.specs.declared.call.hubs.HubCall.TheVariants.{NewHub, NewHubFromTop}
use Rattle.sentry_calls.specs.declared.call.Reply.{Reply}
use Rattle.sentry_calls.specs.declared.call.Reply.TheVariants as reply
use Rattle.sentry_laws.specs.OwnCalls.{client_added, client_cloned}
use Rattle.sentry_laws.proofs.Tests.{any_first, any_second}
use Rattle.sentry_laws.proofs.Effects.{Effect, seen, session_named, report_taken, effects, client_effects, hub_effects}
use Rattle.sentry_laws.proofs.Changes.{Change, Changes, nothing, one, both, is_batch_or_report, Arrival, log_came, metric_came, session_ended, flush_came, after_arrival, envelopes_on_arrival, adds_client, clones_client, drops_client, arrives, accepts, mails, loses, takes_report, absorbs}
use Rattle.sentry_laws.specs.Losses.{told_by, reported}
use Rattle.sentry_laws.specs.Reports.{told_by_item, told_by_items, own_items, told_by_envelopes, has_label, told_by_reply, told_by_answer, history_of, told_since, ReportsAddUp}
use Rattle.sentry_laws.specs.SentItems.{handed_in, batches_among}
use Rattle.sentry_laws.proofs.Found.{found_put, found_replaced, found_without, left_over}
use Rattle.sentry_laws.proofs.Increasing.{without_if}
use Rattle.sentry_laws.proofs.Keeping.{trail_of}
use Rattle.sentry_laws.proofs.LabelBooks.{HasBooks, books_change, changed_books, entered_books, no_books, label_known, arrival_label, kept_books}
use Rattle.sentry_laws.proofs.Losses.{books_balance}
use Rattle.sentry_laws.proofs.SentBatches.{all_batches}
use Rattle.sentry_laws.proofs.SentKinds.{session_none, flushed_none}
use Rattle.sentry_laws.proofs.Trails.{found_under, own_effects, own_any}

-- ---- what items tell

no_more : (n : ℕ) → n + 0 ≡ n
no_more n = omega arith

zero_more : (n : ℕ) → 0 + n ≡ n
zero_more n = omega arith

other_side : (n : ℕ) → n + 0 ≡ 0 + n
other_side n = omega arith

around_it : (n : ℕ) → 0 + (n + 0) ≡ n
around_it n = omega arith

-- the items of a report, if the item is one
abbrev report_batch : EnvelopeItem → Option (List ClientReportItem)
report_batch (item.ClientReport report) = Some report.items
report_batch _ = None

silent-item : (i : ℕ) (first : EnvelopeItem) (rest : List (List ClientReportItem)) → option_to_list (report_batch first)
    ++ rest ≡ [] → (told_by_item i first ≡ 0) × (rest ≡ [])
silent-item i (item.ClientReport report) rest h = absurd cc
silent-item i _ rest h = (refl, h)

-- where no item is a report, none tells anything
silent_items : (i : ℕ) (items : List EnvelopeItem) → batches_among report_batch items ≡ [] → told_by_items i items ≡ 0
silent_items i [] h = refl
silent_items i (first ∷ rest) h =
    let s = silent-item i first (batches_among report_batch rest) h in
    ap (λ n. n + told_by_items i rest) s.0 ∙ (zero_more (told_by_items i rest) ∙ silent_items i rest s.1)

plain_item : (i : ℕ) (first : EnvelopeItem) → is_batch_or_report first ≡ false → told_by_item i first ≡ 0
plain_item i (item.ClientReport report) h = absurd cc
plain_item i _ h = refl

plain_items : (i : ℕ) (items : List EnvelopeItem) → list_any is_batch_or_report items ≡ false
    → told_by_items i items ≡ 0
plain_items i [] h = refl
plain_items i (first ∷ rest) h =
    ap (λ n. n + told_by_items i rest) (plain_item i first (or_parts (is_batch_or_report first) _ h).0)
    ∙ (zero_more (told_by_items i rest) ∙ plain_items i rest (or_parts (is_batch_or_report first) _ h).1)

told_more : (i : ℕ) (items : List EnvelopeItem) (report : ClientReport)
    → told_by_items i (items ++ item.ClientReport report ∷ []) ≡ told_by_items i items + slice_index
    (told_by (Some report)) i
told_more i [] report = other_side (slice_index (told_by (Some report)) i)
told_more i (first ∷ rest) report =
    let told = slice_index (told_by (Some report)) i in
    let r = told_more i rest report in
    let n = told_by_item i first in
    let m = told_by_items i rest in
    ap (λ k. n + k) r ∙ omega arith

drop_all : {X : Type 0} (xs ys : List X) → drop (length xs) (xs ++ ys) ≡ ys
drop_all [] ys = refl
drop_all (x ∷ xs) ys = drop_all xs ys

drop_own : {X : Type 0} (xs : List X) → drop (length xs) xs ≡ []
drop_own [] = refl
drop_own (x ∷ xs) = drop_own xs

-- nothing is told where there is no report
told_none : (i : ℕ) → i < 63 → slice_index (told_by None) i ≡ 0
told_none i h = at_index (λ i. 0) i h

-- what an envelope with a report tells, beside the caller's own items, is what the report tells
report_told : (i : ℕ) → i < 63 → (given : Option Envelope) (report : Option ClientReport) (envelope : Envelope)
    → (given ≡ Some envelope) ⊎ ((given ≡ None) × (told_by_items i envelope.items ≡ 0))
    → told_by_items i (own_items given (with_report report envelope).items) ≡ slice_index (told_by report) i
report_told i h given report envelope (inl e) =
    ap (λ (o : Option Envelope). told_by_items i (own_items o (with_report report envelope).items)) e
    ∙ given_told report
  where
    given_told : (report : Option ClientReport)
        → told_by_items i (drop (length envelope.items) (with_report report envelope).items) ≡ slice_index
        (told_by report) i
    given_told None = ap (told_by_items i) (drop_own envelope.items) ∙ sym (told_none i h)
    given_told (Some report) = ap (told_by_items i) (drop_all envelope.items (item.ClientReport report ∷ []))
        ∙ no_more (slice_index (told_by (Some report)) i)
report_told i h given report envelope (inr none) =
    ap (λ (o : Option Envelope). told_by_items i (own_items o (with_report report envelope).items)) none.0
    ∙ own_told report
  where
    own_told : (report : Option ClientReport) → told_by_items i (with_report report envelope).items ≡ slice_index
        (told_by report) i
    own_told None = none.1 ∙ sym (told_none i h)
    own_told (Some report) = told_more i envelope.items report
        ∙ (ap (λ n. n + slice_index (told_by (Some report)) i) none.1
        ∙ zero_more (slice_index (told_by (Some report)) i))

-- ---- no report waits in a queue

reports_of : (logs : Option (List Log)) (metrics : Option (List Metric)) → all_batches report_batch
    (batch_envelopes logs metrics) ≡ []
reports_of None None = refl
reports_of None (Some metrics) = refl
reports_of (Some logs) None = refl
reports_of (Some logs) (Some metrics) = refl

module _ {C : Type 0} where
  no_reports : (arrival : Arrival) (client : ClientHistory C) → all_batches report_batch
      (envelopes_on_arrival arrival client) ≡ []
  no_reports (log_came log) client =
      reports_of (batch_on client.options.plain.max_batch_items (accept log) client.queues.logs) None
  no_reports (metric_came metric) client =
      reports_of None (batch_on client.options.plain.max_batch_items (accept metric) client.queues.metrics)
  no_reports (session_ended update) client = session_none report_batch (λ u. refl) (λ a. refl)
      client.options.plain.session_mode update client.queues.sessions
  no_reports (flush_came flush) client =
      flushed_none report_batch (λ u. refl) (λ a. refl) (is_flushed flush SESSION_INTERVAL client.queues.session_tick)
      client.options.plain.session_mode client.queues.sessions
      (batch_envelopes (flushed_logs client.options.plain.max_batch_items flush client.queues)
      (flushed_metrics client.options.plain.max_batch_items flush client.queues))
      ∙ reports_of (flushed_logs client.options.plain.max_batch_items flush client.queues)
      (flushed_metrics client.options.plain.max_batch_items flush client.queues)

append_none : {X : Type 0} (xs ys : List X) → xs ++ ys ≡ [] → (xs ≡ []) × (ys ≡ [])
append_none [] ys h = (refl, h)
append_none (x ∷ xs) ys h = absurd cc

-- ---- what effects tell

module _ (label : Label) (i : ℕ) where
  module _ {P C : Type 0} where
    abbrev told_by_effect : Effect P C → ℕ
    told_by_effect (report_taken other report) = if is_label label other then slice_index (told_by report) i else 0
    told_by_effect _ = 0

    abbrev told_by_effects : List (Effect P C) → ℕ
    told_by_effects [] = 0
    told_by_effects (effect ∷ rest) = told_by_effect effect + told_by_effects rest

    told_by_own : (some : List (Effect P C)) → told_by_effects (own_effects some) ≡ told_by_effects some
    told_by_own [] = refl
    told_by_own (session_named number session ∷ rest) = told_by_own rest ∙ sym (zero_more (told_by_effects rest))
    told_by_own (effect ∷ rest) = ap (λ n. told_by_effect effect + n) (told_by_own rest)

    told_by_client_call : (meanings : C → Meanings) (call : ClientCall P C) (made : Reply P C)
        → told_by_effects (client_effects meanings call made) ≡ told_by_reply label i (group.Client call) made
    told_by_client_call meanings (AddClient options transport other now) (reply.Client key) = refl
    told_by_client_call meanings (AddClient options transport other now) _ = refl
    told_by_client_call meanings (CloneClient client now) (reply.Client key) = refl
    told_by_client_call meanings (CloneClient client now) _ = refl
    told_by_client_call meanings (TakeReport other) (reply.Report report) =
        no_more (if is_label label other then slice_index (told_by report) i else 0)
    told_by_client_call meanings (TakeReport other) _ = refl
    told_by_client_call meanings call made = refl

    told_by_hub_call : (meanings : C → Meanings) (call : HubCall P) (made : Reply P C)
        → told_by_effects (hub_effects {C = C} meanings call made) ≡ 0
    told_by_hub_call meanings (NewHub client scope) (reply.Hub key) = refl
    told_by_hub_call meanings (NewHub client scope) _ = refl
    told_by_hub_call meanings (NewHubFromTop hub) (reply.Hub key) = refl
    told_by_hub_call meanings (NewHubFromTop hub) _ = refl
    told_by_hub_call meanings call made = refl

    told_by_call : (meanings : C → Meanings) (call : Call P C) (made : Reply P C)
        → told_by_effects (effects meanings call made) ≡ told_by_reply label i call made
    told_by_call meanings (group.Client call) made = told_by_client_call meanings call made
    told_by_call meanings (group.Hub call) made = told_by_hub_call meanings call made
    told_by_call meanings (group.Span call) made = refl

  -- ---- a call that adds no client

  -- a client is added
  abbrev is_added : {P C : Type 0} → Effect P C → Bool
  is_added (seen (client_added key options)) = true
  is_added (seen (client_cloned key original)) = true
  is_added _ = false

  module _ {P C : Type 0} where
    abbrev adds_one : ClientCall P C → Bool
    adds_one (AddClient options transport other now) = true
    adds_one (CloneClient client now) = true
    adds_one call = false

    client_unadded : (meanings : C → Meanings) (call : ClientCall P C) (made : Reply P C) → adds_one call ≡ false
        → list_any is_added (client_effects meanings call made) ≡ false
    client_unadded meanings (AddClient options transport other now) made h = absurd cc
    client_unadded meanings (CloneClient client now) made h = absurd cc
    client_unadded meanings (TakeReport other) (reply.Report report) h = refl
    client_unadded meanings (TakeReport other) _ h = refl
    client_unadded meanings call made h = refl

    hub_unadded : (meanings : C → Meanings) (call : HubCall P) (made : Reply P C)
        → list_any is_added (hub_effects {C = C} meanings call made) ≡ false
    hub_unadded meanings (NewHub client scope) (reply.Hub key) = refl
    hub_unadded meanings (NewHub client scope) _ = refl
    hub_unadded meanings (NewHubFromTop hub) (reply.Hub key) = refl
    hub_unadded meanings (NewHubFromTop hub) _ = refl
    hub_unadded meanings call made = refl

  append_told : (of_label : ClientKey → Bool) (given : Option Envelope) (sent more : List (ClientKey × Envelope))
      → told_by_envelopes i of_label given (sent ++ more)
      ≡ told_by_envelopes i of_label given sent + told_by_envelopes i of_label given more
  append_told of_label given [] more = sym (zero_more (told_by_envelopes i of_label given more))
  append_told of_label given (first ∷ rest) more =
      let r = append_told of_label given rest more in
      let n = if of_label first.0 then told_by_items i (own_items given first.1.items) else 0 in
      ap (λ k. n + k) r ∙ omega arith

  append_effects : {P C : Type 0} (first second : List (Effect P C)) → told_by_effects (first ++ second)
      ≡ told_by_effects first + told_by_effects second
  append_effects [] second = sym (zero_more (told_by_effects second))
  append_effects (effect ∷ rest) second =
      let r = append_effects rest second in
      let n = told_by_effect effect in
      ap (λ k. n + k) r ∙ omega arith

  silent_for_client : (of_label : ClientKey → Bool) (key : ClientKey) (envelopes : List Envelope)
      → all_batches report_batch envelopes ≡ [] → told_by_envelopes i of_label None (for_client key None envelopes) ≡ 0
  silent_for_client of_label key [] h = refl
  silent_for_client of_label key (first ∷ rest) h =
      let s = append_none (batches_among report_batch first.items) (all_batches report_batch rest) h in
      ap (λ n. (if of_label key then n else 0) + told_by_envelopes i of_label None (for_client key None rest))
      (silent_items i first.items s.0)
      ∙ (ap (λ n. n + told_by_envelopes i of_label None (for_client key None rest)) (none_if (of_label key))
      ∙ (zero_more (told_by_envelopes i of_label None (for_client key None rest)) ∙ silent_for_client of_label key rest s.1))
    where
      none_if : (b : Bool) → ◌≡◌ {A = ℕ} (if b then 0 else 0) 0
      none_if true = refl
      none_if false = refl

  module _ (low : i < 63) (of_label : ClientKey → Bool) {P C : Type 0} where
    -- what was told is what the book of the label says, and these are the clients that have the label
    record Adds (told : ℕ) (world : World P C) : Type 0 where
      books : HasBooks world
      labels : (key : ClientKey) (client : ClientHistory C) → client_at world key ≡ Some client
          → of_label key ≡ is_label label client.label
      adds : (label.tag == world.tag) ≡ true → (history : List LossEntry)
          → value_at world.books label.number ≡ Some history → told ≡ reported history i

    same_told : (told other : ℕ) (world : World P C) → other ≡ told → Adds told world → Adds other world
    same_told told other world same a = record {
      books = a.books;
      labels = a.labels;
      adds =
          λ own history at. same ∙ a.adds own history at;
    }

    unmoved : (told : ℕ) (world new : World P C) → HasBooks new → new.clients ≡ world.clients → new.books ≡ world.books
        → new.tag ≡ world.tag → Adds told world → Adds told new
    unmoved told world new books c b t a = record {
      books = books;
      labels = λ key client at. a.labels key client
          (sym (ap (λ m. if key.tag == new.tag then value_at m key.number else None) c
          ∙ ap (λ t. if key.tag == t then value_at world.clients key.number else None) t) ∙ at);
      adds = λ own history at. a.adds (ap (λ t. label.tag == t) (sym t) ∙ own) history
          (ap (λ m. value_at m label.number) (sym b) ∙ at);
    }

    -- an entry comes to the book of a label
    entry-by : (told more : ℕ) (world : World P C) (other : Label) (entry : LossEntry) (held history : List LossEntry)
        → (label.tag == world.tag) ≡ true → (other.tag == world.tag) ≡ true
        → value_at world.books other.number ≡ Some held
        → (is_label label other ≡ true → reported (entry ∷ held) i ≡ reported held i + more)
        → (is_label label other ≡ false → more ≡ 0)
        → ((history : List LossEntry) → value_at world.books label.number ≡ Some history → told ≡ reported history i)
        → (b : Bool) → (label.number == other.number) ≡ b
        → (if b then Some (entry ∷ held) else value_at world.books label.number) ≡ Some history
        → told + more ≡ reported history i
    entry-by told more world other entry held history own of_engine at tells silent adds true e found =
        let numbers : label.number ≡ other.number = same_number label.number other.number e in
        let tags : other.tag ≡ label.tag = same_number other.tag world.tag of_engine
        ∙ sym (same_number label.tag world.tag own) in
        let is : is_label label other ≡ true = ap (λ t. (t == label.tag) && (other.number == label.number)) tags
        ∙ (ap (λ b. b && (other.number == label.number)) (equal_to_itself label.tag)
        ∙ (ap (λ n. n == label.number) (sym numbers) ∙ equal_to_itself label.number)) in
        let same : entry ∷ held ≡ history = cc in
        ap (λ n. n + more) (adds held (ap (value_at world.books) numbers ∙ at))
        ∙ (sym (tells is) ∙ ap (λ h. reported h i) same)
    entry-by told more world other entry held history own of_engine at tells silent adds false e found =
        ap (λ n. told + n) (silent (and_right (other.tag == label.tag) (other.number == label.number)
        (equal_turned other.number label.number ∙ e))) ∙ (no_more told ∙ adds history found)

    entered-some : (told more : ℕ) (world : World P C) (other : Label) (entry : LossEntry) (o : Option (List LossEntry))
        → value_at world.books other.number ≡ o → is_some o ≡ true → (other.tag == world.tag) ≡ true
        → ((held : List LossEntry) → value_at world.books other.number ≡ Some held → is_label label other ≡ true
        → reported (entry ∷ held) i ≡ reported held i + more) → (is_label label other ≡ false → more ≡ 0)
        → ((label.tag == world.tag) ≡ true → (history : List LossEntry)
        → value_at world.books label.number ≡ Some history → told ≡ reported history i)
        → (label.tag == world.tag) ≡ true → (history : List LossEntry)
        → value_at (replace_at world.books other.number (entry ∷ unwrap_or o [])) label.number ≡ Some history
        → told + more ≡ reported history i
    entered-some told more world other entry None at there of_engine tells silent adds own history found = absurd cc
    entered-some told more world other entry (Some held) at there of_engine tells silent adds own history found =
        entry-by told more world other entry held history own of_engine at (tells held at) silent (adds own)
        (label.number == other.number) refl
        (sym (found_replaced world.books other.number label.number (entry ∷ held) held at) ∙ found)

    entered : (told more : ℕ) (world : World P C) (other : Label) (entry : LossEntry)
        → HasBooks (with_entry world other entry) → has_book world other ≡ true
        → ((held : List LossEntry) → value_at world.books other.number ≡ Some held → is_label label other ≡ true
        → reported (entry ∷ held) i ≡ reported held i + more) → (is_label label other ≡ false → more ≡ 0)
        → Adds told world → Adds (told + more) (with_entry world other entry)
    entered told more world other entry books has tells silent a = record {
      books = books;
      labels = a.labels;
      adds = entered-some told more world other entry (value_at world.books other.number) refl
          (and_parts (other.tag == world.tag) _ has).1 (and_parts (other.tag == world.tag) _ has).0 tells silent a.adds;
    }

    -- what a report of what is pending tells
    abbrev told_now : World P C → Label → ℕ
    told_now world other = if is_label label other then slice_index (told_by (pending_report world other)) i else 0

    pointed : (told : ℕ) (world : World P C) (other : Label) → HasBooks (with_entry world other report_point)
        → has_book world other ≡ true → Adds told world → Adds (told + told_now world other)
        (with_entry world other report_point)
    pointed told world other books has a =
        entered told (told_now world other) world other report_point books has
        (λ held at is. ap (λ n. reported held i + n)
        (sym (ap (λ b. if b then slice_index (told_by (pending_report world other)) i else 0) is
        ∙ ap (λ (o : Option (List LossEntry)). slice_index
        (told_by (option_and_then (λ history. report_of (report_items (pending_losses history))) o)) i) at)))
        (λ is. ap (λ b. if b then slice_index (told_by (pending_report world other)) i else 0) is) a

    silent_entry : (told : ℕ) (world : World P C) (other : Label) (entry : LossEntry)
        → HasBooks (with_entry world other entry) → has_book world other ≡ true
        → ((held : List LossEntry) → reported (entry ∷ held) i ≡ reported held i) → Adds told world
        → Adds told (with_entry world other entry)
    silent_entry told world other entry books has tells a =
        same_told (told + 0) told _ (sym (no_more told))
        (entered told 0 world other entry books has (λ held at is. tells held ∙ sym (no_more (reported held i)))
        (λ is. refl) a)

    found_known : (world : World P C) (key : ClientKey) (client : ClientHistory C) → HasBooks world
        → client_at world key ≡ Some client → has_book world client.label ≡ true
    found_known world key client books found =
        label_known world key.number client books (found_under world.tag world.clients key.tag key.number client found)

    -- one envelope leaves
    sent_one : (given : Option Envelope) (told : ℕ) (world : World P C) (key : ClientKey) (other : Label)
        (envelope : Envelope) → of_label key ≡ is_label label other
        → told_by_items i (own_items given (with_report (pending_report world other) envelope).items) ≡ slice_index
        (told_by (pending_report world other)) i
        → (more : ℕ) → more ≡ 0
        → told + ((if of_label key then told_by_items i
        (own_items given (with_report (pending_report world other) envelope).items) else 0) + more + 0)
        ≡ told + told_now world other
    sent_one given told world key other envelope is tells more none =
        ap (λ n. told + n) (ap
        (λ m. (if of_label key then told_by_items i
        (own_items given (with_report (pending_report world other) envelope).items) else 0) + m + 0) none
        ∙ (plain_sum _ ∙ (ap (λ n. if of_label key then n else 0) tells
        ∙ ap (λ b. if b then slice_index (told_by (pending_report world other)) i else 0) is)))
      where
        plain_sum : (n : ℕ) → n + 0 + 0 ≡ n
        plain_sum n = omega arith

    -- what waits in a queue leaves
    sending : (b : Bool) (told : ℕ) (world : World P C) (key : ClientKey) (other : Label) (envelopes : List Envelope)
        → HasBooks (with_entry world other report_point) → has_book world other ≡ true
        → of_label key ≡ is_label label other → all_batches report_batch envelopes ≡ [] → Adds told world
        → Adds (told + (told_by_envelopes i of_label None (envelopes_from b key (pending_report world other) envelopes)
        + 0)) (after_sending other (envelopes_from b key (pending_report world other) envelopes) world)
    sending false told world key other envelopes books has is silent a = same_told told _ world (omega arith) a
    sending true told world key other [] books has is silent a = same_told told _ world (omega arith) a
    sending true told world key other (first ∷ rest) books has is silent a =
        let s = append_none (batches_among report_batch first.items) (all_batches report_batch rest) silent in
        same_told (told + told_now world other) _ _
        (sent_one None told world key other first is (report_told i low None (pending_report world other) first
        (inr (refl, silent_items i first.items s.0))) _ (silent_for_client of_label key rest s.1))
        (pointed told world other books has a)

    left-book : (b : Bool) (n : ℕ) (world : World P C) (history : List LossEntry) → HasBooks world
        → value_at (if b then world.books else without world.books n) label.number ≡ Some history
        → value_at world.books label.number ≡ Some history
    left-book true n world history books at = at
    left-book false n world history books at = left_over (label.number == n) (value_at world.books label.number) history
        (sym (without_if 0 n label.number world.books books.books) ∙ at)

    client_left : (world : World P C) (number : ℕ) (key : ClientKey) (client : ClientHistory C) → HasBooks world
        → (if key.tag == world.tag then value_at (without world.clients number) key.number else None) ≡ Some client
        → client_at world key ≡ Some client
    client_left world number key client books at = by_tag (key.tag == world.tag) refl at
      where
        by_number : (b : Bool) (o : Option (ClientHistory C)) → (if b then None else o) ≡ Some client → o ≡ Some client
        by_number true o h = absurd cc
        by_number false o h = h

        by_tag : (b : Bool) → (key.tag == world.tag) ≡ b
            → (if b then value_at (without world.clients number) key.number else None) ≡ Some client
            → client_at world key ≡ Some client
        by_tag true e at =
            ap (λ b. if b then value_at world.clients key.number else None) e
            ∙ by_number (key.number == number) (value_at world.clients key.number)
            (sym (found_without 0 world.next.client world.clients number key.number books.clients) ∙ at)
        by_tag false e at = absurd cc

    client_changed : (world : World P C) (number : ℕ) (old new : ClientHistory C) (key : ClientKey)
        (client : ClientHistory C) → value_at world.clients number ≡ Some old → new.label ≡ old.label
        → ((other : ClientHistory C) → client_at world key ≡ Some other → of_label key ≡ is_label label other.label)
        → (if key.tag == world.tag then value_at (replace_at world.clients number new) key.number else None)
        ≡ Some client → of_label key ≡ is_label label client.label
    client_changed world number old new key client found like labels at = by_tag (key.tag == world.tag) refl at
      where
        by_number : (b : Bool) → (key.tag == world.tag) ≡ true → (key.number == number) ≡ b
            → (if b then Some new else value_at world.clients key.number) ≡ Some client
            → of_label key ≡ is_label label client.label
        by_number true t e h =
            let same : new ≡ client = cc in
            labels old (ap (λ b. if b then value_at world.clients key.number else None) t
            ∙ (ap (value_at world.clients) (same_number key.number number e) ∙ found))
            ∙ (ap (is_label label) (sym like) ∙ ap (λ (c : ClientHistory C). is_label label c.label) same)
        by_number false t e h = labels client (ap (λ b. if b then value_at world.clients key.number else None) t ∙ h)

        by_tag : (b : Bool) → (key.tag == world.tag) ≡ b
            → (if b then value_at (replace_at world.clients number new) key.number else None) ≡ Some client
            → of_label key ≡ is_label label client.label
        by_tag true e at = by_number (key.number == number) e refl
            (sym (found_replaced world.clients number key.number new old found) ∙ at)
        by_tag false e at = absurd cc

    module _ (meanings : C → Meanings) (given : Option Envelope) where
      -- what a change tells
      abbrev More : ℕ → List (Effect P C) → List (ClientKey × Envelope) → ℕ
      More told some sent = told + (told_by_envelopes i of_label given sent + told_by_effects some)

      still : (told : ℕ) (world new : World P C) → HasBooks new → new.clients ≡ world.clients → new.books ≡ world.books
          → new.tag ≡ world.tag → Adds told world → Adds (told + 0) new
      still told world new books c b t a =
          same_told told (told + 0) new (no_more told) (unmoved told world new books c b t a)

      adds_change : {old new : World P C} {some : List (Effect P C)} {sent : List (ClientKey × Envelope)}
          → Change meanings given old some sent new → list_any is_added some ≡ false → HasBooks new
          → (told : ℕ) → Adds told old → Adds (More told some sent) new
      adds_change (adds_client world client now queues open_ of_engine) none books told a = absurd cc
      adds_change (clones_client world original client now found) none books told a = absurd cc
      adds_change (drops_client world key client other found same unnamed) none books told a =
          same_told told (told + 0) _ (no_more told) (record {
            books = books;
            labels = λ k c at. a.labels k c (client_left world key.number k c a.books at);
            adds = λ own history at. a.adds own history (left-book (has_client_of other (without world.clients key.number))
                other.number world history a.books at);
          })
      adds_change (arrives world key client arrival is_off found open_ came) none books told a =
          let arrived = with_client_history world key (after_arrival arrival client) in
          let middle : HasBooks arrived = changed_books world key.number client (after_arrival arrival client)
          (found_under world.tag world.clients key.tag key.number client found) (arrival_label arrival client)
          a.books in
          same_told (told + (told_by_envelopes i of_label None (send key client (envelopes_on_arrival arrival client)
          arrived).sent + 0)) _ _
          (ap (λ (o : Option Envelope). told +
          (told_by_envelopes i of_label o (send key client (envelopes_on_arrival arrival client) arrived).sent + 0))
          is_off)
          (sending client.occupied told arrived key client.label (envelopes_on_arrival arrival client)
          (entered_books arrived client.label report_point middle) (found_known world key client a.books found)
          (a.labels key client found)
          (no_reports arrival client) (record {
            books = middle;
            labels = λ k c at. client_changed world key.number client (after_arrival arrival client) k c
                (found_under world.tag world.clients key.tag key.number client found) (arrival_label arrival client)
                (a.labels k) at;
            adds = a.adds;
          }))
      adds_change (accepts world key client arrival kind is_off found open_ came) none books told a =
          let arrived = with_client_history world key (after_arrival arrival client) in
          let middle : HasBooks arrived = changed_books world key.number client (after_arrival arrival client)
          (found_under world.tag world.clients key.tag key.number client found) (arrival_label arrival client)
          a.books in
          same_told (told + (told_by_envelopes i of_label None (send key client (envelopes_on_arrival arrival client)
          arrived).sent + 0)) _ _
          (ap (λ (o : Option Envelope). told +
          (told_by_envelopes i of_label o (send key client (envelopes_on_arrival arrival client) arrived).sent + 0))
          is_off)
          (sending client.occupied told arrived key client.label (envelopes_on_arrival arrival client)
          (entered_books arrived client.label report_point middle) (found_known world key client a.books found)
          (a.labels key client found)
          (no_reports arrival client) (record {
            books = middle;
            labels = λ k c at. client_changed world key.number client (after_arrival arrival client) k c
                (found_under world.tag world.clients key.tag key.number client found) (arrival_label arrival client)
                (a.labels k) at;
            adds = a.adds;
          }))
      adds_change (mails world key client envelope found occupied plain told_) none books told a =
          same_told (told + told_now world client.label) _ _
          (sent_one given told world key client.label envelope (a.labels key client found)
          (report_told i low given (pending_report world client.label) envelope (silent plain)) 0 refl)
          (pointed told world client.label books (found_known world key client a.books found) a)
        where
          silent : (given ≡ Some envelope) ⊎ ((given ≡ None) × (list_any is_batch_or_report envelope.items ≡ false))
              → (given ≡ Some envelope) ⊎ ((given ≡ None) × (told_by_items i envelope.items ≡ 0))
          silent (inl e) = inl e
          silent (inr e) = inr (e.0, plain_items i envelope.items e.1)
      adds_change (loses world key client losses found) none books told a =
          same_told told (told + 0) _ (no_more told) (silent_entry told world client.label (engine_losses losses) books
          (found_known world key client a.books found) (λ held. refl) a)
      adds_change (takes_report world other has) none books told a =
          same_told (told + told_now world other) _ _ (ap (λ n. told + n) (around_it (told_now world other)))
          (pointed told world other books has a)
      adds_change (absorbs world other losses has) none books told a =
          same_told told (told + 0) _ (no_more told) (silent_entry told world other (drained_losses losses) books has
          (λ held. refl) a)
      adds_change _ none books told a = still told _ _ books refl refl refl a

      adds_changes : {old new : World P C} {some : List (Effect P C)} {sent : List (ClientKey × Envelope)}
          → Changes meanings given old some sent new → list_any is_added some ≡ false
          → (told : ℕ) → Adds told old → Adds (More told some sent) new
      adds_changes (nothing world) none told a = same_told told (told + 0) world (no_more told) a
      adds_changes (one c) none told a = adds_change c none (books_change meanings c a.books) told a
      adds_changes (both {new = new} {first = first} {second = second} {sent = sent} {more = more} t u) none told a =
          same_told (More (More told first sent) second more) (More told (first ++ second) (sent ++ more)) new
          (ap (λ n. told + (n + told_by_effects (first ++ second))) (append_told of_label given sent more)
          ∙ (ap (λ n. told + (told_by_envelopes i of_label given sent + told_by_envelopes i of_label given more + n))
          (append_effects first second)
          ∙ four told (told_by_envelopes i of_label given sent) (told_by_envelopes i of_label given more)
          (told_by_effects first) (told_by_effects second)))
          (adds_changes u (any_second is_added first second none) (More told first sent)
          (adds_changes t (any_first is_added first second none) told a))
        where
          four : (t a b c d : ℕ) → t + (a + b + (c + d)) ≡ t + (a + c) + (b + d)
          four t a b c d = omega arith

-- ---- runs

module _ {P C : Type 0} where
  -- a call that was accepted after two tests
  accepted_twice : {T : Type 0} (f : T → Reply P C) (world next : World P C) (first second : Refusal) (b c : Bool)
      (made : T) (after : World P C) (out : Out (Reply P C))
      → map_answer f (require first world b (require second world c (reply_with made [] after))).answer ≡ Ok out
      → next ≡ (require first world b (require second world c (reply_with made [] after))).after
      → (◌≡◌ {A = Result (Out (Reply P C)) Refusal} (Ok out) (Ok (record { reply = f made; sent = [] })))
      × (next ≡ after)
  accepted_twice f world next first second true true made after out answer is = (sym answer, is)
  accepted_twice f world next first second true false made after out answer is = absurd cc
  accepted_twice f world next first second false c made after out answer is = absurd cc

  -- the same after one, with a client that is found
  accepted_found : {T : Type 0} (f : T → Reply P C) (world next : World P C) (first second : Refusal)
      (o : Option (ClientHistory C)) (c : Bool) (made : T) (after : ClientHistory C → World P C) (out : Out (Reply P C))
      → map_answer f (require_some first world o
      (λ client. require second world c (reply_with made [] (after client)))).answer ≡ Ok out
      → next ≡ (require_some first world o (λ client. require second world c (reply_with made [] (after client)))).after
      → (client : ClientHistory C)
      × (◌≡◌ {A = Result (Out (Reply P C)) Refusal} (Ok out) (Ok (record { reply = f made; sent = [] })))
      × (next ≡ after client)
  accepted_found f world next first second (Some client) true made after out answer is = (client, sym answer, is)
  accepted_found f world next first second (Some client) false made after out answer is = absurd cc
  accepted_found f world next first second None c made after out answer is = absurd cc

module _ {P C : Type 0} (gives : P → Partial) (meanings : C → Meanings) where
  -- a client is added under the next number, and nothing is handed out
  client_added_by : (options : ClientOptions C) (transport : Bool) (label : Label) (now : ℕ) (out : Out (Reply P C))
      (world next : World P C)
      → StepsTo gives meanings world (group.Client (AddClient options transport label now)) (Ok out) next
      → (◌≡◌ {A = Result (Out (Reply P C)) Refusal} (Ok out)
      (Ok (record { reply = reply.Client (record { tag = world.tag; number = world.next.client }); sent = [] })))
      × (next.books ≡ with_book world.books label.number) × (next.tag ≡ world.tag)
  unfolding client_step clients.add_client
  client_added_by options transport label now out world next may =
      let a = accepted_twice reply.Client world next ForeignLosses Full (label.tag == world.tag)
      (nat_lt world.next.client (2 ^ 64 - 1)) _ _ out may.0 may.1 in
      (a.0, ap (λ (w : World P C). w.books) a.1, ap (λ (w : World P C). w.tag) a.1)

  client_cloned_by : (key : ClientKey) (now : ℕ) (out : Out (Reply P C)) (world next : World P C)
      → StepsTo gives meanings world (group.Client (CloneClient key now)) (Ok out) next
      → (◌≡◌ {A = Result (Out (Reply P C)) Refusal} (Ok out)
      (Ok (record { reply = reply.Client (record { tag = world.tag; number = world.next.client }); sent = [] })))
      × (next.books ≡ world.books) × (next.tag ≡ world.tag)
  unfolding client_step clients.clone_client
  client_cloned_by key now out world next may =
      let a = accepted_found reply.Client world next Stale Full (client_at world key)
      (nat_lt world.next.client (2 ^ 64 - 1)) _ _ out may.0 may.1 in
      (a.1, ap (λ (w : World P C). w.books) a.2, ap (λ (w : World P C). w.tag) a.2)

  module _ (label : Label) (i : ℕ) (low : i < 63) where
    -- what was told is what the book of the label says, if a client has the label, and nothing otherwise
    record Sums (told : ℕ) (world : World P C) : Type 0 where
      books : HasBooks world
      adds : has_client_of label world.clients ≡ true → (history : List LossEntry)
          → value_at world.books label.number ≡ Some history → told ≡ reported history i
      none : has_client_of label world.clients ≡ false → told ≡ 0

    has_by : (world : World P C) (b : Bool) → HasBooks world → has_client_of label world.clients ≡ b
        → has_book world label ≡ b
    has_by world b books is = books.same label ∙ is

    -- a world after a call, where what was told counts while a client has the label
    next-by : (b : Bool) (told : ℕ) (next : World P C) → HasBooks next → has_client_of label next.clients ≡ b
        → (has_client_of label next.clients ≡ true → (history : List LossEntry)
        → value_at next.books label.number ≡ Some history → told ≡ reported history i)
        → Sums (if b then told else 0) next
    next-by true told next books is adds = record { books = books; adds = adds; none = λ no. absurd cc }
    next-by false told next books is adds = record { books = books; adds = λ yes. absurd cc; none = λ no. refl }

    sums_next : (told : ℕ) (next : World P C) → HasBooks next
        → (has_client_of label next.clients ≡ true → (history : List LossEntry)
        → value_at next.books label.number ≡ Some history → told ≡ reported history i)
        → Sums (if has_client_of label next.clients then told else 0) next
    sums_next told next books adds = next-by (has_client_of label next.clients) told next books refl adds

    abbrev Told : ℕ → World P C → Call P C → Result (Out (Reply P C)) Refusal → World P C → Type 0
    Told told world call answer next =
        Sums (if has_client_of label next.clients then told + told_by_answer label i world call answer else 0) next

    -- a call that adds no client
    sums_by_changes : (call : Call P C) (out : Out (Reply P C)) (world next : World P C) (told : ℕ)
        → list_any (is_added label i) (effects meanings call out.reply) ≡ false
        → StepsTo gives meanings world call (Ok out) next → Sums told world → Told told world call (Ok out) next
    sums_by_changes call out world next told quiet may s =
        let trail = trail_of gives meanings call out world next may in
        let of_label = λ (key : ClientKey). has_label label (client_at world key) in
        let none : list_any (is_added label i) trail.effects ≡ false =
        sym (own_any (is_added label i) (λ number session. refl) trail.effects)
        ∙ (ap (list_any (is_added label i)) trail.same ∙ quiet) in
        let start : Adds label i low of_label told world = record {
          books = s.books;
          labels = λ key client at. ap (has_label label) at;
          adds = λ own history at. s.adds
              (sym (s.books.same label) ∙ (ap (λ b. b && is_some (value_at world.books label.number)) own
              ∙ ap is_some at)) history at;
        } in
        let last = adds_changes label i low of_label meanings (handed_in call) trail.changes none told start in
        let same : told_by_effects label i trail.effects ≡ told_by_reply label i call out.reply =
        sym (told_by_own label i trail.effects)
        ∙ (ap (told_by_effects label i) trail.same ∙ told_by_call label i meanings call out.reply) in
        sums_next (told + told_by_answer label i world call (Ok out)) next last.books
        (λ has history at. ap (λ n. told + (told_by_envelopes i of_label (handed_in call) out.sent + n)) (sym same)
        ∙ last.adds (and_parts (label.tag == next.tag) _ (has_by next true last.books has)).0 history at)

    -- the book of a label after one of some label is there
    old_book : (other : ℕ) (books : List (ℕ × List LossEntry)) (history : List LossEntry) (told : ℕ)
        → ((before : List LossEntry) → value_at books label.number ≡ Some before → told ≡ reported before i)
        → (value_at books label.number ≡ None → told ≡ 0)
        → value_at (with_book books other) label.number ≡ Some history → told ≡ reported history i
    old_book other books history told adds none at = by_other (is_some (value_at books other)) refl at
      where
        by_own : (b : Bool) (o : Option (List LossEntry)) → value_at books label.number ≡ o → (b ≡ true → o ≡ None)
            → (if b then Some [] else o) ≡ Some history → told ≡ reported history i
        by_own true o is gone h = let same : [] ≡ history = cc in none (is ∙ gone refl) ∙ ap (λ l. reported l i) same
        by_own false o is gone h = adds history (is ∙ h)

        by_some : (o : Option (List LossEntry)) → value_at books other ≡ o → is_some o ≡ false → o ≡ None
        by_some None is h = refl
        by_some (Some history) is h = absurd cc

        by_put : is_some (value_at books other) ≡ false → value_at (put books other []) label.number ≡ Some history
            → told ≡ reported history i
        by_put gone at = by_own (label.number == other) (value_at books label.number) refl
            (λ e. ap (value_at books) (same_number label.number other e) ∙ by_some (value_at books other) refl gone)
            (sym (found_put books other label.number []) ∙ at)

        by_other : (b : Bool) → is_some (value_at books other) ≡ b → value_at (if b then books else put books other [])
            label.number ≡ Some history → told ≡ reported history i
        by_other true is at = adds history at
        by_other false is at = by_put is at

    -- a book that is there is one of a client, as before
    was_held : (world : World P C) (told : ℕ) → Sums told world → (label.tag == world.tag) ≡ true
        → (before : List LossEntry) → value_at world.books label.number ≡ Some before → told ≡ reported before i
    was_held world told s own before at =
        s.adds (sym (s.books.same label) ∙ (ap (λ b. b && is_some (value_at world.books label.number)) own
        ∙ ap is_some at)) before at

    was_absent : (world : World P C) (told : ℕ) → Sums told world → (label.tag == world.tag) ≡ true
        → value_at world.books label.number ≡ None → told ≡ 0
    was_absent world told s own at =
        s.none (sym (s.books.same label) ∙ (ap (λ b. b && is_some (value_at world.books label.number)) own
        ∙ ap is_some at))

    own_before : (world next : World P C) → HasBooks next → next.tag ≡ world.tag
        → has_client_of label next.clients ≡ true → (label.tag == world.tag) ≡ true
    own_before world next books same has = ap (λ t. label.tag == t) (sym same)
        ∙ (and_parts (label.tag == next.tag) _ (has_by next true books has)).0

    sums_added : (options : ClientOptions C) (transport : Bool) (other : Label) (now : ℕ) (out : Out (Reply P C))
        (world next : World P C) (told : ℕ)
        → StepsTo gives meanings world (group.Client (AddClient options transport other now)) (Ok out) next
        → Sums told world → Told told world (group.Client (AddClient options transport other now)) (Ok out) next
    sums_added options transport other now out world next told may s =
        let call : Call P C = group.Client (AddClient options transport other now) in
        let a = client_added_by options transport other now out world next may in
        let books = kept_books gives meanings call (Ok out) world next may s.books in
        let quiet : told + told_by_answer label i world call (Ok out) ≡ told =
        ap (λ answer. told + told_by_answer label i world call answer) a.0 ∙ no_more told in
        sums_next (told + told_by_answer label i world call (Ok out)) next books (λ has history at.
        let own = own_before world next books a.2 has in
        quiet ∙ old_book other.number world.books history told (was_held world told s own) (was_absent world told s own)
        (sym (ap (λ m. value_at m label.number) a.1) ∙ at))

    sums_cloned : (key : ClientKey) (now : ℕ) (out : Out (Reply P C)) (world next : World P C) (told : ℕ)
        → StepsTo gives meanings world (group.Client (CloneClient key now)) (Ok out) next → Sums told world
        → Told told world (group.Client (CloneClient key now)) (Ok out) next
    sums_cloned key now out world next told may s =
        let call : Call P C = group.Client (CloneClient key now) in
        let a = client_cloned_by key now out world next may in
        let books = kept_books gives meanings call (Ok out) world next may s.books in
        let quiet : told + told_by_answer label i world call (Ok out) ≡ told =
        ap (λ answer. told + told_by_answer label i world call answer) a.0 ∙ no_more told in
        sums_next (told + told_by_answer label i world call (Ok out)) next books (λ has history at.
        quiet ∙ was_held world told s (own_before world next books a.2 has) history
        (sym (ap (λ m. value_at m label.number) a.1) ∙ at))

    sums_client_call : (call : ClientCall P C) (out : Out (Reply P C)) (world next : World P C) (told : ℕ)
        → StepsTo gives meanings world (group.Client call) (Ok out) next → Sums told world
        → Told told world (group.Client call) (Ok out) next
    sums_client_call (AddClient options transport other now) out world next told may s =
        sums_added options transport other now out world next told may s
    sums_client_call (CloneClient key now) out world next told may s = sums_cloned key now out world next told may s
    sums_client_call call out world next told may s = sums_by_changes (group.Client call) out world next told
        (client_unadded label i meanings call out.reply refl) may s

    sums_call : (call : Call P C) (out : Out (Reply P C)) (world next : World P C) (told : ℕ)
        → StepsTo gives meanings world call (Ok out) next → Sums told world → Told told world call (Ok out) next
    sums_call (group.Client call) out world next told may s = sums_client_call call out world next told may s
    sums_call (group.Hub call) out world next told may s = sums_by_changes (group.Hub call) out world next told
        (hub_unadded label i meanings call out.reply) may s
    sums_call (group.Span call) out world next told may s =
        sums_by_changes (group.Span call) out world next told refl may s

    -- a refusal tells nothing
    sums_refused : (call : Call P C) (refusal : Refusal) (world next : World P C) (told : ℕ) → next ≡ world
        → Sums told world → Told told world call (Err refusal) next
    sums_refused call refusal world next told same s =
        subst (λ (w : World P C). Sums (if has_client_of label w.clients then told + 0 else 0) w) (sym same)
        (sums_next (told + 0) world s.books (λ has history at. no_more told ∙ s.adds has history at))

    sums_run : (calls : List (Call P C)) (answers : List (Result (Out (Reply P C)) Refusal)) (world last : World P C)
        (told : ℕ) (run : Run gives meanings world calls answers last)
        → Sums told world → Sums (told_since gives meanings label i told world calls answers last run) last
    sums_run [] [] world last told run s = subst (Sums told) (sym run) s
    sums_run (call ∷ calls) (Ok out ∷ answers) world last told run s =
        sums_run calls answers run.0 last _ run.2 (sums_call call out world run.0 told run.1 s)
    sums_run (call ∷ calls) (Err refusal ∷ answers) world last told run s =
        sums_run calls answers run.0 last _ run.2 (sums_refused call refusal world run.0 told run.1.1 s)
    sums_run [] (answer ∷ answers) world last told run s = absurd run
    sums_run (call ∷ calls) [] world last told run s = absurd run

  -- what a label that a client has told, by its history
  told_is : (label : Label) (i : ℕ) (low : i < 63) (told : ℕ) (last : World P C) → Sums label i low told last
      → has_client_of label last.clients ≡ true → told ≡ reported (history_of last label) i
  told_is label i low told last s has =
      by_book (value_at last.books label.number) refl
      (and_parts (label.tag == last.tag) _ (has_by label i low last true s.books has)).1
    where
      by_book : (o : Option (List LossEntry)) → value_at last.books label.number ≡ o → is_some o ≡ true
          → told ≡ reported (unwrap_or o []) i
      by_book None at there = absurd cc
      by_book (Some history) at there = s.adds has history at

  pub reports_add_up : ReportsAddUp gives meanings
  reports_add_up tag start calls answers last run label i has low =
      let first : Sums label i low 0 (starting_world tag start) = record {
        books = no_books meanings tag start;
        adds =
            λ yes history at. absurd cc;
        none = λ no. refl;
      } in
      let s = sums_run label i low calls answers (starting_world tag start) last 0 run first in
      ap (λ n. (n + slice_index (pending_losses (history_of last label)) i) % 2 ^ 64) (told_is label i low _ last s has)
      ∙ books_balance (history_of last label) i low
