-- The calls on transactions and spans, as changes.
use Rattle.std.proofs.Common.{◌≡◌, refl, ap, ◌∙◌, sym, subst, ℕ, List, [], ◌∷◌, ◌++◌, Bool, true, false, inr}
use Rattle.std.proofs.lemmas.List.{append-nil}
use Rattle.std.proofs.lemmas.Bool.{not-true}
use Rattle.std.specs.Prelude.{Option, Some, None, not, is_some}
use Rattle.std.specs.List.{list_any}
use Rattle.std.specs.Option.{option_map, option_and_then}
use Rattle.sentry_plain.specs.Tables.{value_at}
use Rattle.sentry_plain.specs.Texts.{Bytes}
use Rattle.sentry_base.specs.declared.protocol.client_report.ClientReport.{ClientReport}
use Rattle.sentry_base.specs.declared.protocol.context.TraceContext.{TraceContext}
use Rattle.sentry_base.specs.declared.protocol.envelope.Envelope.{Envelope}
use Rattle.sentry_base.specs.declared.protocol.fresh.Fresh.{Fresh}
use Rattle.sentry_base.specs.declared.protocol.ids.SpanId.{SpanId}
use Rattle.sentry_base.specs.declared.protocol.keys.ClientKey.{ClientKey}
use Rattle.sentry_base.specs.declared.protocol.keys.HubKey.{HubKey}
use Rattle.sentry_base.specs.declared.protocol.keys.Label.{Label}
use Rattle.sentry_base.specs.declared.protocol.keys.SpanKey.{SpanKey}
use Rattle.sentry_base.specs.declared.protocol.keys.TransactionKey.{TransactionKey}
use Rattle.sentry_base.specs.declared.protocol.keys.TransactionOrSpanKey.{TransactionOrSpanKey}
use Rattle.sentry_base.specs.declared.protocol.keys.TransactionOrSpanKey.TheVariants as key_of
use Rattle.sentry_base.specs.declared.protocol.refusal.Refusal.TheVariants.{Stale, StillNamed, Full}
use Rattle.sentry_base.specs.declared.protocol.span.Span.{Span}
use Rattle.sentry_client_reports.specs.LossBooks.{LossEntry, engine_losses, report_point, report_items, report_of, pending_losses}
use Rattle.sentry_options.specs.Meanings.{Meanings}
use Rattle.sentry_sending.specs.Sending.{envelopes_from, after_sending}
use Rattle.sentry_span_table.specs.SpanLists.{TransactionHistory, kept_spans, spans_left, stored_transaction, fate_of, with_span_finished}
use Rattle.sentry_span_table.specs.SpanTables.{has_span_of, place_in}
use Rattle.sentry_span_table.specs.declared.table.records.SpanFate.{SpanFate}
use Rattle.sentry_span_table.specs.declared.table.records.SpanFate.TheVariants.{Kept, Lost, Gone}
use Rattle.sentry_span_table.specs.declared.table.records.SpanRecord.{SpanRecord}
use Rattle.sentry_span_table.specs.declared.table.records.TracingState.{TracingState}
use Rattle.sentry_span_table.specs.declared.table.records.TracingState.TheVariants.{Enabled, Disabled}
use Rattle.sentry_span_table.specs.declared.table.records.TransactionRecord.{TransactionRecord}
use Rattle.sentry_span_table.specs.declared.table.records.Unfinished.{Unfinished}
use Rattle.sentry_calls.specs.SpanCalls.{span_step}
use Rattle.sentry_calls.specs.declared.call.spans.records.SpanCall.{SpanCall}
use Rattle.sentry_calls.specs.declared.call.spans.records.SpanCall.TheVariants as on_span
use Rattle.sentry_calls.specs.declared.call.spans.records.SpanReply.TheVariants as reply
use Rattle.sentry_spans.specs.Discards.{discard, is_active_on}
use Rattle.sentry_span_edits.specs.Edits.{edit_context, edit_span, edit_span_record, edit_transaction}
use Rattle.sentry_span_edits.specs.Reads.{read, get_status, read_data, is_sampled, get_span_id, get_trace_context, iter_headers}
use Rattle.sentry_span_edits.specs.Setters.{change, with_edited, with_found_edited}
use Rattle.sentry_span_edits.specs.declared.edit.SpanEdit.{SpanEdit}
use Rattle.sentry_span_edits.specs.declared.edit.SpanEdit.TheVariants as edit_by
use Rattle.sentry_spans.specs.Spans.{started_transaction, start_transaction_with_timestamp, start_child_with_details, continue_from_span, child_of, finish_span, finish_transaction, is_transaction_number_left, is_span_number_left, by_tracing, with_client_loss, with_loss_of, with_fate, with_span_in}
use Rattle.sentry_state.specs.declared.state.ClientState.{ClientState}
use Rattle.sentry_state.specs.Books.{with_entry}
use Rattle.sentry_state.specs.Outcomes.{Outcome, client_at, hub_at, stored_client_at, stored_transaction_at, span_at, transaction_at}
use Rattle.sentry_state.specs.SpanChanges.{finished_transaction, finished_span, next_span_key, next_transaction_key, with_transaction_finished, with_found_finished, with_span, with_transaction}
use Rattle.sentry_state.specs.Worlds.{World, ClientHistory, stored_client, span_table}
use Rattle.sentry_trace.specs.declared.performance.context.TransactionContext.{TransactionContext}
use Rattle.sentry_calls.specs.Hubs.{with_renames}
use Rattle.sentry_laws.proofs.Effects.{Effect}
use Rattle.sentry_laws.proofs.Changes.{Changes, nothing, one, both, is_batch_or_report, AreOfHeld, AreOfTransactions, mails, loses, starts_transaction, starts_span, changes_spans, changes_transaction, changes_span, keeps_span, drops_transaction, drops_span}
use Rattle.sentry_laws.proofs.Tables.{own_replaced}
use Rattle.sentry_laws.proofs.Trails.{found_under, Told, told_trail, told_nothing, told_some, told_let, told_let_client, told_require, told_if, told_mapped}

-- ---- what an edit keeps

context_trace : (by : SpanEdit) (b : Bool) (context : TraceContext) → (edit_context by b context).trace_id
    ≡ context.trace_id
context_trace (edit_by.Data key value) true context = refl
context_trace (edit_by.Data key value) false context = refl
context_trace (edit_by.Status status) b context = refl
context_trace (edit_by.Op op) b context = refl
context_trace (edit_by.Origin origin) b context = refl
context_trace by b context = refl

span_trace : (by : SpanEdit) (span : Span) → (edit_span by span).trace_id ≡ span.trace_id
span_trace (edit_by.Data key value) span = refl
span_trace (edit_by.Tag key value) span = refl
span_trace (edit_by.Status status) span = refl
span_trace (edit_by.Op op) span = refl
span_trace (edit_by.Name name) span = refl
span_trace (edit_by.Request request) span = refl
span_trace by span = refl

-- a transaction that an engine has is one of the world
from_stored : (o : Option TransactionHistory) (held : TransactionRecord) → option_map stored_transaction o ≡ Some held
    → (state : TransactionHistory) × (o ≡ Some state)
from_stored None held e = absurd cc
from_stored (Some state) held e = (state, refl)

started_new : {C : Type 0} (meanings : C → Meanings) (name : Option ClientKey) (client : Option (ClientState C))
    (context : TransactionContext) (start : ℕ) (fresh : Fresh)
    → (started_transaction meanings name client context start fresh).finished ≡ []
started_new meanings (Some key) (Some client) context start fresh = refl
started_new meanings name client context start fresh = refl

module _ {P C : Type 0} where
  pub closed_client : (number : ℕ) (o : Option TransactionHistory) (world : World P C) (key : ClientKey)
      → client_at (with_found_finished number o world) key ≡ client_at world key
  closed_client number None world key = refl
  closed_client number (Some state) world key = refl

  pub closed_books : (number : ℕ) (o : Option TransactionHistory) (world : World P C)
      → (with_found_finished number o world).books ≡ world.books
  closed_books number None world = refl
  closed_books number (Some state) world = refl

-- the report of what is pending in a book
abbrev report_in : List (ℕ × List LossEntry) → Label → Option ClientReport
report_in books label = option_and_then (λ history. report_of (report_items (pending_losses history)))
    (value_at books label.number)

module _ {P C : Type 0} (meanings : C → Meanings) where
  abbrev Quietly : World P C → World P C → Type 0
  Quietly old new = Changes meanings None old [] [] new

  edits-found : (by : SpanEdit) (key : TransactionKey) (world : World P C) (o : Option TransactionHistory)
      → transaction_at world key ≡ o → Quietly world (with_found_edited by key.number o world)
  edits-found by key world None at = nothing world
  edits-found by key world (Some state) at =
      one (changes_spans world _ _ (changes_transaction key.number state (edit_transaction by state)
      (found_under world.tag world.transactions key.tag key.number state at)
      (context_trace by (is_some state.unfinished) state.context) refl))

  edits_held : (by : SpanEdit) (key : TransactionKey) (world : World P C) → Quietly world (with_edited by key world)
  edits_held by key world = edits-found by key world (transaction_at world key) refl

  -- transactions have other names
  pub names_by : (renames : List (TransactionKey × Bytes)) (world : World P C)
      → Quietly world (with_renames renames world)
  names_by [] world = nothing world
  names_by (rename ∷ rest) world = both (edits_held (edit_by.Name rename.1) rename.0 world)
      (names_by rest (with_edited (edit_by.Name rename.1) rename.0 world))

  -- changes after which transactions have other names
  pub quiet_names : {old middle : World P C} {some : List (Effect P C)} {sent : List (ClientKey × Envelope)}
      → Changes meanings None old some sent middle → (renames : List (TransactionKey × Bytes))
      → Changes meanings None old some sent (with_renames renames middle)
  quiet_names {old} {middle} {some} {sent} changes renames =
      subst (λ e. Changes meanings None old e sent (with_renames renames middle)) (append-nil some)
      (subst (λ s. Changes meanings None old (some ++ []) s (with_renames renames middle)) (append-nil sent)
      (both changes (names_by renames middle)))

  closes-found : (key : TransactionKey) (world : World P C) (o : Option TransactionHistory) → transaction_at world key ≡ o
      → Quietly world (with_found_finished key.number o world)
  closes-found key world None at = nothing world
  closes-found key world (Some state) at =
      one (changes_spans world _ _ (changes_transaction key.number state (finished_transaction state)
      (found_under world.tag world.transactions key.tag key.number state at) refl refl))

  closes : (key : TransactionKey) (world : World P C) → Quietly world (with_transaction_finished key world)
  closes key world = closes-found key world (transaction_at world key) refl

  loses-found : (key : ClientKey) (losses : List ℕ) (world : World P C) (o : Option (ClientHistory C))
      → client_at world key ≡ o → Quietly world (with_loss_of (option_map stored_client o) (engine_losses losses) world)
  loses-found key losses world None found = nothing world
  loses-found key losses world (Some client) found = one (loses world key client losses found)

  client_loses : (key : ClientKey) (losses : List ℕ) (world : World P C)
      → Quietly world (with_client_loss key (engine_losses losses) world)
  client_loses key losses world = loses-found key losses world (client_at world key) refl

  meets : (fate : SpanFate) (world : World P C) → Quietly world (with_fate fate world)
  meets Kept world = nothing world
  meets (Lost client) world = client_loses client _ world
  meets Gone world = nothing world

  -- a span that is held finished in its transaction
  finishes-in : (world : World P C) (number : ℕ) (held : SpanRecord) (o : Option TransactionHistory)
      → value_at world.spans number ≡ Some held → transaction_at world held.transaction ≡ o
      → Quietly world (with_span_in held.transaction held.span o world)
  finishes-in world number held None here at = nothing world
  finishes-in world number held (Some state) here at =
      both (one (changes_spans world _ _ (keeps_span number held state here at)))
      (meets (fate_of state) (with_transaction held.transaction.number (with_span_finished held.span state) world))

  -- an envelope of a client leaves its slot, if that is occupied
  mails_from : (b : Bool) (world middle : World P C) (key : ClientKey) (client : ClientHistory C) (envelope : Envelope)
      → middle.books ≡ world.books → client_at middle key ≡ Some client
      → client.occupied ≡ b → list_any is_batch_or_report envelope.items ≡ false
      → AreOfHeld middle envelope.items × AreOfTransactions middle envelope.header envelope.items
      → Changes meanings None middle [] (envelopes_from b key (report_in world.books client.label) (envelope ∷ []))
      (after_sending client.label (envelopes_from b key (report_in world.books client.label) (envelope ∷ [])) middle)
  mails_from true world middle key client envelope same found occupied plain told_ =
      subst (λ books. Changes meanings None middle [] (envelopes_from true key (report_in books client.label)
      (envelope ∷ [])) (with_entry middle client.label report_point)) same
      (one (mails middle key client envelope found occupied (inr (refl, plain)) (λ none. told_)))
  mails_from false world middle key client envelope same found occupied plain told_ = nothing middle

  -- the spans of a transaction that was unfinished, and its trace id, where it finished
  finished_found : (key : TransactionKey) (held : TransactionRecord) (unfinished : Unfinished) (world : World P C)
      → stored_transaction_at world key ≡ Some held → held.unfinished ≡ Some unfinished
      → (number : ℕ) × (state : TransactionHistory)
      × (value_at (with_transaction_finished key world).transactions number ≡ Some state)
      × (Some held.context.trace_id ≡ Some state.context.trace_id)
      × (held.spans ≡ kept_spans state.tracing state.max_spans state.finished)
  finished_found key held unfinished world found is = by_state (transaction_at world key) refl found
    where
      by_state : (o : Option TransactionHistory) → transaction_at world key ≡ o → option_map stored_transaction o
          ≡ Some held
          → (number : ℕ) × (state : TransactionHistory)
          × (value_at (with_transaction_finished key world).transactions number ≡ Some state)
          × (Some held.context.trace_id ≡ Some state.context.trace_id)
          × (held.spans ≡ kept_spans state.tracing state.max_spans state.finished)
      by_state None at e = absurd cc
      by_state (Some state) at e =
          let same : stored_transaction state ≡ held = cc in
          let here = found_under world.tag world.transactions key.tag key.number state at in
          let kept = kept_spans state.tracing state.max_spans state.finished in (
            key.number,
            finished_transaction state,
            ap (λ o. value_at (with_found_finished key.number o world).transactions key.number) at
                ∙ own_replaced world.transactions key.number (finished_transaction state) state here,
            ap (λ (h : TransactionRecord). Some h.context.trace_id) (sym same),
            ap (λ (h : TransactionRecord). h.spans) (sym same)
                ∙ ap (λ u. spans_left u kept) (ap (λ (h : TransactionRecord). h.unfinished) same ∙ is),
          )

  -- ---- calls

  abbrev Silent : {T : Type 0} → World P C → Outcome P C T → Type 0
  Silent world outcome = Told meanings None world (λ _. []) outcome

  told_change : (by : SpanEdit) (name : TransactionOrSpanKey) (world : World P C) → Silent world (change by name world)
  unfolding change
  told_change by (key_of.Transaction key) world =
      told_some meanings None Stale (stored_transaction_at world key)
      (λ held found. told_trail meanings None tt (edits_held by key world) refl refl)
  told_change by (key_of.Span key) world =
      told_some meanings None Stale (span_at world key) (λ held found.
      told_trail meanings None tt
      (one (changes_spans world _ _ (changes_span key.number held (edit_span_record by held)
      (found_under world.tag world.spans key.tag key.number held found) refl (span_trace by held.span)))) refl refl)

  told_start : (key : HubKey) (context : TransactionContext) (start : ℕ) (fresh : Fresh) (world : World P C)
      → Silent world (start_transaction_with_timestamp meanings key context start fresh world)
  unfolding start_transaction_with_timestamp
  told_start key context start fresh world =
      told_some meanings None Stale (hub_at world key) (λ hub found.
      told_require meanings None Full (is_transaction_number_left world) (λ left.
      told_trail meanings None (next_transaction_key world)
      (one (starts_transaction world _
      (started_new meanings hub.stack.top.client (option_and_then (stored_client_at world) hub.stack.top.client)
      context start fresh))) refl refl))

  told_continue : (name op : Bytes) (span : Option TransactionOrSpanKey) (fresh : Fresh) (world : World P C)
      → Silent world (continue_from_span name op span fresh world)
  unfolding continue_from_span
  told_continue name op None fresh world = told_nothing meanings None _ refl
  told_continue name op (Some key) fresh world = told_some meanings None Stale (place_in (span_table world) key)
      (λ place found. told_nothing meanings None _ refl)

  told_child : (parent : TransactionOrSpanKey) (op description : Bytes) (id : SpanId) (start : ℕ) (world : World P C)
      → Silent world (start_child_with_details parent op description id start world)
  unfolding start_child_with_details
  told_child parent op description id start world =
      told_some meanings None Stale (place_in (span_table world) parent) (λ place found.
      told_require meanings None Full (is_span_number_left world) (λ left.
      told_trail meanings None (next_span_key world)
      (one (starts_span world parent place (child_of place op description id start) found refl refl)) refl refl))

  told_finish : (key : SpanKey) (moment : ℕ) (world : World P C) → Silent world (finish_span key moment world)
  unfolding finish_span
  told_finish key moment world =
      told_some meanings None Stale (span_at world key) (λ held found.
      let here = found_under world.tag world.spans key.tag key.number held found in
      let done = finished_span moment held in
      told_if meanings None (is_some held.span.timestamp) (λ again. told_nothing meanings None tt refl) (λ first.
      told_trail meanings None tt
      (both (one (changes_spans world _ _ (changes_span key.number held done here refl refl)))
      (finishes-in (with_span key.number done world) key.number done (transaction_at world held.transaction)
      (own_replaced world.spans key.number done held here) refl)) refl refl))

  told_by_tracing : {T : Type 0} (tracing : TracingState) (world : World P C) (untraced unsampled : Outcome P C T)
      (sampled : ℕ → Outcome P C T)
      → Silent world untraced → Silent world unsampled → ((rate : ℕ) → Silent world (sampled rate))
      → Silent world (by_tracing tracing untraced unsampled sampled)
  told_by_tracing (Disabled decision) world untraced unsampled sampled h k l = h
  told_by_tracing (Enabled false rate) world untraced unsampled sampled h k l = k
  told_by_tracing (Enabled true rate) world untraced unsampled sampled h k l = l rate

  told_finish_transaction : (key : TransactionKey) (hub_key : HubKey) (moment : ℕ) (world : World P C)
      → Silent world (finish_transaction key hub_key moment world)
  unfolding finish_transaction
  told_finish_transaction key hub_key moment world =
      told_some meanings None Stale (stored_transaction_at world key) (λ held found.
      told_some meanings None Stale (hub_at world hub_key) (λ hub hub_found.
      told_let meanings None held.unfinished (λ none. told_nothing meanings None tt refl) (λ unfinished is.
      told_by_tracing held.tracing world _ _ _
      (told_trail meanings None tt (closes key world) refl refl)
      (told_trail meanings None tt (both (closes key world) (client_loses unfinished.client _ (with_transaction_finished key world)))
      refl refl)
      (λ rate. told_let_client meanings None (client_at world unfinished.client) _ _
      (λ none. told_trail meanings None tt (closes key world) refl refl) (λ client client_found.
      told_trail meanings None tt (both (closes key world)
      (mails_from client.occupied world (with_transaction_finished key world) unfinished.client client _
      (closed_books key.number (transaction_at world key) world)
      (closed_client key.number (transaction_at world key) world unfinished.client ∙ client_found) refl refl
      ((tt, tt), (finished_found key held unfinished world found is, tt))))
      refl refl)))))

  told_discard : (name : TransactionOrSpanKey) (world : World P C) → Silent world (discard name world)
  unfolding discard
  told_discard (key_of.Transaction key) world =
      told_some meanings None Stale (stored_transaction_at world key) (λ held found.
      let state = from_stored (transaction_at world key) held found in
      told_require meanings None StillNamed (not (is_active_on (key_of.Transaction key) world.hubs)) (λ unnamed.
      told_require meanings None StillNamed (not (has_span_of (span_table world) key)) (λ spanless.
      told_trail meanings None tt
      (one (changes_spans world _ _ (drops_transaction key state.0 state.1 (not-true _ unnamed)
      (not-true _ spanless)))) refl refl)))
  told_discard (key_of.Span key) world =
      told_some meanings None Stale (span_at world key) (λ held found.
      told_require meanings None StillNamed (not (is_active_on (key_of.Span key) world.hubs)) (λ unnamed.
      told_trail meanings None tt (one (changes_spans world _ _ (drops_span key held found (not-true _ unnamed))))
      refl refl))

  told_read : {T : Type 0} (of_transaction : TransactionRecord → T) (of_span : SpanRecord → T)
      (name : TransactionOrSpanKey) (world : World P C) → Silent world (read of_transaction of_span name world)
  told_read of_transaction of_span (key_of.Transaction key) world =
      told_some meanings None Stale (stored_transaction_at world key) (λ held found. told_nothing meanings None _ refl)
  told_read of_transaction of_span (key_of.Span key) world = told_some meanings None Stale (span_at world key)
      (λ held found. told_nothing meanings None _ refl)

  told_context : (name : TransactionOrSpanKey) (world : World P C) → Silent world (get_trace_context name world)
  unfolding get_trace_context
  told_context (key_of.Transaction key) world = told_some meanings None Stale (stored_transaction_at world key)
      (λ held found. told_nothing meanings None _ refl)
  told_context (key_of.Span key) world =
      told_some meanings None Stale (span_at world key) (λ held found.
      told_some meanings None Stale (stored_transaction_at world held.transaction)
      (λ kept there. told_nothing meanings None _ refl))

  pub told_span_step : (call : SpanCall) (world : World P C) → Silent world (span_step meanings call world)
  unfolding span_step get_status read_data is_sampled get_span_id iter_headers
  told_span_step (on_span.StartTransaction hub context fresh) world =
      told_mapped meanings None _ reply.Transaction _ (told_start hub context fresh.now fresh world)
  told_span_step (on_span.StartTransactionWithTimestamp hub context start fresh) world =
      told_mapped meanings None _ reply.Transaction _ (told_start hub context start fresh world)
  told_span_step (on_span.StartChild parent op description fresh) world =
      told_mapped meanings None _ reply.Span _ (told_child parent op description fresh.span_id fresh.now world)
  told_span_step (on_span.StartChildWithDetails parent op description id start) world =
      told_mapped meanings None _ reply.Span _ (told_child parent op description id start world)
  told_span_step (on_span.ContinueFromSpan name op span fresh) world =
      told_mapped meanings None _ reply.Context _ (told_continue name op span fresh world)
  told_span_step (on_span.SetData span key value) world =
      told_mapped meanings None _ (λ _. reply.Done) _ (told_change (edit_by.Data key value) span world)
  told_span_step (on_span.SetTag span key value) world =
      told_mapped meanings None _ (λ _. reply.Done) _ (told_change (edit_by.Tag key value) span world)
  told_span_step (on_span.SetExtra transaction key value) world =
      told_mapped meanings None _ (λ _. reply.Done) _
      (told_change (edit_by.Extra key value) (key_of.Transaction transaction) world)
  told_span_step (on_span.SetStatus span status) world =
      told_mapped meanings None _ (λ _. reply.Done) _ (told_change (edit_by.Status status) span world)
  told_span_step (on_span.SetOp span op) world =
      told_mapped meanings None _ (λ _. reply.Done) _ (told_change (edit_by.Op op) span world)
  told_span_step (on_span.SetName span text) world =
      told_mapped meanings None _ (λ _. reply.Done) _ (told_change (edit_by.Name text) span world)
  told_span_step (on_span.SetRequest span request) world =
      told_mapped meanings None _ (λ _. reply.Done) _ (told_change (edit_by.Request request) span world)
  told_span_step (on_span.SetOrigin transaction origin) world =
      told_mapped meanings None _ (λ _. reply.Done) _
      (told_change (edit_by.Origin origin) (key_of.Transaction transaction) world)
  told_span_step (on_span.GetStatus span) world = told_mapped meanings None _ reply.Status _ (told_read _ _ span world)
  told_span_step (on_span.GetTraceContext span) world = told_mapped meanings None _ reply.TraceContext _
      (told_context span world)
  told_span_step (on_span.GetSpanId span) world =
      told_mapped meanings None _ reply.SpanId _ (told_some meanings None Stale (span_at world span)
      (λ held found. told_nothing meanings None _ refl))
  told_span_step (on_span.Data span) world = told_mapped meanings None _ reply.Data _ (told_read _ _ span world)
  told_span_step (on_span.IterHeaders span) world =
      told_mapped meanings None _ reply.Headers _ (told_some meanings None Stale (place_in (span_table world) span)
      (λ place found. told_nothing meanings None _ refl))
  told_span_step (on_span.IsSampled span) world =
      told_mapped meanings None _ reply.Decision _ (told_read _ _ span world)
  told_span_step (on_span.FinishTransaction transaction hub moment) world =
      told_mapped meanings None _ (λ _. reply.Done) _ (told_finish_transaction transaction hub moment world)
  told_span_step (on_span.FinishSpan span moment) world =
      told_mapped meanings None _ (λ _. reply.Done) _ (told_finish span moment world)
  told_span_step (on_span.Discard span) world =
      told_mapped meanings None _ (λ _. reply.Done) _ (told_discard span world)
