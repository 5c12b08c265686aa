-- What becomes of events, as changes.
use Rattle.std.proofs.Common.{◌≡◌, refl, ap, ◌∙◌, subst, ℕ, List, [], ◌∷◌, ◌++◌, Bool, true, false, inr}
use Rattle.std.specs.Prelude.{Option, Some, None, if◌then◌else◌, nat_lt, ◌||◌}
use Rattle.std.specs.List.{list_any}
use Rattle.std.specs.Option.{option_map, option_or}
use Rattle.sentry_plain.specs.Tables.{value_at}
use Rattle.sentry_base.specs.Callbacks.{Partial}
use Rattle.sentry_base.specs.Envelopes.{with_item, empty_envelope}
use Rattle.sentry_base.specs.declared.protocol.attachment.Attachment.{Attachment}
use Rattle.sentry_base.specs.declared.protocol.envelope.Envelope.{Envelope}
use Rattle.sentry_base.specs.declared.protocol.envelope.EnvelopeHeaders.{EnvelopeHeaders}
use Rattle.sentry_base.specs.declared.protocol.envelope.EnvelopeItem.{EnvelopeItem}
use Rattle.sentry_base.specs.declared.protocol.envelope.EnvelopeItem.TheVariants as item
use Rattle.sentry_base.specs.declared.protocol.event.Event.{Event}
use Rattle.sentry_base.specs.declared.protocol.sdk.ClientSdkInfo.{ClientSdkInfo}
use Rattle.sentry_base.specs.declared.protocol.fresh.Fresh.{Fresh}
use Rattle.sentry_base.specs.declared.protocol.keys.ClientKey.{ClientKey}
use Rattle.sentry_base.specs.declared.protocol.keys.Label.{Label}
use Rattle.sentry_base.specs.declared.protocol.keys.SessionKey.{SessionKey}
use Rattle.sentry_base.specs.declared.protocol.losses.Reason.{Reason}
use Rattle.sentry_base.specs.declared.protocol.losses.Reason.TheVariants as reason
use Rattle.sentry_base.specs.declared.protocol.session.SessionUpdate.{SessionUpdate}
use Rattle.sentry_options.specs.Meanings.{Meanings, process_by_all, call_if_any}
use Rattle.sentry_options.specs.declared.clientoptions.ClientOptions.{ClientOptions}
use Rattle.sentry_options.specs.declared.clientoptions.choices.EventSamplingStrategy.{EventSamplingStrategy}
use Rattle.sentry_options.specs.declared.clientoptions.choices.EventSamplingStrategy.TheVariants.{FixedRate}
use Rattle.sentry_client_reports.specs.LossBooks.{LossEntry, report_point}
use Rattle.sentry_scope.specs.declared.scope.Scope.{Scope}
use Rattle.sentry_sessions.specs.Sessions.{SessionEntry, SessionEnd, event_reached, handed_out, end_of, end_status, hand_out, pending_update}
use Rattle.sentry_pipeline.specs.Pipeline.{Prepared, continue_or_drop, fill_if_any, process_if_any, sample, loss_reason, with_id, with_sdk, with_defaults}
use Rattle.sentry_pipeline.specs.Pipeline as pipeline
use Rattle.sentry_pipeline.specs.declared.pipeline.Place.{Place}
use Rattle.sentry_pipeline.specs.declared.pipeline.Place.TheVariants.{EventProcessor, Integration, BeforeSend}
use Rattle.sentry_pipeline.specs.declared.pipeline.Preparation.TheVariants.{Kept, SampledOut, Dropped}
use Rattle.sentry_span_table.specs.declared.table.records.SpanTable.{SpanTable}
use Rattle.sentry_state.specs.declared.state.ClientState.{ClientState}
use Rattle.sentry_hub_table.specs.declared.hub.HubState.{HubState}
use Rattle.sentry_state.specs.Worlds.{World, ClientHistory, SessionHistory, stored_client, stored_session}
use Rattle.sentry_state.specs.Outcomes.{client_at, session_at}
use Rattle.sentry_state.specs.Books.{pending_report, with_entry_if_any}
use Rattle.sentry_events.specs.Captures.{Capture, capture, capture_of_prepared, event_loss, capture_entry, event_to_send, captured_envelopes, with_update, with_attachments, capture_session, with_reached, takes_update, SessionCapture, capture_named_session, captured_update, with_captured_session}
use Rattle.sentry_laws.specs.Statuses.{status_of}
use Rattle.sentry_laws.proofs.Changes.{Changes, IsOfHeld, ItemIsOfHeld, AreOfHeld, ItemIsOfTransaction, AreOfTransactions, nothing, one, both, mails, loses, changes_session, is_batch_or_report}
use Rattle.sentry_laws.proofs.Tables.{own_replaced}
use Rattle.sentry_laws.proofs.Trails.{found_under}
use Rattle.sentry_laws.proofs.SendingTrails.{pending_told}

-- an event is sent with the pending report, or lost, or neither, and only an occupied slot sends
pub data Fate (occupied : Bool) : Option Event → Option LossEntry → Type 0 where
  ignored : Fate occupied None None
  lost : (reason : Reason) → Fate occupied None (Some (event_loss reason))
  goes : (event : Event) → occupied ≡ true → Fate occupied (Some event) (Some report_point)

abbrev PreparedWell : Prepared → Type 0
PreparedWell prepared = Fate true (event_to_send prepared.preparation prepared.event)
    (Some (capture_entry (loss_reason prepared.preparation)))

dropped_well : (place : Place) → PreparedWell (record { preparation = Dropped place; event = None })
dropped_well EventProcessor = lost reason.EventProcessor
dropped_well Integration = lost reason.EventProcessor
dropped_well BeforeSend = lost reason.BeforeSend

continued_well : (place : Place) (o : Option Event) (go : Event → Prepared)
    → ((event : Event) → PreparedWell (go event)) → PreparedWell (continue_or_drop place o go)
continued_well place None go h = dropped_well place
continued_well place (Some event) go h = h event

sampled_well : (b : Bool) (event : Event) → PreparedWell (record {
  preparation = if b then Kept else SampledOut;
  event =
      Some event;
})
sampled_well true event = goes event refl
sampled_well false event = lost reason.SampleRate

strategy_well : (strategy : EventSamplingStrategy) (draw : ℕ) (event : Event)
    → PreparedWell (record { preparation = sample strategy draw; event = Some event })
strategy_well (FixedRate rate) draw event = sampled_well (nat_lt draw rate) event

module _ {P C : Type 0} (gives : P → Partial) (meanings : C → Meanings) where
  prepared_well : (spans : SpanTable) (options : ClientOptions C) (sdk : ClientSdkInfo) (scope : Option (Scope P))
      (fresh : Fresh) (event : Event)
      → PreparedWell (pipeline.prepare_event gives meanings spans options sdk scope fresh event)
  unfolding pipeline.prepare_event
  prepared_well spans options sdk scope fresh event =
      let client = meanings options.callbacks in
      let identified = with_sdk sdk (with_id fresh.uuid event) in
      continued_well EventProcessor (process_if_any gives scope (fill_if_any spans scope identified)) _ (λ processed.
      continued_well Integration (process_by_all client.integrations options.plain processed) _ (λ integrated.
      continued_well BeforeSend (call_if_any client.before_send (with_defaults options.plain integrated)) _ (λ made.
      strategy_well options.plain.event_sampling_strategy fresh.draw made)))

  captured-by : (b : Bool) (prepared : Prepared) → PreparedWell prepared
      → Fate b (if b then capture_of_prepared prepared else record { reached = None; event = None; entry = None }).event
      (if b then capture_of_prepared prepared else record { reached = None; event = None; entry = None }).entry
  captured-by true prepared h = h
  captured-by false prepared h = ignored

  pub fate_of : (spans : SpanTable) (client : ClientState C) (scope : Option (Scope P)) (fresh : Fresh) (event : Event)
      → Fate client.occupied (capture gives meanings spans client scope fresh event).event
      (capture gives meanings spans client scope fresh event).entry
  unfolding capture
  fate_of spans client scope fresh event =
      captured-by client.occupied _ (prepared_well spans client.options client.sdk scope fresh event)

-- ---- no batch is in the envelope of an event

any_more : (items : List EnvelopeItem) (added : EnvelopeItem) → list_any is_batch_or_report items ≡ false
    → is_batch_or_report added ≡ false → list_any is_batch_or_report (items ++ added ∷ []) ≡ false
any_more [] added h k = ap (λ b. b || false) k
any_more (first ∷ rest) added h k = any_first (is_batch_or_report first) (list_any is_batch_or_report rest) _ h
    (λ g. any_more rest added g k)
  where
    any_first : (b c d : Bool) → (b || c) ≡ false → (c ≡ false → d ≡ false) → (b || d) ≡ false
    any_first true c d h g = h
    any_first false c d h g = g h

attached : (attachments : List Attachment) (envelope : Envelope) → list_any is_batch_or_report envelope.items ≡ false
    → list_any is_batch_or_report (with_attachments attachments envelope).items ≡ false
attached [] envelope h = h
attached (attachment ∷ rest) envelope h = attached rest (with_item envelope (item.Attachment attachment))
    (any_more envelope.items (item.Attachment attachment) h refl)

updated : (update : Option SessionUpdate) (event : Event) → list_any is_batch_or_report
    (with_update update (with_item empty_envelope (item.Event event))).items ≡ false
updated None event = refl
updated (Some update) event = refl

-- ---- the update of a session goes along with an event

module _ {P C : Type 0} (world : World P C) where
  held_more : (items : List EnvelopeItem) (added : EnvelopeItem) → AreOfHeld world items → ItemIsOfHeld world added
      → AreOfHeld world (items ++ added ∷ [])
  held_more [] added h k = (k, tt)
  held_more (first ∷ rest) added h k = (h.0, held_more rest added h.1 k)

  held_attached : (attachments : List Attachment) (envelope : Envelope) → AreOfHeld world envelope.items
      → AreOfHeld world (with_attachments attachments envelope).items
  held_attached [] envelope h = h
  held_attached (attachment ∷ rest) envelope h = held_attached rest (with_item envelope (item.Attachment attachment))
      (held_more envelope.items (item.Attachment attachment) h tt)

  held_updated : (update : Option SessionUpdate) (event : Event)
      → ((told : SessionUpdate) → update ≡ Some told → IsOfHeld world told)
      → AreOfHeld world (with_update update (with_item empty_envelope (item.Event event))).items
  held_updated None event h = (tt, tt)
  held_updated (Some update) event h = (tt, (h update refl, tt))

-- ---- no transaction goes along with an event

module _ {P C : Type 0} (world : World P C) (header : EnvelopeHeaders) where
  of_more : (items : List EnvelopeItem) (added : EnvelopeItem) → AreOfTransactions world header items
      → ItemIsOfTransaction world header added → AreOfTransactions world header (items ++ added ∷ [])
  of_more [] added h k = (k, tt)
  of_more (first ∷ rest) added h k = (h.0, of_more rest added h.1 k)

  of_attached : (attachments : List Attachment) (envelope : Envelope) → AreOfTransactions world header envelope.items
      → AreOfTransactions world header (with_attachments attachments envelope).items
  of_attached [] envelope h = h
  of_attached (attachment ∷ rest) envelope h =
      of_attached rest (with_item envelope (item.Attachment attachment))
      (of_more envelope.items (item.Attachment attachment) h tt)

  of_updated : (update : Option SessionUpdate) (event : Event)
      → AreOfTransactions world header (with_update update (with_item empty_envelope (item.Event event))).items
  of_updated None event = (tt, tt)
  of_updated (Some update) event = (tt, (tt, tt))

module _ {P C : Type 0} (meanings : C → Meanings) (given : Option Envelope) where
  -- the envelopes of a capture and its entry in the book
  pub captures : given ≡ None → (world : World P C) (key : ClientKey) (client : ClientHistory C)
      → client_at world key ≡ Some client
      → (update : Option SessionUpdate) (attachments : List Attachment) (event : Option Event)
      (entry : Option LossEntry) → Fate client.occupied event entry
      → ((told : SessionUpdate) → update ≡ Some told → IsOfHeld world told)
      → Changes meanings given world [] (captured_envelopes key update attachments (pending_report world client.label)
      event) (with_entry_if_any world client.label entry)
  captures own world key client found update attachments event entry ignored held = nothing world
  captures own world key client found update attachments event entry (lost reason) held =
      one (loses world key client _ found)
  captures own world key client found update attachments event entry (goes sent occupied) held =
      one (mails world key client _ found occupied (inr (own, attached attachments _ (updated update sent)))
      (λ none. (
        held_attached world attachments _ (held_updated world update sent held),
        let first = with_update update (with_item empty_envelope (item.Event sent)) in
            let header = (with_attachments attachments first).header in
            of_attached world header attachments first (of_updated world header update sent),
      )))

  pub loses_if_any : (world : World P C) (key : ClientKey) (client : ClientHistory C) → client_at world key ≡ Some client
      → (reason : Option Reason)
      → Changes meanings given world [] [] (with_entry_if_any world client.label (option_map event_loss reason))
  loses_if_any world key client found None = nothing world
  loses_if_any world key client found (Some reason) = one (loses world key client _ found)

-- ---- sessions that events reach

abbrev IsLater : SessionHistory → SessionHistory → Type 0
IsLater old new = (later : List SessionEntry) × (new ≡ record old { history = later ++ old.history })

handed_later : (b : Bool) (before : SessionHistory) (later : List SessionEntry)
    → IsLater before (record before {
      history = if b then handed_out ∷ (later ++ before.history) else later
          ++ before.history;
    })
handed_later true before later = (handed_out ∷ later, refl)
handed_later false before later = (later, refl)

captured_later : (takes : Bool) (reached : Option Event) (before : SessionHistory)
    → IsLater before (capture_session takes reached before).after
unfolding capture_session
captured_later true None before = handed_later (stored_session before).dirty before []
captured_later true (Some event) before = handed_later (stored_session (with_reached (Some event) before)).dirty before
    (event_reached event ∷ [])
captured_later false None before = ([], refl)
captured_later false (Some event) before = (event_reached event ∷ [], refl)

module _ {P C : Type 0} where
  entry_sessions : (world : World P C) (label : Label) (entry : Option LossEntry)
      → (with_entry_if_any world label entry).sessions ≡ world.sessions
  entry_sessions world label None = refl
  entry_sessions world label (Some entry) = refl

  entry_hubs : (world : World P C) (label : Label) (entry : Option LossEntry)
      → (with_entry_if_any world label entry).hubs ≡ world.hubs
  entry_hubs world label None = refl
  entry_hubs world label (Some entry) = refl

  session_hubs : (world : World P C) (name : Option SessionKey) (captured : Option SessionCapture)
      → (with_captured_session world name captured).hubs ≡ world.hubs
  session_hubs world None captured = refl
  session_hubs world (Some key) None = refl
  session_hubs world (Some key) (Some captured) = refl

  -- the hub of a capture is found after it
  pub found_captured : (world : World P C) (label : Label) (entry : Option LossEntry) (name : Option SessionKey)
      (captured : Option SessionCapture) (number : ℕ) (hub : HubState P)
      → value_at world.hubs number ≡ Some hub
      → value_at (with_captured_session (with_entry_if_any world label entry) name captured).hubs number ≡ Some hub
  found_captured world label entry name captured number hub found =
      ap (λ hubs. value_at hubs number) (session_hubs (with_entry_if_any world label entry) name captured
      ∙ entry_hubs world label entry) ∙ found

module _ {P C : Type 0} (meanings : C → Meanings) (given : Option Envelope) where
  captured-found : (world middle : World P C) (key : SessionKey) (takes : Bool) (reached : Option Event)
      (o : Option SessionHistory) → session_at world key ≡ o → middle.sessions ≡ world.sessions
      → Changes meanings given middle [] []
      (with_captured_session middle (Some key) (option_map (capture_session takes reached) o))
  captured-found world middle key takes reached None found same = nothing middle
  captured-found world middle key takes reached (Some before) found same =
      let later = captured_later takes reached before in
      one (changes_session middle key.number before _ later.0 (ap (λ sessions. value_at sessions key.number) same
      ∙ found_under world.tag world.sessions key.tag key.number before found) later.1)

  pub captures_session : (world : World P C) (label : Label) (entry : Option LossEntry) (name : Option SessionKey)
      (client : ClientState C) (made : Capture)
      → Changes meanings given (with_entry_if_any world label entry) [] []
      (with_captured_session (with_entry_if_any world label entry) name (capture_named_session world name client made))
  captures_session world label entry None client made = nothing _
  captures_session world label entry (Some key) client made =
      captured-found world (with_entry_if_any world label entry) key (takes_update client made) made.reached
      (session_at world key) refl (entry_sessions world label entry)

-- ---- the update of a captured session

-- a hand-out leaves the status
handed_status : (b : Bool) (history : List SessionEntry)
    → end_status (end_of (if b then handed_out ∷ history else history)) ≡ end_status (end_of history)
handed_status true history = ap end_status (no_end (end_of history))
  where
    no_end : (end : Option SessionEnd) → option_or end None ≡ end
    no_end None = refl
    no_end (Some end) = refl
handed_status false history = refl

handed_told : (session : SessionHistory) (update : SessionUpdate)
    → pending_update (stored_session session) ≡ Some update
    → (session.start.session_id ≡ update.session_id)
    × (end_status (end_of (hand_out (stored_session session) session.history)) ≡ update.status)
handed_told session update e =
    let told_ = pending_told session.start session.history update e in
    (told_.0, handed_status (stored_session session).dirty session.history ∙ told_.1)

captured_told : (takes : Bool) (reached : Option Event) (before : SessionHistory) (update : SessionUpdate)
    → (capture_session takes reached before).update ≡ Some update
    → ((capture_session takes reached before).after.start.session_id ≡ update.session_id)
    × (status_of (capture_session takes reached before).after ≡ update.status)
unfolding capture_session
captured_told true reached before update e = handed_told (with_reached reached before) update e
captured_told false reached before update e = absurd cc

module _ {P C : Type 0} where
  along_told : (world : World P C) (key : SessionKey) (takes : Bool) (reached : Option Event) (o : Option SessionHistory)
      → session_at world key ≡ o → (update : SessionUpdate)
      → captured_update (option_map (capture_session takes reached) o) ≡ Some update
      → IsOfHeld (with_captured_session world (Some key) (option_map (capture_session takes reached) o)) update
  along_told world key takes reached None found update e = absurd cc
  along_told world key takes reached (Some before) found update e =
      let told_ = captured_told takes reached before update e in
      let here = found_under world.tag world.sessions key.tag key.number before found in (
        key.number,
        (capture_session takes reached before).after,
        own_replaced world.sessions key.number (capture_session takes reached before).after before here,
        told_.0,
        told_.1,
      )

  update_told : (world : World P C) (name : Option SessionKey) (client : ClientState C) (made : Capture)
      (update : SessionUpdate) → captured_update (capture_named_session world name client made) ≡ Some update
      → IsOfHeld (with_captured_session world name (capture_named_session world name client made)) update
  update_told world None client made update e = absurd cc
  update_told world (Some key) client made update e =
      along_told world key (takes_update client made) made.reached (session_at world key) refl update e

  client_beside : (world : World P C) (name : Option SessionKey) (captured : Option SessionCapture) (key : ClientKey)
      → client_at (with_captured_session world name captured) key ≡ client_at world key
  client_beside world None captured key = refl
  client_beside world (Some name) None key = refl
  client_beside world (Some name) (Some captured) key = refl

  report_beside : (world : World P C) (name : Option SessionKey) (captured : Option SessionCapture) (label : Label)
      → pending_report (with_captured_session world name captured) label ≡ pending_report world label
  report_beside world None captured label = refl
  report_beside world (Some name) None label = refl
  report_beside world (Some name) (Some captured) label = refl

  entry_beside : (world : World P C) (name : Option SessionKey) (captured : Option SessionCapture) (label : Label)
      (entry : Option LossEntry)
      → with_entry_if_any (with_captured_session world name captured) label entry
      ≡ with_captured_session (with_entry_if_any world label entry) name captured
  entry_beside world None captured label entry = refl
  entry_beside world (Some name) None label entry = refl
  entry_beside world (Some name) (Some captured) label None = refl
  entry_beside world (Some name) (Some captured) label (Some entry) = refl

module _ {P C : Type 0} (meanings : C → Meanings) (given : Option Envelope) where
  -- a capture on a hub: what reaches the session, and then the envelopes and the entry in the book
  pub captures_with_session : given ≡ None → (world : World P C) (key : ClientKey) (client : ClientHistory C)
      → client_at world key ≡ Some client → (name : Option SessionKey) (attachments : List Attachment) (made : Capture)
      → Fate client.occupied made.event made.entry
      → Changes meanings given world []
      (captured_envelopes key (captured_update (capture_named_session world name (stored_client client) made)) attachments
      (pending_report world client.label) made.event)
      (with_captured_session (with_entry_if_any world client.label made.entry) name
      (capture_named_session world name (stored_client client) made))
  captures_with_session own world key client found name attachments made fate =
      let captured = capture_named_session world name (stored_client client) made in
      let middle = with_captured_session world name captured in
      subst (λ (w : World P C). Changes meanings given world [] (captured_envelopes key (captured_update captured)
      attachments (pending_report world client.label) made.event) w)
      (entry_beside world name captured client.label made.entry)
      (subst (λ report. Changes meanings given world [] (captured_envelopes key (captured_update captured) attachments
      report made.event) (with_entry_if_any middle client.label made.entry))
      (report_beside world name captured client.label)
      (both (captures_session meanings given world client.label None name (stored_client client) made)
      (captures meanings given own middle key client (client_beside world name captured key ∙ found)
      (captured_update captured) attachments made.event made.entry fate
      (update_told world name (stored_client client) made))))
