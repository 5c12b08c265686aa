-- What becomes of a captured event: whether it is sent, with which report, and what is lost.
use Rattle.std.specs.Prelude.{ℕ, Bool, true, false, ◌&&◌, Option, Some, None, option_map, is_some, List, [], ◌∷◌, if◌then◌else◌}
use Rattle.sentry_plain.specs.Texts.{Bytes}
use Rattle.sentry_base.specs.Events.{new_event, nil_id}
use Rattle.sentry_base.specs.Envelopes.{empty_envelope, with_item}
use Rattle.sentry_base.specs.Losses.{loss_of}
use Rattle.sentry_base.specs.declared.protocol.client_report.ClientReport.{ClientReport}
use Rattle.sentry_base.specs.declared.protocol.keys.ClientKey.{ClientKey}
use Rattle.sentry_base.specs.declared.protocol.attachment.Attachment.{Attachment}
use Rattle.sentry_base.specs.declared.protocol.event.Event.{Event}
use Rattle.sentry_base.specs.declared.protocol.envelope.Envelope.{Envelope}
use Rattle.sentry_base.specs.declared.protocol.envelope.EnvelopeItem.TheVariants as item
use Rattle.sentry_base.specs.declared.protocol.fresh.Fresh.{Fresh}
use Rattle.sentry_base.specs.declared.protocol.level.Level.{Level}
use Rattle.sentry_base.specs.declared.protocol.losses.Category.TheVariants as category
use Rattle.sentry_base.specs.declared.protocol.losses.Reason.{Reason}
use Rattle.sentry_base.specs.declared.protocol.keys.SessionKey.{SessionKey}
use Rattle.sentry_base.specs.declared.protocol.session.SessionUpdate.{SessionUpdate}
use Rattle.sentry_plain.specs.Tables.{replace_at}
use Rattle.sentry_scope.specs.declared.scope.Scope.{Scope}
use Rattle.sentry_base.specs.Callbacks.{Partial}
use Rattle.sentry_options.specs.Meanings.{Meanings}
use Rattle.sentry_options.specs.declared.clientoptions.choices.SessionMode.{SessionMode}
use Rattle.sentry_options.specs.declared.clientoptions.choices.SessionMode.TheVariants.{Application, Request}
use Rattle.sentry_client_reports.specs.LossBooks.{LossEntry, engine_losses, report_point}
use Rattle.sentry_pipeline.specs.Pipeline.{Prepared, prepare_event, loss_reason}
use Rattle.sentry_pipeline.specs.declared.pipeline.Preparation.{Preparation}
use Rattle.sentry_pipeline.specs.declared.pipeline.Preparation.TheVariants.{Kept, SampledOut, Dropped}
use Rattle.sentry_span_table.specs.declared.table.records.SpanTable.{SpanTable}
use Rattle.sentry_state.specs.declared.state.ClientState.{ClientState}
use Rattle.sentry_sessions.specs.declared.session.record.Session.{Session}
use Rattle.sentry_sessions.specs.Sessions.{event_reached, hand_out, pending_update}
use Rattle.sentry_state.specs.Books.{pending_report, with_entry_if_any}
use Rattle.sentry_base.specs.Envelopes.{with_report}
use Rattle.sentry_state.specs.Outcomes.{named_session, Outcome, require_some, let_some, reply_with, hub_at, stored_client_at, with_hub}
use Rattle.sentry_state.specs.Changes.{with_session_entry}
use Rattle.sentry_state.specs.Worlds.{World, SessionHistory, stored_session, span_table}
use Rattle.sentry_base.specs.declared.protocol.keys.HubKey.{HubKey}
use Rattle.sentry_base.specs.declared.protocol.refusal.Refusal.TheVariants.{Stale}
use Rattle.std.specs.Option.{option_map, is_some}

-- an event that is lost for a reason
abbrev pub event_loss : Reason → LossEntry
event_loss reason = engine_losses (loss_of category.Error reason 1)

-- the entry of a capture: the pending report is sent along with an event, and an event that is not sent is lost
abbrev pub capture_entry : Option Reason → LossEntry
capture_entry None = report_point
capture_entry (Some reason) = event_loss reason

-- the event that is to be sent, if it is
abbrev pub event_to_send : Preparation → Option Event → Option Event
event_to_send Kept event = event
event_to_send SampledOut event = None
event_to_send (Dropped place) event = None

-- the same, where there was a preparation
abbrev pub sent_event : Option Preparation → Option Event → Option Event
sent_event None event = None
sent_event (Some preparation) event = event_to_send preparation event

-- what a capture comes to: the event that came through all callbacks, the event that is sent, and the entry in the
-- book of the client's label
pub record Capture : Type 0 where
  pub reached : Option Event
  pub event : Option Event
  pub entry : Option LossEntry

abbrev pub capture_of_prepared : Prepared → Capture
capture_of_prepared prepared = record {
  reached = prepared.event;
  event = event_to_send prepared.preparation prepared.event;
  entry = Some (capture_entry (loss_reason prepared.preparation));
}

-- on an empty slot nothing runs, and nothing is lost
unfoldable pub capture : {P C : Type 0}
    → (P → Partial) → (C → Meanings) → SpanTable → ClientState C → Option (Scope P) → Fresh → Event → Capture
capture gives meanings spans client scope fresh event =
    if client.occupied then capture_of_prepared (prepare_event gives meanings spans client.options client.sdk scope fresh event)
    else record { reached = None; event = None; entry = None }

-- the id that a capture replies: that of the event that is sent, or the nil one
abbrev pub captured_id : Option Event → List ℕ
captured_id None = nil_id
captured_id (Some event) = event.event_id

-- ---- the session of a capture

-- the session after a capture: an event that came through all callbacks reaches it, whether or not it is then sent
abbrev pub with_reached : Option Event → SessionHistory → SessionHistory
with_reached None session = session
with_reached (Some event) session = with_session_entry (event_reached event) session

abbrev pub is_application : SessionMode → Bool
is_application Application = true
is_application Request = false

-- an event that is sent takes along what the server is to be told of the session, in the mode of applications
abbrev pub takes_update : {C : Type 0} → ClientState C → Capture → Bool
takes_update client made = is_some made.event && is_application client.options.plain.session_mode

-- the update that goes out with an event, and the session after it
pub record SessionCapture : Type 0 where
  pub update : Option SessionUpdate
  pub after : SessionHistory

unfoldable pub capture_session : Bool → Option Event → SessionHistory → SessionCapture
capture_session takes reached before =
    let session = with_reached reached before in
    if takes then record {
      update = pending_update (stored_session session);
      after = record session { history = hand_out (stored_session session) session.history };
    } else record { update = None; after = session }

-- the update of a captured session, if there is one
abbrev pub captured_update : Option SessionCapture → Option SessionUpdate
captured_update None = None
captured_update (Some captured) = captured.update

-- what an engine stores of a captured session
abbrev pub session_after : Option SessionCapture → Option Session
session_after captured = option_map (λ found. stored_session found.after) captured

module _ {P C : Type 0} where
  -- the session that a layer names, after a capture
  abbrev pub capture_named_session :
      World P C → Option SessionKey → ClientState C → Capture → Option SessionCapture
  capture_named_session world name client made =
      option_map (capture_session (takes_update client made) made.reached) (named_session world name)

  -- the world with the session that a layer names as it is after the capture
  abbrev pub with_captured_session : World P C → Option SessionKey → Option SessionCapture → World P C
  with_captured_session world None captured = world
  with_captured_session world (Some key) None = world
  with_captured_session world (Some key) (Some captured) =
      record world { sessions = replace_at world.sessions key.number captured.after }

-- ---- the envelopes of a capture

-- the envelope with a session's update as its last item, if there is one
abbrev pub with_update : Option SessionUpdate → Envelope → Envelope
with_update None envelope = envelope
with_update (Some update) envelope = with_item envelope (item.SessionUpdate update)

-- the attachments of a scope, if there is one
abbrev pub attachments_of : {P : Type 0} → Option (Scope P) → List Attachment
attachments_of None = []
attachments_of (Some scope) = scope.attachments

-- the envelope with attachments as its last items
abbrev pub with_attachments : List Attachment → Envelope → Envelope
with_attachments [] envelope = envelope
with_attachments (attachment ∷ rest) envelope = with_attachments rest (with_item envelope (item.Attachment attachment))

-- the envelopes of a capture: the event, the update of the session, the attachments, and the pending report as the last
-- item
abbrev pub captured_envelopes : ClientKey → Option SessionUpdate → List Attachment → Option ClientReport → Option Event
    → List (ClientKey × Envelope)
captured_envelopes key update attachments report None = []
captured_envelopes key update attachments report (Some event) = (
  key,
  with_report report (with_attachments attachments
      (with_update update (with_item empty_envelope (item.Event event)))),
) ∷ []

-- an event of this message and level
abbrev pub message_event : Bytes → Level → List ℕ → ℕ → Event
message_event message level id now = record (new_event id now) { message = Some message; level = level }

-- ---- a capture on a hub

module _ {P C : Type 0} where
  -- an event on a hub, under the client of its top layer: without one nothing happens, and with one the id of what is
  -- sent becomes the last event id
  unfoldable pub capture_event : (P → Partial) → (C → Meanings) → HubKey → Event → Fresh → World P C
      → Outcome P C (List ℕ)
  capture_event gives meanings key event fresh world =
      require_some Stale world (hub_at world key) (λ hub.
      let_some hub.stack.top.client (reply_with nil_id [] world) (λ client_key.
      let_some (stored_client_at world client_key) (reply_with nil_id [] world) (λ client.
      let made = capture gives meanings (span_table world) client (Some hub.stack.top.scope) fresh event in
      let id = captured_id made.event in
      let session = capture_named_session world hub.stack.top.session client made in
      reply_with id
      (captured_envelopes client_key (captured_update session) hub.stack.top.scope.attachments
      (pending_report world client.label) made.event)
      (with_hub (with_captured_session (with_entry_if_any world client.label made.entry) hub.stack.top.session session)
      key (record hub { last_event_id = Some id })))))
