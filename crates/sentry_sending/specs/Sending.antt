-- How envelopes leave a client: from an occupied slot alone, and with the pending report of its label; and how a session
-- starts and ends.
use Rattle.std.specs.Prelude.{◌≡◌, Bool, Option, Some, None, List, [], ◌∷◌, if◌then◌else◌, ℕ}
use Rattle.sentry_base.specs.declared.protocol.client_report.ClientReport.{ClientReport}
use Rattle.sentry_base.specs.declared.protocol.envelope.Envelope.{Envelope}
use Rattle.sentry_base.specs.declared.protocol.keys.ClientKey.{ClientKey}
use Rattle.sentry_base.specs.declared.protocol.keys.Label.{Label}
use Rattle.sentry_client_reports.specs.LossBooks.{report_point}
use Rattle.sentry_state.specs.Books.{pending_report, with_entry}
use Rattle.sentry_base.specs.Envelopes.{with_report}
use Rattle.sentry_state.specs.Outcomes.{Outcome, reply_with, client_at, session_at}
use Rattle.sentry_state.specs.declared.state.State.{State}
use Rattle.sentry_state.specs.Worlds.{World, ClientHistory, Stands}
use Rattle.sentry_plain.specs.Tables.{replace_at, without}
use Rattle.sentry_base.specs.declared.protocol.keys.SessionKey.{SessionKey}
use Rattle.sentry_base.specs.declared.protocol.session.SessionStatus.{SessionStatus}
use Rattle.sentry_base.specs.declared.protocol.session.SessionUpdate.{SessionUpdate}
pub use Rattle.sentry_hub_table.specs.Hubs.{is_session_named}
use Rattle.sentry_sessions.specs.SessionQueues.{enqueued, envelopes_on}
use Rattle.sentry_sessions.specs.Sessions.{closed, session_of, pending_update}
use Rattle.sentry_hub_table.specs.declared.hub.HubState.{HubState}
use Rattle.sentry_state.specs.Changes.{with_client_history, with_client_entry, with_new_session, with_next_session_named}
use Rattle.sentry_hub_table.specs.Hubs.{with_session}
use Rattle.sentry_sessions.specs.declared.session.record.SessionStart.{SessionStart}

-- what is handed out, and the world after it
pub record Sending (P C : Type 0) : Type 0 where
  pub sent : List (ClientKey × Envelope)
  pub after : World P C

-- envelopes of a client; the first takes the report, if there is one, as its last item
abbrev pub for_client : ClientKey → Option ClientReport → List Envelope → List (ClientKey × Envelope)
for_client key report [] = []
for_client key report (first ∷ rest) = (key, with_report report first) ∷ for_client key None rest

-- the report that is left for further envelopes, after these
abbrev pub report_left : Option ClientReport → List (ClientKey × Envelope) → Option ClientReport
report_left report [] = report
report_left report (first ∷ rest) = None

-- what leaves a slot: nothing, where it is empty
abbrev pub envelopes_from : Bool → ClientKey → Option ClientReport → List Envelope → List (ClientKey × Envelope)
envelopes_from occupied key report envelopes = if occupied then for_client key report envelopes else []

module _ {P C : Type 0} where
  -- these are the envelopes that the function sends, in every world that the engine stood for, and the engine stands
  -- for the world after them
  abbrev pub Sends : State P C → State P C → List (ClientKey × Envelope) → (World P C → Sending P C) → Type 0
  Sends old new sent sending =
      (world : World P C) → Stands old world → (sent ≡ (sending world).sent) × Stands new (sending world).after

  abbrev pub send_nothing : World P C → Sending P C
  send_nothing world = record { sent = []; after = world }

  -- goes on with the value that is there, or sends nothing
  abbrev pub send_some : {X : Type 0} → World P C → Option X → (X → Sending P C) → Sending P C
  send_some world None go = send_nothing world
  send_some world (Some x) go = go x

  -- once something was sent, the losses of the label count as reported
  abbrev pub after_sending : Label → List (ClientKey × Envelope) → World P C → World P C
  after_sending label [] world = world
  after_sending label (first ∷ rest) world = with_entry world label report_point

  -- the envelopes of a client are sent, if its slot is occupied, and else dropped
  abbrev pub send : ClientKey → ClientHistory C → List Envelope → World P C → Sending P C
  send key client envelopes world =
      let sent = envelopes_from client.occupied key (pending_report world client.label) envelopes in
      record { sent = sent; after = after_sending client.label sent world }

  abbrev pub reply_sending : {T : Type 0} → T → Sending P C → Outcome P C T
  reply_sending reply sending = reply_with reply sending.sent sending.after

-- ---- when a session ends, and what becomes of it

module _ {P C : Type 0} where
  -- the last update of a session is queued at a client, which may send all that waits; a closed client drops it
  unfoldable pub queue_update : ClientKey → SessionUpdate → World P C → Sending P C
  queue_update key update world =
      send_some world (client_at world key) (λ client.
      if client.closed then send_nothing world else
      send key client (envelopes_on client.options.plain.session_mode update client.queues.sessions)
      (with_client_history world key (with_client_entry (enqueued update) client)))

  -- the session is closed, what is to be told of it is queued at the client of its start, and it is no longer held
  unfoldable pub end_session : SessionKey → Option SessionStatus → ℕ → World P C → Sending P C
  end_session key status now world =
      send_some world (session_at world key) (λ session.
      let ended = session_of session.start (closed status now ∷ session.history) in
      let queued = send_some world (pending_update ended) (λ update. queue_update session.start.client update world) in
      record {
        sent = queued.sent;
        after = record queued.after { sessions = without queued.after.sessions key.number };
      })

  -- a session that a layer named ends where no layer of any hub names it any more
  unfoldable pub end_unnamed_session : Option SessionKey → ℕ → World P C → Sending P C
  end_unnamed_session name now world =
      send_some world name (λ key.
      if is_session_named key world.hubs then send_nothing world else end_session key None now world)

  -- the top layer of a hub gives up the session that it names, which ends where no other layer names it
  abbrev pub release_session : ℕ → HubState P → ℕ → World P C → Sending P C
  release_session number hub now world =
      end_unnamed_session hub.stack.top.session now
      (record world { hubs = replace_at world.hubs number (with_session hub None) })

-- ---- how a session starts in place of another

module _ {P C : Type 0} where
  -- a session starts under the next number; the top layer of a hub gives up the session that it named, and names this
  -- one
  abbrev pub replace_session : ℕ → HubState P → ℕ → SessionStart → World P C → Sending P C
  replace_session number hub now start world =
      let released = release_session number hub now (with_new_session start world) in
      record { sent = released.sent; after = with_next_session_named number hub released.after }
