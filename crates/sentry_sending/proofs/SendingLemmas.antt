-- What is sent of a session that ends.
use Rattle.std.proofs.Common.{◌≡◌, refl, sym, ap, ◌∙◌, ℕ, Bool, true, false, cond, ◌∷◌}
use Rattle.std.specs.Option.{option_map}
use Rattle.std.specs.Prelude.{Option, Some, None, is_some, ◌==◌, if◌then◌else◌}
use Rattle.sentry_base.specs.declared.protocol.keys.ClientKey.{ClientKey}
use Rattle.sentry_base.specs.declared.protocol.keys.SessionKey.{SessionKey}
use Rattle.sentry_base.specs.declared.protocol.session.SessionStatus.{SessionStatus}
use Rattle.sentry_base.specs.declared.protocol.session.SessionUpdate.{SessionUpdate}
use Rattle.sentry_plain.specs.Tables.{value_at, without}
use Rattle.sentry_sessions.specs.SessionQueues.{enqueued, envelopes_on}
use Rattle.sentry_sessions.specs.declared.session.record.Session.{Session}
use Rattle.sentry_sessions.specs.Sessions.{closed, session_of, pending_update}
use Rattle.sentry_state.specs.Outcomes.{client_at, named_session, session_at}
use Rattle.sentry_sending.specs.Sending.{Sending, send, send_nothing, send_some, queue_update, end_session, end_unnamed_session, is_session_named}
use Rattle.sentry_state.specs.Changes.{with_client_history, with_client_entry}
use Rattle.sentry_state.specs.Worlds.{World, ClientHistory, SessionHistory, Stands, stored_session}
use Rattle.sentry_state.specs.declared.state.State.{State}
use Rattle.sentry_state.proofs.Keeping.{session_in_world}

-- no session was found where none is kept
pub none_found : (o : Option SessionHistory) (kept : Option Session) → kept ≡ option_map stored_session o → is_some kept ≡ false → o ≡ None
none_found None kept is none = refl
none_found (Some session) kept is none = absurd (let here : true ≡ false = sym (ap is_some is) ∙ none in cc)

under_table : {X : Type 0} (b : Bool) (o : Option X) (x : X) → cond b o None ≡ Some x → o ≡ Some x
under_table true o x h = h
under_table false o x h = absurd cc

module _ {P C : Type 0} where
  -- a session of the world is held
  pub session_held : (state : State P C) (world : World P C) → Stands state world → (key : SessionKey) (session : SessionHistory)
      → session_at world key ≡ Some session → value_at state.sessions key.number ≡ Some (stored_session session)
  session_held state world s key session at =
      session_in_world state world s key.number
      ∙ ap (option_map stored_session) (under_table (key.tag == world.tag) (value_at world.sessions key.number) session at)

module _ {P C : Type 0} where
  -- an update that is queued at a client that is not closed
  pub queue_update_is : (key : ClientKey) (update : SessionUpdate) (world : World P C) (client : ClientHistory C)
      → client_at world key ≡ Some client → client.closed ≡ false
      → queue_update key update world
      ≡ send key client (envelopes_on client.options.plain.session_mode update client.queues.sessions)
      (with_client_history world key (with_client_entry (enqueued update) client))
  unfolding queue_update
  queue_update_is key update world client at going_on =
      let sending : ClientHistory C → Sending P C =
      λ found. send key found (envelopes_on found.options.plain.session_mode update found.queues.sessions)
      (with_client_history world key (with_client_entry (enqueued update) found)) in
      ap (λ found. send_some world found (λ (state : ClientHistory C). cond state.closed (send_nothing world) (sending state))) at
      ∙ ap (λ b. cond b (send_nothing world) (sending client)) going_on

  -- the world without a session
  abbrev pub forget : SessionKey → Sending P C → Sending P C
  forget key queued = record {
    sent = queued.sent;
    after = record queued.after { sessions = without queued.after.sessions key.number };
  }

  -- what becomes of a session that ends, where this is to be told of it
  abbrev tell : SessionKey → World P C → SessionHistory → Option SessionUpdate → Sending P C
  tell key world session told = forget key (send_some world told (λ update. queue_update session.start.client update world))

  ended_is : (key : SessionKey) (status : Option SessionStatus) (now : ℕ) (world : World P C) (session : SessionHistory) (told : Option SessionUpdate)
      → session_at world key ≡ Some session → pending_update (session_of session.start (closed status now ∷ session.history)) ≡ told
      → end_session key status now world ≡ tell key world session told
  unfolding end_session
  ended_is key status now world session told at pending =
      ap (λ found. send_some world found (λ (state : SessionHistory).
      tell key world state (pending_update (session_of state.start (closed status now ∷ state.history))))) at
      ∙ ap (tell key world session) pending

  -- a session that ends and of which something is to be told
  pub end_session_is : (key : SessionKey) (status : Option SessionStatus) (now : ℕ) (world : World P C) (session : SessionHistory) (update : SessionUpdate)
      → session_at world key ≡ Some session → pending_update (session_of session.start (closed status now ∷ session.history)) ≡ Some update
      → end_session key status now world ≡ forget key (queue_update session.start.client update world)
  end_session_is key status now world session update at pending = ended_is key status now world session (Some update) at pending

  -- a session that ends and of which nothing is to be told
  pub end_session_untold : (key : SessionKey) (status : Option SessionStatus) (now : ℕ) (world : World P C) (session : SessionHistory)
      → session_at world key ≡ Some session → pending_update (session_of session.start (closed status now ∷ session.history)) ≡ None
      → end_session key status now world ≡ forget key (send_nothing world)
  end_session_untold key status now world session at pending = ended_is key status now world session None at pending

  either_nothing : (b : Bool) (world : World P C) (ending : Sending P C) → ending ≡ send_nothing world
      → (if b then send_nothing world else ending) ≡ send_nothing world
  either_nothing true world ending is = refl
  either_nothing false world ending is = is

  ended_none : (key : SessionKey) (status : Option SessionStatus) (now : ℕ) (world : World P C) → session_at world key ≡ None
      → end_session key status now world ≡ send_nothing world
  unfolding end_session
  ended_none key status now world gone =
      ap (λ found. send_some world found (λ (state : SessionHistory).
      tell key world state (pending_update (session_of state.start (closed status now ∷ state.history))))) gone

  -- where a name's session is held no more, nothing ends
  pub ended_before : (name : Option SessionKey) (now : ℕ) (world : World P C) → named_session world name ≡ None
      → end_unnamed_session name now world ≡ send_nothing world
  unfolding end_unnamed_session
  ended_before None now world gone = refl
  ended_before (Some key) now world gone =
      either_nothing (is_session_named key world.hubs) world (end_session key None now world) (ended_none key None now world gone)
