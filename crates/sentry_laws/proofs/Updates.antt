-- Of the updates of one session, none that follows one with another status than `Ok` has another status.
use Rattle.std.proofs.Common.{◌≡◌, ◌≢◌, ◌≤◌, refl, ap, ◌∙◌, sym, subst, ℕ, zero, suc, ◌+◌, List, [], ◌∷◌, ◌++◌, Bool, true, false, append_assoc, arith, drop, length, ◌⊎◌, inl, inr}
use Rattle.std.proofs.lemmas.List.{append-nil}
use Rattle.std.specs.Prelude.{Option, Some, None, Result, Ok, Err, if◌then◌else◌, ◌==◌, ◌||◌, unwrap_or}
use Rattle.std.specs.List.{list_any, AllByRecursion}
use Rattle.std.specs.Option.{option_map}
use Rattle.sentry_plain.specs.Tables.{value_at, put, replace_at, without}
use Rattle.sentry_plain.proofs.NumberLemmas.{same_number}
use Rattle.sentry_base.specs.Callbacks.{Partial}
use Rattle.sentry_base.specs.Envelopes.{with_report}
use Rattle.sentry_base.specs.declared.protocol.client_report.ClientReport.{ClientReport}
use Rattle.sentry_base.specs.declared.protocol.envelope.Envelope.{Envelope}
use Rattle.sentry_base.specs.declared.protocol.envelope.EnvelopeItem.{EnvelopeItem}
use Rattle.sentry_base.specs.declared.protocol.envelope.EnvelopeItem.TheVariants as item
use Rattle.sentry_base.specs.declared.protocol.keys.ClientKey.{ClientKey}
use Rattle.sentry_base.specs.declared.protocol.keys.Label.{Label}
use Rattle.sentry_base.specs.declared.protocol.refusal.Refusal.{Refusal}
use Rattle.sentry_base.specs.declared.protocol.session.SessionStatus.TheVariants as session_status
use Rattle.sentry_base.specs.declared.protocol.session.SessionUpdate.{SessionUpdate}
use Rattle.sentry_options.specs.Meanings.{Meanings}
use Rattle.sentry_sessions.specs.Sessions.{SessionEntry, end_of, end_status, session_of}
use Rattle.sentry_sessions.specs.SessionQueues.{QueueEntry}
use Rattle.sentry_sessions.specs.declared.session.record.SessionStart.{SessionStart}
use Rattle.sentry_sessions.proofs.SessionLemmas.{ended_status_stays_is}
use Rattle.sentry_telemetry.specs.Flushes.{is_flushed, session_history}
use Rattle.sentry_telemetry.specs.declared.flushes.TheConstants.{SESSION_INTERVAL}
use Rattle.sentry_state.specs.declared.state.Out.{Out}
use Rattle.sentry_state.specs.Worlds.{World, ClientHistory, QueueHistories, SessionHistory, starting_world}
use Rattle.sentry_state.specs.Outcomes.{client_at}
use Rattle.sentry_state.specs.Clients.{clone_from}
use Rattle.sentry_state.specs.Books.{pending_report}
use Rattle.sentry_state.specs.Changes.{with_client_history, with_new_session}
use Rattle.sentry_sending.specs.Sending.{after_sending, envelopes_from, send}
use Rattle.sentry_calls.specs.declared.call.Call.{Call}
use Rattle.sentry_calls.specs.declared.call.Call.TheVariants as group
use Rattle.sentry_calls.specs.declared.call.clients.ClientCall.{ClientCall}
use Rattle.sentry_calls.specs.declared.call.clients.ClientCall.TheVariants.{AddClient, Absorb, Close, CloneClient, DropClient, TakeReport, ClientCaptureLog, ClientCaptureMetric}
use Rattle.sentry_calls.specs.declared.call.hubs.HubCall.{HubCall}
use Rattle.sentry_calls.specs.declared.call.hubs.HubCall.TheVariants.{NewHub, NewHubFromTop, ReleaseHub, Configure, AddBreadcrumbs, PushScope, PopScope, BindClient, StartSession, CaptureLog, CaptureMetric}
use Rattle.sentry_calls.specs.declared.call.Reply.{Reply}
use Rattle.sentry_calls.specs.declared.call.Reply.TheVariants as reply
use Rattle.sentry_calls.specs.Runs.{StepsTo, Run}
use Rattle.sentry_laws.specs.SentItems.{handed_in}
use Rattle.sentry_laws.specs.Statuses.{Among, status_of, GoesOn}
use Rattle.sentry_laws.specs.Updates.{updates_in, updates_sent, updates_among, all_queued, queued_at, queued_below, updates_told, StaysEnded, started_id, IsNotStarted, IsStartedOnce, StatusStays}
use Rattle.sentry_laws.proofs.Effects.{Came, Effect, session_named, session_begun, effects, client_effects, hub_effects}
use Rattle.sentry_laws.proofs.Changes.{Change, Changes, nothing, one, both, IsOfHeld, AreOfHeld, IsArrival, kind_of, Arrival, log_came, metric_came, session_ended, flush_came, after_arrival, envelopes_on_arrival, adds_client, clones_client, drops_client, arrives, accepts, accepts_none, mails, starts_none, starts_session, changes_session, ends_session}
use Rattle.sentry_laws.proofs.Found.{found_put, found_replaced, found_without, other_number}
use Rattle.sentry_laws.proofs.Keeping.{trail_of}
use Rattle.sentry_laws.proofs.Tests.{any_first, any_second}
use Rattle.sentry_laws.proofs.Numbered.{IsNumbered, numbered_changes, none_numbered}
use Rattle.sentry_laws.proofs.Trails.{found_under, own_effects, own_any}
use Rattle.sentry_laws.proofs.ToldUpdates.{among_append, among_dropped, among_reported, from_slot, ComesBy, sent_on_arrival}

-- ---- updates and sessions of one id

abbrev Ended : SessionUpdate → Type 0
Ended u = u.status ≢ session_status.Ok

module _ (id : List ℕ) where
  stays_unknown : (told : List SessionUpdate) → ((u : SessionUpdate) → Among u told → u.session_id ≢ id)
      → StaysEnded id told
  stays_unknown [] h = tt
  stays_unknown (first ∷ rest) h =
      (λ same. absurd (h first (inl refl) same), stays_unknown rest (λ u among. h u (inr among)))

  all_later : (u : SessionUpdate) (later : List SessionUpdate)
      → ((v : SessionUpdate) → Among v later → v.session_id ≡ id → v.status ≡ u.status)
      → AllByRecursion (λ (v : SessionUpdate). v.session_id ≡ id → v.status ≡ u.status) later
  all_later u [] h = tt
  all_later u (first ∷ rest) h = (h first (inl refl), all_later u rest (λ v among. h v (inr among)))

  all_joined : (u : SessionUpdate) (xs ys : List SessionUpdate)
      → AllByRecursion (λ (v : SessionUpdate). v.session_id ≡ id → v.status ≡ u.status) xs
      → AllByRecursion (λ (v : SessionUpdate). v.session_id ≡ id → v.status ≡ u.status) ys
      → AllByRecursion (λ (v : SessionUpdate). v.session_id ≡ id → v.status ≡ u.status) (xs ++ ys)
  all_joined u [] ys h k = k
  all_joined u (first ∷ rest) ys h k = (h.0, all_joined u rest ys h.1 k)

  -- each ended update among some has the status of each of the others
  abbrev Agree : List SessionUpdate → List SessionUpdate → Type 0
  Agree some others =
      (u v : SessionUpdate) → Among u some → u.session_id ≡ id → Ended u → Among v others → v.session_id ≡ id
      → v.status ≡ u.status

  stays_alone : (some : List SessionUpdate) → Agree some some → StaysEnded id some
  stays_alone [] h = tt
  stays_alone (first ∷ rest) h = (
    λ same ended. all_later first rest (λ v among is. h first v (inl refl) same ended (inr among) is),
    stays_alone rest (λ u v among is ended also same. h u v (inr among) is ended (inr also) same),
  )

  stays_joined : (some others : List SessionUpdate) → StaysEnded id some → Agree some others → Agree others others
      → StaysEnded id (some ++ others)
  stays_joined [] others h k l = stays_alone others l
  stays_joined (first ∷ rest) others h k l = (
    λ same ended. all_joined first rest others (h.0 same ended)
        (all_later first others (λ v among is. k first v (inl refl) same ended among is)),
    stays_joined rest others h.1 (λ u v among is ended also same. k u v (inr among) is ended also same) l,
  )

-- a status other than `Ok` stays, whatever comes
grown_status : (start : SessionStart) (history later : List SessionEntry)
    → end_status (end_of history) ≢ session_status.Ok
    → end_status (end_of (later ++ history)) ≡ end_status (end_of history)
unfolding session_of
grown_status start history later n = ended_status_stays_is start history later n

module _ {P C : Type 0} where
  -- the update waits, or waited, in the queue of a client
  abbrev pub IsQueued : World P C → SessionUpdate → Type 0
  IsQueued world u =
      (number : ℕ) × (client : ClientHistory C) × (value_at world.clients number ≡ Some client)
      × Among u (all_queued client.queues.sessions)

  -- a session with this id may have started
  abbrev pub HasBegun : List (Effect P C) → List ℕ → Type 0
  HasBegun [] id = ⊥
  HasBegun (session_begun number other ∷ rest) id = (other ≡ id) ⊎ HasBegun rest id
  HasBegun (_ ∷ rest) id = HasBegun rest id

-- a session that is held was held before, and went on, or it has a new number, and has begun
pub data IsFrom {P C : Type 0} (old : World P C) (some : List (Effect P C)) (number : ℕ) (session : SessionHistory)
    : Type 0 where
  went_on : (before : SessionHistory) → value_at old.sessions number ≡ Some before → GoesOn before session
      → IsFrom old some number session
  is_new : old.next.session ≤ number → HasBegun some session.start.session_id → IsFrom old some number session

module _ {P C : Type 0} where
  -- what a change does to sessions, and what updates it tells
  pub record Step (old new : World P C) (some : List (Effect P C)) (sent : List SessionUpdate) : Type 0 where
    pub later : old.next.session ≤ new.next.session
    pub from : (n : ℕ) (s : SessionHistory) → value_at new.sessions n ≡ Some s → IsFrom old some n s
    pub queued : (u : SessionUpdate) → IsQueued new u → IsQueued old u ⊎ (IsOfHeld old u × Ended u)
    pub told : (u : SessionUpdate) → Among u sent → IsQueued old u ⊎ IsOfHeld old u

module _ (id : List ℕ) {P C : Type 0} where
  -- it was handed out, or is in a queue
  abbrev WasTold : List SessionUpdate → World P C → SessionUpdate → Type 0
  WasTold told world u = Among u told ⊎ IsQueued world u

  -- what was told of the session with this id, and what is left of it
  record Agrees (told : List SessionUpdate) (world : World P C) : Type 0 where
    held : (n : ℕ) (s : SessionHistory) (u : SessionUpdate) → value_at world.sessions n ≡ Some s
        → s.start.session_id ≡ id → WasTold told world u → u.session_id ≡ id → Ended u → status_of s ≡ u.status
    same : (u v : SessionUpdate) → WasTold told world u → u.session_id ≡ id → Ended u → WasTold told world v
        → v.session_id ≡ id → Ended v → v.status ≡ u.status
    ended : (u : SessionUpdate) → IsQueued world u → u.session_id ≡ id → Ended u
    one_ : (n m : ℕ) (s t : SessionHistory) → value_at world.sessions n ≡ Some s → s.start.session_id ≡ id
        → value_at world.sessions m ≡ Some t → t.start.session_id ≡ id → n ≡ m
    stays : StaysEnded id told

  -- nothing was told of it, and it isn't held
  record IsUnknown (told : List SessionUpdate) (world : World P C) : Type 0 where
    unheld : (n : ℕ) (s : SessionHistory) → value_at world.sessions n ≡ Some s → s.start.session_id ≢ id
    untold : (u : SessionUpdate) → WasTold told world u → u.session_id ≢ id

  -- what is told by the way from one world to the next
  record Tells (old new : World P C) (sent : List SessionUpdate) : Type 0 where
    kept : (n : ℕ) (s : SessionHistory) → value_at new.sessions n ≡ Some s → s.start.session_id ≡ id
        → (before : SessionHistory) × (value_at old.sessions n ≡ Some before) × (before.start.session_id ≡ id)
        × (status_of before ≢ session_status.Ok → status_of s ≡ status_of before)
    queued : (u : SessionUpdate) → IsQueued new u → u.session_id ≡ id
        → IsQueued old u ⊎ (IsOfHeld old u × Ended u)
    told : (u : SessionUpdate) → Among u sent → u.session_id ≡ id → IsQueued old u ⊎ IsOfHeld old u

  agrees_unknown : (told : List SessionUpdate) (world : World P C) → IsUnknown told world → Agrees told world
  agrees_unknown told world a = record {
    held = λ n s u found same was is ended. absurd (a.unheld n s found same);
    same = λ u v was is ended also same more. absurd (a.untold u was is);
    ended = λ u queued is. absurd (a.untold u (inr queued) is);
    one_ = λ n m s t found same also is. absurd (a.unheld n s found same);
    stays = stays_unknown id told (λ u among. a.untold u (inl among));
  }

  -- ---- one step

  module _ (told : List SessionUpdate) (old new : World P C) (sent : List SessionUpdate) (t : Tells old new sent)
    where
      -- what was told by then was told before, or is of a session that was held
      before : (u : SessionUpdate) → WasTold (told ++ sent) new u → u.session_id ≡ id
          → WasTold told old u ⊎ IsOfHeld old u
      before u (inl among) is = by_place (among_append u told sent among)
        where
          by_queue : IsQueued old u ⊎ IsOfHeld old u → WasTold told old u ⊎ IsOfHeld old u
          by_queue (inl queued) = inl (inr queued)
          by_queue (inr held) = inr held

          by_place : Among u told ⊎ Among u sent → WasTold told old u ⊎ IsOfHeld old u
          by_place (inl earlier) = inl (inl earlier)
          by_place (inr now) = by_queue (t.told u now is)
      before u (inr queued) is = by_queue (t.queued u queued is)
        where
          by_queue : IsQueued old u ⊎ (IsOfHeld old u × Ended u) → WasTold told old u ⊎ IsOfHeld old u
          by_queue (inl earlier) = inl (inr earlier)
          by_queue (inr now) = inr now.0

      unknown_step : IsUnknown told old → IsUnknown (told ++ sent) new
      unknown_step a = record {
        unheld = λ n s found same. let k = t.kept n s found same in a.unheld n k.0 k.1 k.2;
        untold = λ u was is. by_time u is (before u was is);
      }
        where
          by_time : (u : SessionUpdate) → u.session_id ≡ id → WasTold told old u ⊎ IsOfHeld old u → ⊥
          by_time u is (inl was) = a.untold u was is
          by_time u is (inr h) = a.unheld h.0 h.1 h.2 (h.3 ∙ is)

      module _ (a : Agrees told old) where
        same_session : (u v : SessionUpdate) → u.session_id ≡ id → v.session_id ≡ id → (h : IsOfHeld old u)
            → (k : IsOfHeld old v) → v.status ≡ u.status
        same_session u v is same h k =
            let number : h.0 ≡ k.0 = a.one_ h.0 k.0 h.1 k.1 h.2 (h.3 ∙ is) k.2 (k.3 ∙ same) in
            let found : Some h.1 ≡ Some k.1 = sym h.2 ∙ (ap (value_at old.sessions) number ∙ k.2) in
            let session : h.1 ≡ k.1 = cc in
            sym k.4 ∙ (sym (ap status_of session) ∙ h.4)

        -- what is told now has the status of what ended before or now
        agree_now : (u v : SessionUpdate) → WasTold told old u ⊎ IsOfHeld old u → u.session_id ≡ id → Ended u
            → IsQueued old v ⊎ IsOfHeld old v → v.session_id ≡ id → v.status ≡ u.status
        agree_now u v (inl was) is ended (inl queued) same =
            a.same u v was is ended (inr queued) same (a.ended v queued same)
        agree_now u v (inl was) is ended (inr k) same =
            sym k.4 ∙ a.held k.0 k.1 u k.2 (k.3 ∙ same) was is ended
        agree_now u v (inr h) is ended (inl queued) same =
            sym (a.held h.0 h.1 v h.2 (h.3 ∙ is) (inr queued) same (a.ended v queued same)) ∙ h.4
        agree_now u v (inr h) is ended (inr k) same = same_session u v is same h k

        agree_ended : (u v : SessionUpdate) → WasTold told old u ⊎ IsOfHeld old u → u.session_id ≡ id → Ended u
            → WasTold told old v ⊎ IsOfHeld old v → v.session_id ≡ id → Ended v → v.status ≡ u.status
        agree_ended u v was is ended (inl also) same more = by_first was
          where
            by_first : WasTold told old u ⊎ IsOfHeld old u → v.status ≡ u.status
            by_first (inl earlier) = a.same u v earlier is ended also same more
            by_first (inr h) = sym (a.held h.0 h.1 v h.2 (h.3 ∙ is) also same more) ∙ h.4
        agree_ended u v was is ended (inr k) same more = agree_now u v was is ended (inr k) same

        held_step : (n : ℕ) (s : SessionHistory) (u : SessionUpdate) → value_at new.sessions n ≡ Some s
            → s.start.session_id ≡ id → WasTold (told ++ sent) new u → u.session_id ≡ id → Ended u
            → status_of s ≡ u.status
        held_step n s u found same was is ended =
            let k = t.kept n s found same in
            let e : status_of k.0 ≡ u.status = by_time k.0 k.1 k.2 (before u was is) in
            k.3 (subst (λ status. status ≢ session_status.Ok) (sym e) ended) ∙ e
          where
            by_time : (b : SessionHistory) → value_at old.sessions n ≡ Some b → b.start.session_id ≡ id
                → WasTold told old u ⊎ IsOfHeld old u → status_of b ≡ u.status
            by_time b at mine (inl was) = a.held n b u at mine was is ended
            by_time b at mine (inr h) =
                let number : n ≡ h.0 = a.one_ n h.0 b h.1 at mine h.2 (h.3 ∙ is) in
                let found : Some b ≡ Some h.1 = sym at ∙ (ap (value_at old.sessions) number ∙ h.2) in
                let session : b ≡ h.1 = cc in
                ap status_of session ∙ h.4

        ended_step : (u : SessionUpdate) → u.session_id ≡ id → IsQueued old u ⊎ (IsOfHeld old u × Ended u) → Ended u
        ended_step u is (inl queued) = a.ended u queued is
        ended_step u is (inr now) = now.1

        queued_or_held : (u : SessionUpdate) → IsQueued old u ⊎ IsOfHeld old u → WasTold told old u ⊎ IsOfHeld old u
        queued_or_held u (inl queued) = inl (inr queued)
        queued_or_held u (inr h) = inr h

        agrees_step : Agrees (told ++ sent) new
        agrees_step = record {
          held = held_step;
          same = λ u v was is ended also same more.
              agree_ended u v (before u was is) is ended (before v also same) same more;
          ended = λ u queued is. ended_step u is (t.queued u queued is);
          one_ = λ n m s r found same also is.
              let k = t.kept n s found same in
              let l = t.kept m r also is in
              a.one_ n m k.0 l.0 k.1 k.2 l.1 l.2;
          stays = stays_joined id told sent a.stays
              (λ u v among is ended also same.
              agree_now u v (inl (inl among)) is ended (t.told v also same) same)
              (λ u v among is ended also same.
              agree_now u v (queued_or_held u (t.told u among is)) is ended (t.told v also same) same);
        }

module _ {C : Type 0} where
  -- what comes leaves what was queued, and adds what came
  queued_after : (arrival : Arrival) (client : ClientHistory C) (u : SessionUpdate)
      → Among u (all_queued (after_arrival arrival client).queues.sessions)
      → Among u (all_queued client.queues.sessions) ⊎ ComesBy u arrival
  queued_after (log_came log) client u h = inl h
  queued_after (metric_came metric) client u h = inl h
  queued_after (session_ended update) client u h =
      last_one (among_append u (all_queued client.queues.sessions) (update ∷ []) h)
    where
      last_one : Among u (all_queued client.queues.sessions) ⊎ Among u (update ∷ [])
          → Among u (all_queued client.queues.sessions) ⊎ (u ≡ update)
      last_one (inl h) = inl h
      last_one (inr (inl e)) = inr e
      last_one (inr (inr h)) = absurd h
  queued_after (flush_came flush) client u h =
      inl (unflushed (is_flushed flush SESSION_INTERVAL client.queues.session_tick) client.queues.sessions h)
    where
      unflushed : (b : Bool) (history : List QueueEntry) → Among u (all_queued (session_history b history))
          → Among u (all_queued history)
      unflushed true history h = h
      unflushed false history h = h

-- a log or a metric is no update
came_not : {A : Type 0} (arrival : Arrival) (kind : Came) (u : SessionUpdate) → kind_of arrival ≡ Some kind
    → ComesBy u arrival → A
came_not (log_came log) kind u item comes = absurd comes
came_not (metric_came metric) kind u item comes = absurd comes
came_not (flush_came flush) kind u item comes = absurd comes
came_not (session_ended update) kind u item comes = absurd cc

-- ---- one change

pub same_from : {P C : Type 0} (old : World P C) (some : List (Effect P C)) (n : ℕ) (s : SessionHistory)
    → value_at old.sessions n ≡ Some s → IsFrom old some n s
same_from old some n s found = went_on s found (refl, λ ended. refl)

pub no_earlier : (n : ℕ) → n ≤ n
no_earlier n = omega arith

pub none_told : {A : Type 0} (f : Option Envelope) (u : SessionUpdate) → Among u (updates_sent f []) → A
none_told (Some given) u among = absurd among
none_told None u among = absurd among

module _ {P C : Type 0} where
  -- a step by which neither sessions nor queues change
  silent : (old new : World P C) (some : List (Effect P C)) (sent : List SessionUpdate)
      → new.sessions ≡ old.sessions → new.next.session ≡ old.next.session
      → ((u : SessionUpdate) → IsQueued new u → IsQueued old u)
      → ((u : SessionUpdate) → Among u sent → IsQueued old u ⊎ IsOfHeld old u) → Step old new some sent
  silent old new some sent sessions next queues told = record {
    later = omega (arith, next);
    from = λ n s found. same_from old some n s (ap (λ t. value_at t n) (sym sessions) ∙ found);
    queued = λ u queued. inl (queues u queued);
    told = told;
  }

  quiet : (old new : World P C) (some : List (Effect P C)) (f : Option Envelope) → new.sessions ≡ old.sessions
      → new.next.session ≡ old.next.session → ((u : SessionUpdate) → IsQueued new u → IsQueued old u)
      → Step old new some (updates_sent f [])
  quiet old new some f sessions next queues = silent old new some (updates_sent f []) sessions next queues
      (λ u among. none_told f u among)

  came_held : (world : World P C) (arrival : Arrival) (u : SessionUpdate) → IsArrival world arrival
      → ComesBy u arrival → IsOfHeld world u × (u.status ≢ session_status.Ok)
  came_held world (session_ended update) u came e =
      subst (λ v. IsOfHeld world v × (v.status ≢ session_status.Ok)) (sym e) came
  came_held world (log_came log) u came e = absurd e
  came_held world (metric_came metric) u came e = absurd e
  came_held world (flush_came flush) u came e = absurd e

  module _ (world : World P C) (key : ClientKey) (client : ClientHistory C) (arrival : Arrival)
      (found : client_at world key ≡ Some client)
      (came : (u : SessionUpdate) → ComesBy u arrival → IsOfHeld world u × (u.status ≢ session_status.Ok)) where
    here : value_at world.clients key.number ≡ Some client
    here = found_under world.tag world.clients key.tag key.number client found

    by_arrival : (u : SessionUpdate) → Among u (all_queued client.queues.sessions) ⊎ ComesBy u arrival
        → IsQueued world u ⊎ (IsOfHeld world u × (u.status ≢ session_status.Ok))
    by_arrival u (inl queued) = inl (key.number, client, here, queued)
    by_arrival u (inr comes) = inr (came u comes)

    -- what is queued where something came
    queued_now : (u : SessionUpdate) (n : ℕ) (c : ClientHistory C) (b : Bool) → (n == key.number) ≡ b
        → (if b then Some (after_arrival arrival client) else value_at world.clients n) ≡ Some c
        → Among u (all_queued c.queues.sessions)
        → IsQueued world u ⊎ (IsOfHeld world u × (u.status ≢ session_status.Ok))
    queued_now u n c true e at among =
        let is : after_arrival arrival client ≡ c = cc in
        by_arrival u (queued_after arrival client u
        (subst (λ (x : ClientHistory C). Among u (all_queued x.queues.sessions)) (sym is) among))
    queued_now u n c false e at among = inl (n, c, at, among)

    arrival_tells : (some : List (Effect P C)) (f : Option Envelope) → f ≡ None → (report : Option ClientReport)
        → Step world (with_client_history world key (after_arrival arrival client)) some
        (updates_sent f (envelopes_from client.occupied key report (envelopes_on_arrival arrival client)))
    arrival_tells some (Some given) is_off report = absurd cc
    arrival_tells some None is_off report = record {
      later = no_earlier world.next.session;
      from = λ n s at. same_from world some n s at;
      queued = λ u queued.
          queued_now u queued.0 queued.1 (queued.0 == key.number) refl
          (sym (found_replaced world.clients key.number queued.0 (after_arrival arrival client) client here)
          ∙ queued.2) queued.3;
      told = λ u among. by_place u (by_arrival u (sent_on_arrival arrival client u
          (from_slot client.occupied key report (envelopes_on_arrival arrival client) u among)));
    }
      where
        by_place : (u : SessionUpdate) → IsQueued world u ⊎ (IsOfHeld world u × (u.status ≢ session_status.Ok))
            → IsQueued world u ⊎ IsOfHeld world u
        by_place u (inl queued) = inl queued
        by_place u (inr now) = inr now.0

  sending_tells : (old world : World P C) (label : Label) (envelopes : List (ClientKey × Envelope))
      (some : List (Effect P C)) (sent : List SessionUpdate) → Step old world some sent
      → Step old (after_sending label envelopes world) some sent
  sending_tells old world label [] some sent t = t
  sending_tells old world label (first ∷ rest) some sent t =
      record { later = t.later; from = t.from; queued = t.queued; told = t.told }

  -- an update among the items of an envelope that leaves
  item_held : (world : World P C) (items : List EnvelopeItem) (u : SessionUpdate) → AreOfHeld world items
      → Among u (updates_among items) → IsOfHeld world u
  item_held world [] u h among = absurd among
  item_held world (item.SessionUpdate update ∷ rest) u h (inl e) = subst (IsOfHeld world) (sym e) h.0
  item_held world (item.SessionUpdate update ∷ rest) u h (inr among) = item_held world rest u h.1 among
  item_held world (_ ∷ rest) u h among = item_held world rest u h.1 among

  mailed : (world new : World P C) (some : List (Effect P C)) (f : Option Envelope) (key : ClientKey)
      (report : Option ClientReport) (envelope : Envelope) → new.sessions ≡ world.sessions
      → new.next.session ≡ world.next.session → new.clients ≡ world.clients
      → (f ≡ None → AreOfHeld world envelope.items)
      → Step world new some (updates_sent f ((key, with_report report envelope) ∷ []))
  mailed world new some (Some given) key report envelope sessions next clients held =
      silent world new some [] sessions next
      (λ u queued. (queued.0, queued.1, ap (λ t. value_at t queued.0) (sym clients) ∙ queued.2, queued.3))
      (λ u among. absurd among)
  mailed world new some None key report envelope sessions next clients held =
      silent world new some (updates_in ((key, with_report report envelope) ∷ [])) sessions next
      (λ u queued. (queued.0, queued.1, ap (λ t. value_at t queued.0) (sym clients) ∙ queued.2, queued.3))
      (λ u among. inr (item_held world envelope.items u (held refl)
      (subst (Among u) (append-nil (updates_among (with_report report envelope).items)
      ∙ among_reported report envelope) among)))

  -- a session that changes
  changed_tells : (world : World P C) (number : ℕ) (old new : SessionHistory) (later : List SessionEntry)
      (some : List (Effect P C)) (f : Option Envelope) → value_at world.sessions number ≡ Some old
      → new ≡ record old { history = later ++ old.history }
      → Step world (record world { sessions = replace_at world.sessions number new }) some (updates_sent f [])
  changed_tells world number old new later some f found is = record {
    later = no_earlier world.next.session;
    from = λ n s at. by_number n s (n == number) refl (sym (found_replaced world.sessions number n new old found) ∙ at);
    queued = λ u queued. inl queued;
    told = λ u among. none_told f u among;
  }
    where
      by_number : (n : ℕ) (s : SessionHistory) (b : Bool) → (n == number) ≡ b
          → (if b then Some new else value_at world.sessions n) ≡ Some s → IsFrom world some n s
      by_number n s true e at =
          let new_is : new ≡ s = cc in
          let grown : s ≡ record old { history = later ++ old.history } = sym new_is ∙ is in
          went_on old (ap (value_at world.sessions) (same_number n number e) ∙ found) (
            ap (λ (x : SessionHistory). x.start) grown,
            λ ended. ap status_of grown ∙ grown_status old.start old.history later ended,
          )
      by_number n s false e at = same_from world some n s at

  -- a session that goes
  gone_tells : (world : World P C) (number : ℕ) (some : List (Effect P C)) (f : Option Envelope) → IsNumbered world
      → Step world (record world { sessions = without world.sessions number }) some (updates_sent f [])
  gone_tells world number some f numbered = record {
    later = no_earlier world.next.session;
    from = λ n s at. by_number n s (n == number)
        (sym (found_without 0 world.next.session world.sessions number n numbered.sessions) ∙ at);
    queued = λ u queued. inl queued;
    told = λ u among. none_told f u among;
  }
    where
      by_number : (n : ℕ) (s : SessionHistory) (b : Bool) → (if b then None else value_at world.sessions n) ≡ Some s
          → IsFrom world some n s
      by_number n s true at = absurd cc
      by_number n s false at = same_from world some n s at

  -- a session that starts
  started_tells : (world : World P C) (number : ℕ) (start : SessionStart) (counted : World P C) (f : Option Envelope)
      → counted.sessions ≡ put world.sessions world.next.session (record { start = start; history = [] })
      → counted.next.session ≡ world.next.session + 1 → counted.clients ≡ world.clients
      → Step world counted (session_begun number start.session_id ∷ []) (updates_sent f [])
  started_tells world number start counted f sessions next clients = record {
    later = omega (arith, next);
    from = λ n s at. by_number n s (n == world.next.session) refl
        (sym (found_put world.sessions world.next.session n (record { start = start; history = [] }))
        ∙ (sym (ap (λ t. value_at t n) sessions) ∙ at));
    queued = λ u queued.
        inl (queued.0, queued.1, sym (ap (λ t. value_at t queued.0) clients) ∙ queued.2, queued.3);
    told = λ u among. none_told f u among;
  }
    where
      by_number : (n : ℕ) (s : SessionHistory) (b : Bool) → (n == world.next.session) ≡ b
          → (if b then Some (record { start = start; history = [] }) else value_at world.sessions n) ≡ Some s
          → IsFrom world (session_begun number start.session_id ∷ []) n s
      by_number n s true e at =
          let is : record { start = start; history = [] } ≡ s = cc in
          let own = same_number n world.next.session e in
          is_new (omega (arith, own)) (inl (ap (λ (x : SessionHistory). x.start.session_id) is))
      by_number n s false e at = same_from world (session_begun number start.session_id ∷ []) n s at

  -- a client with new queues
  added_queues : (world : World P C) (next : ℕ) (client : ClientHistory C) → all_queued client.queues.sessions ≡ []
      → (u : SessionUpdate) (n : ℕ) (c : ClientHistory C) → value_at (put world.clients next client) n ≡ Some c
      → Among u (all_queued c.queues.sessions) → IsQueued world u
  added_queues world next client none u n c at among =
      by_number (n == next) (sym (found_put world.clients next n client) ∙ at)
    where
      by_number : (b : Bool) → (if b then Some client else value_at world.clients n) ≡ Some c → IsQueued world u
      by_number true at =
          let is : client ≡ c = cc in
          absurd (subst (Among u) none
          (subst (λ (c : ClientHistory C). Among u (all_queued c.queues.sessions)) (sym is) among))
      by_number false at = (n, c, at, among)

  dropped_queues : (world : World P C) (number : ℕ) → IsNumbered world → (u : SessionUpdate) (n : ℕ)
      (c : ClientHistory C) → value_at (without world.clients number) n ≡ Some c → Among u (all_queued c.queues.sessions)
      → IsQueued world u
  dropped_queues world number numbered u n c at among =
      by_number (n == number) (sym (found_without 0 world.next.client world.clients number n numbered.clients) ∙ at)
    where
      by_number : (b : Bool) → (if b then None else value_at world.clients n) ≡ Some c → IsQueued world u
      by_number true at = absurd cc
      by_number false at = (n, c, at, among)

module _ {P C : Type 0} (meanings : C → Meanings) where
  pub step_of : (f : Option Envelope) {old new : World P C} {some : List (Effect P C)} {sent : List
      (ClientKey × Envelope)} → Change meanings f old some sent new
      → IsNumbered old → Step old new some (updates_sent f sent)
  step_of f (adds_client world client now queues open_ of_engine) n =
      quiet world _ _ f refl refl (λ u q. added_queues world world.next.client client
      (ap (λ (q : QueueHistories). all_queued q.sessions) queues) u q.0 q.1 q.2 q.3)
  step_of f (clones_client world original client now found) n =
      quiet world _ _ f refl refl (λ u q. added_queues world world.next.client (clone_from now client) refl
      u q.0 q.1 q.2 q.3)
  step_of f (drops_client world key client label found same unnamed) n =
      quiet world _ _ f refl refl (λ u q. dropped_queues world key.number n u q.0 q.1 q.2 q.3)
  step_of f (arrives world key client arrival is_off found open_ came) n =
      sending_tells world (with_client_history world key (after_arrival arrival client)) client.label
      (send key client (envelopes_on_arrival arrival client)
      (with_client_history world key (after_arrival arrival client))).sent _ _
      (arrival_tells world key client arrival found (λ u. came_held world arrival u came) _ f is_off
      (pending_report world client.label))
  step_of f (accepts world key client arrival kind is_off found open_ came) n =
      sending_tells world (with_client_history world key (after_arrival arrival client)) client.label
      (send key client (envelopes_on_arrival arrival client)
      (with_client_history world key (after_arrival arrival client))).sent _ _
      (arrival_tells world key client arrival found (λ u. came_not arrival kind u came) _ f is_off
      (pending_report world client.label))
  step_of f (mails world key client envelope found occupied plain told_) n =
      mailed world _ _ f key (pending_report world client.label) envelope refl refl refl (λ e. (told_ e).0)
  step_of f (starts_session world number start) n = started_tells world number start _ f refl refl refl
  step_of f (changes_session world number old new later found same) n =
      changed_tells world number old new later _ f found same
  step_of f (ends_session world number) n = gone_tells world number _ f n
  step_of f _ n = quiet _ _ _ f refl refl (λ u q. q)

module _ (id : List ℕ) {P C : Type 0} where
  -- the first session of this id
  started_agrees : (world : World P C) (start : SessionStart) (counted : World P C) (told : List SessionUpdate)
      → counted.sessions ≡ put world.sessions world.next.session (record { start = start; history = [] })
      → counted.clients ≡ world.clients → IsUnknown id told world → Agrees id told counted
  started_agrees world start counted told sessions clients a = record {
    held = λ n s u found same was is ended. absurd (a.untold u (earlier u was) is);
    same = λ u v was is ended also same more. absurd (a.untold u (earlier u was) is);
    ended = λ u queued is. absurd (a.untold u (earlier u (inr queued)) is);
    one_ = λ n m s t found same also is. next_one n s found same ∙ sym (next_one m t also is);
    stays = stays_unknown id told (λ u among. a.untold u (inl among));
  }
    where
      earlier : (u : SessionUpdate) → WasTold id told counted u → WasTold id told world u
      earlier u (inl among) = inl among
      earlier u (inr queued) =
          inr (queued.0, queued.1, sym (ap (λ t. value_at t queued.0) clients) ∙ queued.2, queued.3)

      by_number : (n : ℕ) (s : SessionHistory) (b : Bool) → (n == world.next.session) ≡ b
          → (if b then Some (record { start = start; history = [] }) else value_at world.sessions n) ≡ Some s
          → s.start.session_id ≡ id → n ≡ world.next.session
      by_number n s true e at same = same_number n world.next.session e
      by_number n s false e at same = absurd (a.unheld n s at same)

      next_one : (n : ℕ) (s : SessionHistory) → value_at counted.sessions n ≡ Some s → s.start.session_id ≡ id
          → n ≡ world.next.session
      next_one n s at same =
          by_number n s (n == world.next.session) refl
          (sym (found_put world.sessions world.next.session n (record { start = start; history = [] }))
          ∙ (sym (ap (λ t. value_at t n) sessions) ∙ at)) same

  -- no session of this id starts
  abbrev NoStart : List (Effect P C) → Type 0
  NoStart [] = Unit {0}
  NoStart (session_begun number other ∷ rest) = (other ≢ id) × NoStart rest
  NoStart (_ ∷ rest) = NoStart rest

  not_begun : (some : List (Effect P C)) (other : List ℕ) → NoStart some → HasBegun some other → other ≢ id
  not_begun [] other none begun = absurd begun
  not_begun (session_begun number first ∷ rest) other none (inl e) = λ same. none.0 (e ∙ same)
  not_begun (session_begun number first ∷ rest) other none (inr begun) = not_begun rest other none.1 begun
  not_begun (_ ∷ rest) other none begun = not_begun rest other none begun

  -- what a step tells of this id, where no session of it starts
  tells_of : {old new : World P C} {some : List (Effect P C)} {sent : List SessionUpdate} → Step old new some sent
      → NoStart some → Tells id old new sent
  tells_of {old} {new} {some} step none = record {
    kept = λ n s found same. by_origin s same (step.from n s found);
    queued = λ u queued same. step.queued u queued;
    told = λ u among same. step.told u among;
  }
    where
      by_origin : {n : ℕ} (s : SessionHistory) → s.start.session_id ≡ id → IsFrom old some n s
          → (before : SessionHistory) × (value_at old.sessions n ≡ Some before) × (before.start.session_id ≡ id)
          × (status_of before ≢ session_status.Ok → status_of s ≡ status_of before)
      by_origin s same (went_on before at goes) =
          (before, at, sym (ap (λ (x : SessionStart). x.session_id) goes.0) ∙ same, goes.1)
      by_origin s same (is_new low begun) = absurd (not_begun some s.start.session_id none begun same)

-- ---- changes one after another

updates-joined : (xs ys : List (ClientKey × Envelope)) → updates_in (xs ++ ys) ≡ updates_in xs ++ updates_in ys
updates-joined [] ys = refl
updates-joined (x ∷ xs) ys =
    ap (λ l. updates_among x.1.items ++ l) (updates-joined xs ys)
    ∙ sym (append_assoc (updates_among x.1.items) (updates_in xs) (updates_in ys))

pub sent-joined : (f : Option Envelope) (xs ys : List (ClientKey × Envelope))
    → updates_sent f (xs ++ ys) ≡ updates_sent f xs ++ updates_sent f ys
sent-joined (Some given) xs ys = refl
sent-joined None xs ys = updates-joined xs ys

none_sent : (f : Option Envelope) (told : List SessionUpdate) → told ++ updates_sent f [] ≡ told
none_sent (Some given) told = append-nil told
none_sent None told = append-nil told

module _ (id : List ℕ) {P C : Type 0} where
  start_first : (first second : List (Effect P C)) → NoStart id (first ++ second) → NoStart id first
  start_first [] second h = tt
  start_first (session_begun number other ∷ rest) second h = (h.0, start_first rest second h.1)
  start_first (_ ∷ rest) second h = start_first rest second h

  start_second : (first second : List (Effect P C)) → NoStart id (first ++ second) → NoStart id second
  start_second [] second h = h
  start_second (session_begun number other ∷ rest) second h = start_second rest second h.1
  start_second (_ ∷ rest) second h = start_second rest second h

  abbrev begins : Effect P C → Bool
  begins (session_begun number other) = true
  begins _ = false

  -- at most one session starts
  abbrev Once : List (Effect P C) → Type 0
  Once [] = Unit {0}
  Once (effect ∷ rest) = (begins effect ≡ true → list_any begins rest ≡ false) × Once rest

  none_starts : (some : List (Effect P C)) → list_any begins some ≡ false → NoStart id some
  none_starts [] h = tt
  none_starts (session_begun number other ∷ rest) h = absurd cc
  none_starts (_ ∷ rest) h = none_starts rest h

  once_first : (first second : List (Effect P C)) → Once (first ++ second) → Once first
  once_first [] second h = tt
  once_first (effect ∷ rest) second h =
      (λ e. any_first begins rest second (h.0 e), once_first rest second h.1)

  once_second : (first second : List (Effect P C)) → Once (first ++ second) → Once second
  once_second [] second h = h
  once_second (effect ∷ rest) second h = once_second rest second h.1

  once_after : (first second : List (Effect P C)) → Once (first ++ second) → list_any begins first ≡ true
      → list_any begins second ≡ false
  once_after [] second h e = absurd cc
  once_after (effect ∷ rest) second h e =
      by_first (begins effect) refl e (once_after rest second h.1)
    where
      by_first : (b : Bool) → begins effect ≡ b → (b || list_any begins rest) ≡ true
          → (list_any begins rest ≡ true → list_any begins second ≡ false) → list_any begins second ≡ false
      by_first true is e go = any_second begins rest second (h.0 is)
      by_first false is e go = go e

module _ (id : List ℕ) {P C : Type 0} (meanings : C → Meanings) where
  module _ (Holds : List SessionUpdate → World P C → Type 0)
      (step : (told : List SessionUpdate) (old new : World P C) (sent : List SessionUpdate) → Tells id old new sent
      → Holds told old → Holds (told ++ sent) new) where
    kept_changes : (f : Option Envelope) {old new : World P C} {some : List (Effect P C)} {sent : List
        (ClientKey × Envelope)} → Changes meanings f old some sent new → IsNumbered old → NoStart id some
        → (told : List SessionUpdate) → Holds told old → Holds (told ++ updates_sent f sent) new
    kept_changes f (nothing world) n h told a = subst (λ l. Holds l world) (sym (none_sent f told)) a
    kept_changes f (one {old = old} {new = new} {sent = sent} c) n h told a =
        step told old new (updates_sent f sent) (tells_of id (step_of meanings f c n) h) a
    kept_changes f (both {new = new} {first = first} {second = second} {sent = sent} {more = more} t u) n h told a =
        subst (λ l. Holds l new)
        (append_assoc told (updates_sent f sent) (updates_sent f more)
        ∙ ap (λ l. told ++ l) (sym (sent-joined f sent more)))
        (kept_changes f u (numbered_changes meanings t n) (start_second id first second h)
        (told ++ updates_sent f sent)
        (kept_changes f t n (start_first id first second h) told a))

  unknown_changes : (f : Option Envelope) {old new : World P C} {some : List (Effect P C)} {sent : List
      (ClientKey × Envelope)} → Changes meanings f old some sent new → IsNumbered old → NoStart id some
      → (told : List SessionUpdate) → IsUnknown id told old → IsUnknown id (told ++ updates_sent f sent) new
  unknown_changes f c n h told a =
      kept_changes (IsUnknown id) (λ told old new sent t a. unknown_step id told old new sent t a) f c n h told a

  agrees_changes : (f : Option Envelope) {old new : World P C} {some : List (Effect P C)} {sent : List
      (ClientKey × Envelope)} → Changes meanings f old some sent new → IsNumbered old → NoStart id some
      → (told : List SessionUpdate) → Agrees id told old → Agrees id (told ++ updates_sent f sent) new
  agrees_changes f c n h told a =
      kept_changes (Agrees id) (λ told old new sent t a. agrees_step id told old new sent t a) f c n h told a

  start_change : (f : Option Envelope) {old new : World P C} {some : List (Effect P C)} {sent : List
      (ClientKey × Envelope)} → Change meanings f old some sent new → IsNumbered old
      → (told : List SessionUpdate) → IsUnknown id told old → Agrees id (told ++ updates_sent f sent) new
  start_change f (starts_none world number other) n told a =
      subst (λ l. Agrees id l world) (sym (none_sent f told)) (agrees_unknown id told world a)
  start_change f (accepts_none world kind) n told a =
      subst (λ l. Agrees id l world) (sym (none_sent f told)) (agrees_unknown id told world a)
  start_change f (starts_session world number start) n told a =
      let counted : World P C =
      record (with_new_session start world) { next = record world.next { session = world.next.session + 1 } } in
      subst (λ l. Agrees id l counted) (sym (none_sent f told))
      (started_agrees id world start counted told refl refl a)
  start_change f {new = new} {sent = sent} c n told a =
      agrees_unknown id (told ++ updates_sent f sent) new (unknown_changes f (one c) n tt told a)

  start_changes : (f : Option Envelope) {old new : World P C} {some : List (Effect P C)} {sent : List
      (ClientKey × Envelope)} → Changes meanings f old some sent new → IsNumbered old → Once id some
      → (told : List SessionUpdate) → IsUnknown id told old → Agrees id (told ++ updates_sent f sent) new
  start_changes f (nothing world) n h told a =
      subst (λ l. Agrees id l world) (sym (none_sent f told)) (agrees_unknown id told world a)
  start_changes f (one c) n h told a = start_change f c n told a
  start_changes f (both {middle = middle} {new = new} {first = first} {second = second} {sent = sent} {more = more} t u) n h told a =
      subst (λ l. Agrees id l new)
      (append_assoc told (updates_sent f sent) (updates_sent f more)
      ∙ ap (λ l. told ++ l) (sym (sent-joined f sent more)))
      (by_first (list_any (begins id) first) refl (start_changes f t n (once_first id first second h) told a)
      (λ b. start_changes f u (numbered_changes meanings t n) (once_second id first second h)
      (told ++ updates_sent f sent) b))
    where
      by_first : (b : Bool) → list_any (begins id) first ≡ b → Agrees id (told ++ updates_sent f sent) middle
          → (IsUnknown id (told ++ updates_sent f sent) middle
          → Agrees id ((told ++ updates_sent f sent) ++ updates_sent f more) new)
          → Agrees id ((told ++ updates_sent f sent) ++ updates_sent f more) new
      by_first true e begun go =
          agrees_changes f u (numbered_changes meanings t n) (none_starts id second (once_after id first second h e))
          (told ++ updates_sent f sent) begun
      by_first false e begun go = go (unknown_changes f t n (none_starts id first e) told a)

-- ---- calls

module _ (id : List ℕ) {P C : Type 0} where
  -- what calls tell of starts is what starts
  own_starts : (some : List (Effect P C)) → NoStart id (own_effects some) → NoStart id some
  own_starts [] h = tt
  own_starts (session_begun number other ∷ rest) h = (h.0, own_starts rest h.1)
  own_starts (_ ∷ rest) h = own_starts rest h

  own_begins : (some : List (Effect P C)) → list_any (begins id) (own_effects some) ≡ list_any (begins id) some
  own_begins = own_any (begins id) (λ number session. refl)

  own_once : (some : List (Effect P C)) → Once id (own_effects some) → Once id some
  own_once [] h = tt
  own_once (session_begun number other ∷ rest) h = (λ e. sym (own_begins rest) ∙ h.0 refl, own_once rest h.1)
  own_once (session_named number session ∷ rest) h = (λ e. absurd cc, own_once rest h)
  own_once (_ ∷ rest) h = (λ e. absurd cc, own_once rest h.1)

module _ (id : List ℕ) {P C : Type 0} (meanings : C → Meanings) where
  client_starts : (call : ClientCall P C) (made : Reply P C) → NoStart id (client_effects meanings call made)
  client_starts (AddClient options transport label now) (reply.Client key) = tt
  client_starts (AddClient options transport label now) _ = tt
  client_starts (CloneClient client now) (reply.Client key) = tt
  client_starts (CloneClient client now) _ = tt
  client_starts (TakeReport label) (reply.Report report) = tt
  client_starts (TakeReport label) _ = tt
  client_starts call made = tt

  hub_starts : (call : HubCall P) (made : Reply P C) → started_id {P = P} {C = C} (group.Hub call) ≢ Some id
      → NoStart id (hub_effects meanings call made)
  hub_starts (StartSession hub fresh) made h = (λ e. h (ap Some e), tt)
  hub_starts (NewHub client scope) (reply.Hub key) h = tt
  hub_starts (NewHub client scope) _ h = tt
  hub_starts (NewHubFromTop hub) (reply.Hub key) h = tt
  hub_starts (NewHubFromTop hub) _ h = tt
  hub_starts call made h = tt

  call_starts : (call : Call P C) (made : Reply P C) → started_id call ≢ Some id
      → NoStart id (effects meanings call made)
  call_starts (group.Client call) made h = client_starts call made
  call_starts (group.Hub call) made h = hub_starts call made h
  call_starts (group.Span call) made h = tt

  client_once : (call : ClientCall P C) (made : Reply P C) → Once id (client_effects meanings call made)
  client_once (AddClient options transport label now) (reply.Client key) = (λ e. refl, tt)
  client_once (AddClient options transport label now) _ = tt
  client_once (CloneClient client now) (reply.Client key) = (λ e. refl, tt)
  client_once (CloneClient client now) _ = tt
  client_once (TakeReport label) (reply.Report report) = (λ e. refl, tt)
  client_once (TakeReport label) _ = tt
  client_once (Absorb label lost) made = (λ e. refl, tt)
  client_once (DropClient client) made = (λ e. refl, tt)
  client_once (ClientCaptureLog client log scope) made = (λ e. refl, tt)
  client_once (ClientCaptureMetric client draft scope now) made = (λ e. refl, tt)
  client_once (Close client) made = (λ e. refl, tt)
  client_once call made = tt

  hub_once : (call : HubCall P) (made : Reply P C) → Once id (hub_effects meanings call made)
  hub_once (StartSession hub fresh) made = (λ e. refl, tt)
  hub_once (CaptureLog hub log) made = (λ e. refl, tt)
  hub_once (CaptureMetric hub draft now) made = (λ e. refl, tt)
  hub_once (NewHub client scope) (reply.Hub key) = (λ e. refl, tt)
  hub_once (NewHub client scope) _ = tt
  hub_once (NewHubFromTop hub) (reply.Hub key) = (λ e. refl, tt)
  hub_once (NewHubFromTop hub) _ = tt
  hub_once (ReleaseHub hub now) made = (λ e. refl, tt)
  hub_once (Configure hub edits now) made = (λ e. refl, tt)
  hub_once (AddBreadcrumbs hub breadcrumbs) made = (λ e. refl, tt)
  hub_once (PushScope hub) made = (λ e. refl, tt)
  hub_once (PopScope hub depth now) made = (λ e. refl, tt)
  hub_once (BindClient hub client) made = (λ e. refl, tt)
  hub_once call made = tt

  call_once : (call : Call P C) (made : Reply P C) → Once id (effects meanings call made)
  call_once (group.Client call) made = client_once call made
  call_once (group.Hub call) made = hub_once call made
  call_once (group.Span call) made = tt

-- ---- what was queued in a call

module _ {P C : Type 0} where
  pub queued_in : (world : World P C) (number : ℕ) (u : SessionUpdate) → Among u (queued_at world number)
      → IsQueued world u
  queued_in world number u h = by_client (value_at world.clients number) refl h
    where
      by_client : (o : Option (ClientHistory C)) → value_at world.clients number ≡ o
          → Among u (unwrap_or (option_map (λ (client : ClientHistory C). all_queued client.queues.sessions) o) [])
          → IsQueued world u
      by_client None at h = absurd h
      by_client (Some client) at h = (number, client, at, h)

module _ (id : List ℕ) {P C : Type 0} where
  below_queued : (before_ world : World P C) (number : ℕ) (u : SessionUpdate)
      → Among u (queued_below before_ world number) → IsQueued world u
  below_queued before_ world zero u h = absurd h
  below_queued before_ world (suc number) u h =
      by_place (below_queued before_ world number u)
      (among_append u (queued_below before_ world number)
      (drop (length (queued_at before_ number)) (queued_at world number)) h)
    where
      by_place : (Among u (queued_below before_ world number) → IsQueued world u)
          → Among u (queued_below before_ world number)
          ⊎ Among u (drop (length (queued_at before_ number)) (queued_at world number)) → IsQueued world u
      by_place go (inl h) = go h
      by_place go (inr h) =
          queued_in world number u
          (among_dropped u (length (queued_at before_ number)) (queued_at world number) h)

  below_tells : (before_ world : World P C) (number : ℕ) → Tells id world world (queued_below before_ world number)
  below_tells before_ world number = record {
    kept = λ n s at same. (s, at, same, λ ended. refl);
    queued = λ u queued is. inl queued;
    told = λ u among is. inl (below_queued before_ world number u among);
  }

-- ---- runs

same_ids : (a b : List ℕ) → (a ≡ b) ⊎ (a ≢ b)
same_ids [] [] = inl refl
same_ids [] (y ∷ ys) = inr (λ e. absurd cc)
same_ids (x ∷ xs) [] = inr (λ e. absurd cc)
same_ids (x ∷ xs) (y ∷ ys) = by_first (x == y) refl (same_ids xs ys)
  where
    by_first : (b : Bool) → (x == y) ≡ b → (xs ≡ ys) ⊎ (xs ≢ ys) → (x ∷ xs ≡ y ∷ ys) ⊎ (x ∷ xs ≢ y ∷ ys)
    by_first true e (inl h) = inl (λ i. same_number x y e i ∷ h i)
    by_first true e (inr h) = inr (λ p. h (tails p))
      where
        tails : x ∷ xs ≡ y ∷ ys → xs ≡ ys
        tails p = cc
    by_first false e h = inr (λ p. other_number x y e (heads p))
      where
        heads : x ∷ xs ≡ y ∷ ys → x ≡ y
        heads p = cc

starts_by : (id : List ℕ) (o : Option (List ℕ)) → (o ≡ Some id) ⊎ (o ≢ Some id)
starts_by id None = inr (λ e. absurd cc)
starts_by id (Some other) = by_id (same_ids other id)
  where
    by_id : (other ≡ id) ⊎ (other ≢ id) → (Some other ≡ Some id) ⊎ (Some other ≢ Some id)
    by_id (inl h) = inl (ap Some h)
    by_id (inr h) = inr (λ e. h (insides e))
      where
        insides : Some other ≡ Some id → other ≡ id
        insides e = cc

module _ {P C : Type 0} (gives : P → Partial) (meanings : C → Meanings) (id : List ℕ) where
  numbered_next : (call : Call P C) (out : Out (Reply P C)) (world next : World P C)
      → StepsTo gives meanings world call (Ok out) next → IsNumbered world → IsNumbered next
  numbered_next call out world next may n =
      numbered_changes meanings (trail_of gives meanings call out world next may).changes n

  quiet_starts : (call : Call P C) (out : Out (Reply P C)) (world next : World P C)
      (may : StepsTo gives meanings world call (Ok out) next) → started_id call ≢ Some id
      → NoStart id (trail_of gives meanings call out world next may).effects
  quiet_starts call out world next may h =
      let trail = trail_of gives meanings call out world next may in
      own_starts id trail.effects
      (subst (NoStart id) (sym trail.same) (call_starts id meanings call out.reply h))

  agrees_next : (call : Call P C) (out : Out (Reply P C)) (world next : World P C) (told : List SessionUpdate)
      → StepsTo gives meanings world call (Ok out) next → IsNumbered world → started_id call ≢ Some id
      → Agrees id told world
      → Agrees id ((told ++ updates_sent (handed_in call) out.sent) ++ queued_below world next next.next.client) next
  agrees_next call out world next told may n h a =
      let trail = trail_of gives meanings call out world next may in
      agrees_step id (told ++ updates_sent (handed_in call) out.sent) next next
      (queued_below world next next.next.client) (below_tells id world next next.next.client)
      (agrees_changes id meanings (handed_in call) trail.changes n (quiet_starts call out world next may h) told a)

  unknown_next : (call : Call P C) (out : Out (Reply P C)) (world next : World P C) (told : List SessionUpdate)
      → StepsTo gives meanings world call (Ok out) next → IsNumbered world → started_id call ≢ Some id
      → IsUnknown id told world
      → IsUnknown id ((told ++ updates_sent (handed_in call) out.sent) ++ queued_below world next next.next.client) next
  unknown_next call out world next told may n h a =
      let trail = trail_of gives meanings call out world next may in
      unknown_step id (told ++ updates_sent (handed_in call) out.sent) next next
      (queued_below world next next.next.client) (below_tells id world next next.next.client)
      (unknown_changes id meanings (handed_in call) trail.changes n (quiet_starts call out world next may h) told a)

  started_next : (call : Call P C) (out : Out (Reply P C)) (world next : World P C) (told : List SessionUpdate)
      → StepsTo gives meanings world call (Ok out) next → IsNumbered world → IsUnknown id told world
      → Agrees id ((told ++ updates_sent (handed_in call) out.sent) ++ queued_below world next next.next.client) next
  started_next call out world next told may n a =
      let trail = trail_of gives meanings call out world next may in
      agrees_step id (told ++ updates_sent (handed_in call) out.sent) next next
      (queued_below world next next.next.client) (below_tells id world next next.next.client)
      (start_changes id meanings (handed_in call) trail.changes n
      (own_once id trail.effects (subst (Once id) (sym trail.same) (call_once id meanings call out.reply))) told a)

  regrouped : (told some others rest : List SessionUpdate)
      → ((told ++ some) ++ others) ++ rest ≡ told ++ (some ++ (others ++ rest))
  regrouped told some others rest =
      append_assoc (told ++ some) others rest ∙ append_assoc told some (others ++ rest)

  agrees_run : (calls : List (Call P C)) (answers : List (Result (Out (Reply P C)) Refusal)) (world last : World P C)
      (run : Run gives meanings world calls answers last) (told : List SessionUpdate) → IsNumbered world
      → IsNotStarted id calls answers → Agrees id told world
      → StaysEnded id (told ++ updates_told gives meanings world calls answers last run)
  agrees_run [] answers world last run told n h a = subst (StaysEnded id) (sym (append-nil told)) a.stays
  agrees_run (call ∷ calls) [] world last run told n h a = subst (StaysEnded id) (sym (append-nil told)) a.stays
  agrees_run (call ∷ calls) (Err refusal ∷ answers) world last run told n h a =
      agrees_run calls answers run.0 last run.2 told (subst IsNumbered (sym run.1.1) n) h
      (subst (Agrees id told) (sym run.1.1) a)
  agrees_run (call ∷ calls) (Ok out ∷ answers) world last run told n h a =
      subst (StaysEnded id)
      (regrouped told (updates_sent (handed_in call) out.sent) (queued_below world run.0 run.0.next.client)
      (updates_told gives meanings run.0 calls answers last run.2))
      (agrees_run calls answers run.0 last run.2
      ((told ++ updates_sent (handed_in call) out.sent) ++ queued_below world run.0 run.0.next.client)
      (numbered_next call out world run.0 run.1 n) h.1 (agrees_next call out world run.0 told run.1 n h.0 a))

  unknown_run : (calls : List (Call P C)) (answers : List (Result (Out (Reply P C)) Refusal)) (world last : World P C)
      (run : Run gives meanings world calls answers last) (told : List SessionUpdate) → IsNumbered world
      → IsStartedOnce id calls answers → IsUnknown id told world
      → StaysEnded id (told ++ updates_told gives meanings world calls answers last run)
  unknown_run [] answers world last run told n h a =
      subst (StaysEnded id) (sym (append-nil told)) (agrees_unknown id told world a).stays
  unknown_run (call ∷ calls) [] world last run told n h a =
      subst (StaysEnded id) (sym (append-nil told)) (agrees_unknown id told world a).stays
  unknown_run (call ∷ calls) (Err refusal ∷ answers) world last run told n h a =
      unknown_run calls answers run.0 last run.2 told (subst IsNumbered (sym run.1.1) n) h
      (subst (IsUnknown id told) (sym run.1.1) a)
  unknown_run (call ∷ calls) (Ok out ∷ answers) world last run told n h a =
      subst (StaysEnded id)
      (regrouped told (updates_sent (handed_in call) out.sent) (queued_below world run.0 run.0.next.client)
      (updates_told gives meanings run.0 calls answers last run.2))
      (by_start (starts_by id (started_id call)) (λ u. unknown_run calls answers run.0 last run.2
      ((told ++ updates_sent (handed_in call) out.sent) ++ queued_below world run.0 run.0.next.client)
      (numbered_next call out world run.0 run.1 n) h.1 u))
    where
      by_start : (started_id call ≡ Some id) ⊎ (started_id call ≢ Some id)
          → (IsUnknown id ((told ++ updates_sent (handed_in call) out.sent)
          ++ queued_below world run.0 run.0.next.client) run.0
          → StaysEnded id (((told ++ updates_sent (handed_in call) out.sent)
          ++ queued_below world run.0 run.0.next.client)
          ++ updates_told gives meanings run.0 calls answers last run.2))
          → StaysEnded id (((told ++ updates_sent (handed_in call) out.sent)
          ++ queued_below world run.0 run.0.next.client)
          ++ updates_told gives meanings run.0 calls answers last run.2)
      by_start (inl is) go =
          agrees_run calls answers run.0 last run.2
          ((told ++ updates_sent (handed_in call) out.sent) ++ queued_below world run.0 run.0.next.client)
          (numbered_next call out world run.0 run.1 n) (h.0 is) (started_next call out world run.0 told run.1 n a)
      by_start (inr is) go = go (unknown_next call out world run.0 told run.1 n is a)

-- ---- the law

module _ {P C : Type 0} (gives : P → Partial) (meanings : C → Meanings) where
  pub statuses_stay : StatusStays gives meanings
  statuses_stay tag start calls answers last run id once =
      unknown_run gives meanings id calls answers (starting_world tag start) last run [] (none_numbered tag start) once
      (record { unheld = λ n s at. absurd cc; untold = λ u was. nothing_told u was })
    where
      nothing_told : (u : SessionUpdate) → WasTold id [] (starting_world {P = P} {C = C} tag start) u → u.session_id ≢ id
      nothing_told u (inl among) = absurd among
      nothing_told u (inr queued) = let at = queued.2 in absurd cc
