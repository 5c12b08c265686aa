-- The updates of sessions that a run hands out or queues, and their statuses.
use Rattle.std.specs.Prelude.{◌≡◌, ◌≢◌, ℕ, zero, suc, Option, Some, None, List, [], ◌∷◌, ◌++◌, Result, Ok, Err, drop, length, unwrap_or}
use Rattle.std.specs.List.{AllByRecursion}
use Rattle.std.specs.Option.{option_map, option_to_list}
use Rattle.sentry_plain.specs.Tables.{value_at}
use Rattle.sentry_base.specs.Callbacks.{Partial}
use Rattle.sentry_base.specs.declared.protocol.envelope.Envelope.{Envelope}
use Rattle.sentry_base.specs.declared.protocol.envelope.EnvelopeItem.{EnvelopeItem}
use Rattle.sentry_base.specs.declared.protocol.envelope.EnvelopeItem.TheVariants as item
use Rattle.sentry_base.specs.declared.protocol.keys.ClientKey.{ClientKey}
use Rattle.sentry_base.specs.declared.protocol.refusal.Refusal.{Refusal}
use Rattle.sentry_base.specs.declared.protocol.session.SessionStatus.TheVariants as session_status
use Rattle.sentry_base.specs.declared.protocol.session.SessionUpdate.{SessionUpdate}
use Rattle.sentry_options.specs.Meanings.{Meanings}
use Rattle.sentry_sessions.specs.SessionQueues.{QueueEntry, enqueued, flushed}
use Rattle.sentry_state.specs.declared.state.Out.{Out}
use Rattle.sentry_state.specs.Worlds.{World, ClientHistory, starting_world}
use Rattle.sentry_calls.specs.declared.call.Call.{Call}
use Rattle.sentry_calls.specs.declared.call.Call.TheVariants as group
use Rattle.sentry_calls.specs.declared.call.hubs.HubCall.TheVariants.{StartSession}
use Rattle.sentry_calls.specs.declared.call.Reply.{Reply}
use Rattle.sentry_calls.specs.Runs.{Run}
use Rattle.sentry_laws.specs.SentItems.{handed_in}

-- ---- what is handed out

-- the update that an item is, if it is one
abbrev pub update_in : EnvelopeItem → Option SessionUpdate
update_in (item.SessionUpdate update) = Some update
update_in _ = None

-- the updates among these items
abbrev pub updates_among : List EnvelopeItem → List SessionUpdate
updates_among [] = []
updates_among (first ∷ rest) = option_to_list (update_in first) ++ updates_among rest

-- the updates in envelopes that are handed out
abbrev pub updates_in : List (ClientKey × Envelope) → List SessionUpdate
updates_in [] = []
updates_in (first ∷ rest) = updates_among first.1.items ++ updates_in rest

-- the same, but none in an envelope that the caller handed in
abbrev pub updates_sent : Option Envelope → List (ClientKey × Envelope) → List SessionUpdate
updates_sent (Some given) sent = []
updates_sent None sent = updates_in sent

-- ---- what is queued

-- the updates that came to a queue, the oldest first
abbrev pub all_queued : List QueueEntry → List SessionUpdate
all_queued [] = []
all_queued (enqueued update ∷ history) = all_queued history ++ update ∷ []
all_queued (flushed ∷ history) = all_queued history

module _ {P C : Type 0} where
  -- the updates that came to the queue of a client
  abbrev pub queued_at : World P C → ℕ → List SessionUpdate
  queued_at world number =
      unwrap_or (option_map (λ (client : ClientHistory C). all_queued client.queues.sessions)
      (value_at world.clients number)) []

  -- those that came since an earlier world to the queues of the clients below a number
  abbrev pub queued_below : World P C → World P C → ℕ → List SessionUpdate
  queued_below before after zero = []
  queued_below before after (suc number) =
      queued_below before after number ++ drop (length (queued_at before number)) (queued_at after number)

module _ {P C : Type 0} (gives : P → Partial) (meanings : C → Meanings) where
  -- the updates that a run hands out or queues, in the order of its calls
  abbrev pub updates_told : (world : World P C) (calls : List (Call P C))
      (answers : List (Result (Out (Reply P C)) Refusal)) (last : World P C)
      → Run gives meanings world calls answers last → List SessionUpdate
  updates_told world (call ∷ calls) (Ok out ∷ answers) last run =
      updates_sent (handed_in call) out.sent
      ++ (queued_below world run.0 run.0.next.client ++ updates_told run.0 calls answers last run.2)
  updates_told world (call ∷ calls) (Err refusal ∷ answers) last run = updates_told run.0 calls answers last run.2
  updates_told world [] answers last run = []
  updates_told world (call ∷ calls) [] last run = []

-- ---- the law

-- once an update of the session with this id has another status than `Ok`, each later one has that status
abbrev pub StaysEnded : List ℕ → List SessionUpdate → Type 0
StaysEnded id [] = Unit {0}
StaysEnded id (first ∷ later) =
    (first.session_id ≡ id → first.status ≢ session_status.Ok
    → AllByRecursion (λ (next : SessionUpdate). next.session_id ≡ id → next.status ≡ first.status) later)
    × StaysEnded id later

module _ {P C : Type 0} where
  -- the id for a session that the call starts, if it starts one
  abbrev pub started_id : Call P C → Option (List ℕ)
  started_id (group.Hub (StartSession hub fresh)) = Some fresh.uuid
  started_id call = None

  -- no accepted call starts a session with this id
  abbrev pub IsNotStarted : List ℕ → List (Call P C) → List (Result (Out (Reply P C)) Refusal) → Type 0
  IsNotStarted id (call ∷ calls) (Ok out ∷ answers) = (started_id call ≢ Some id) × IsNotStarted id calls answers
  IsNotStarted id (call ∷ calls) (Err refusal ∷ answers) = IsNotStarted id calls answers
  IsNotStarted id [] answers = Unit {0}
  IsNotStarted id (call ∷ calls) [] = Unit {0}

  -- at most one does
  abbrev pub IsStartedOnce : List ℕ → List (Call P C) → List (Result (Out (Reply P C)) Refusal) → Type 0
  IsStartedOnce id (call ∷ calls) (Ok out ∷ answers) =
      (started_id call ≡ Some id → IsNotStarted id calls answers) × IsStartedOnce id calls answers
  IsStartedOnce id (call ∷ calls) (Err refusal ∷ answers) = IsStartedOnce id calls answers
  IsStartedOnce id [] answers = Unit {0}
  IsStartedOnce id (call ∷ calls) [] = Unit {0}

module _ {P C : Type 0} (gives : P → Partial) (meanings : C → Meanings) where
  -- of the updates of one session, none that follows one with another status than `Ok` has another status
  abbrev pub StatusesStay : (world : World P C) (calls : List (Call P C))
      (answers : List (Result (Out (Reply P C)) Refusal)) (last : World P C)
      → Run gives meanings world calls answers last → Type 0
  StatusesStay world calls answers last run =
      (id : List ℕ) → IsStartedOnce id calls answers
      → StaysEnded id (updates_told gives meanings world calls answers last run)

  abbrev pub StatusStays : Type 0
  StatusStays =
      (tag start : ℕ) (calls : List (Call P C)) (answers : List (Result (Out (Reply P C)) Refusal)) (last : World P C)
      (run : Run gives meanings (starting_world tag start) calls answers last)
      → StatusesStay (starting_world tag start) calls answers last run
