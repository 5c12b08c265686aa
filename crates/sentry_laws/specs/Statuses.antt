-- The statuses of sessions by their numbers, whatever ids the callers pass.
use Rattle.std.specs.Prelude.{◌≡◌, ◌≢◌, ◌⊎◌, ℕ, Some, List, [], ◌∷◌, Result, Ok, Err}
use Rattle.std.specs.List.{AllByRecursion}
use Rattle.sentry_plain.specs.Tables.{value_at}
use Rattle.sentry_base.specs.Callbacks.{Partial}
use Rattle.sentry_base.specs.declared.protocol.envelope.Envelope.{Envelope}
use Rattle.sentry_base.specs.declared.protocol.keys.ClientKey.{ClientKey}
use Rattle.sentry_base.specs.declared.protocol.refusal.Refusal.{Refusal}
use Rattle.sentry_base.specs.declared.protocol.session.SessionStatus.{SessionStatus}
use Rattle.sentry_base.specs.declared.protocol.session.SessionStatus.TheVariants as session_status
use Rattle.sentry_base.specs.declared.protocol.session.SessionUpdate.{SessionUpdate}
use Rattle.sentry_options.specs.Meanings.{Meanings}
use Rattle.sentry_sessions.specs.Sessions.{end_of, end_status}
use Rattle.sentry_state.specs.declared.state.Out.{Out}
use Rattle.sentry_state.specs.Worlds.{World, SessionHistory}
use Rattle.sentry_calls.specs.declared.call.Call.{Call}
use Rattle.sentry_calls.specs.declared.call.Reply.{Reply}
use Rattle.sentry_calls.specs.Runs.{Run}
use Rattle.sentry_laws.specs.SentItems.{handed_in}
use Rattle.sentry_laws.specs.Updates.{updates_sent, queued_at, started_id}

-- the status of a session
abbrev pub status_of : SessionHistory → SessionStatus
status_of session = end_status (end_of session.history)

-- the session went on: it started as it did, and has the status that it had, if that isn't `Ok`
abbrev pub GoesOn : SessionHistory → SessionHistory → Type 0
GoesOn before after =
    (after.start ≡ before.start) × (status_of before ≢ session_status.Ok → status_of after ≡ status_of before)

-- it is one of them
abbrev pub Among : {X : Type 0} → X → List X → Type 0
Among x [] = ⊥
Among x (first ∷ rest) = (x ≡ first) ⊎ Among x rest

module _ {P C : Type 0} where
  -- each session that is held in both worlds went on
  abbrev pub SessionsGoOn : World P C → World P C → Type 0
  SessionsGoOn world next =
      (number : ℕ) (before after : SessionHistory) → value_at world.sessions number ≡ Some before
      → value_at next.sessions number ≡ Some after → GoesOn before after

  -- the update is of a session that is held: it has its id, and its status, if that isn't `Ok`
  abbrev pub IsOfSession : World P C → SessionUpdate → Type 0
  IsOfSession world update =
      (number : ℕ) × (session : SessionHistory) × (value_at world.sessions number ≡ Some session)
      × (update.session_id ≡ session.start.session_id)
      × (status_of session ≢ session_status.Ok → update.status ≡ status_of session)

  -- it came to the queue of a client before
  abbrev pub WasQueued : World P C → SessionUpdate → Type 0
  WasQueued world update = (number : ℕ) × Among update (queued_at world number)

  -- it came to a queue before the call, is of a session that was held before the call, or of one that the call starts
  abbrev pub HasOrigin : Call P C → World P C → SessionUpdate → Type 0
  HasOrigin call world update =
      WasQueued world update ⊎ (IsOfSession world update ⊎ (started_id call ≡ Some update.session_id))

  -- each update that the call hands out or queues is so
  abbrev pub UpdatesHaveOrigin : Call P C → World P C → List (ClientKey × Envelope) → World P C → Type 0
  UpdatesHaveOrigin call world sent next =
      AllByRecursion (HasOrigin call world) (updates_sent (handed_in call) sent)
      × ((number : ℕ) → AllByRecursion (HasOrigin call world) (queued_at next number))

module _ {P C : Type 0} (gives : P → Partial) (meanings : C → Meanings) where
  -- by each accepted call sessions that stay held go on, and each update that it hands out or queues is of a session
  abbrev pub SessionsKeepStatus : (world : World P C) (calls : List (Call P C))
      (answers : List (Result (Out (Reply P C)) Refusal)) (last : World P C)
      → Run gives meanings world calls answers last → Type 0
  SessionsKeepStatus world (call ∷ calls) (Ok out ∷ answers) last run =
      SessionsGoOn world run.0 × UpdatesHaveOrigin call world out.sent run.0
      × SessionsKeepStatus run.0 calls answers last run.2
  SessionsKeepStatus world (call ∷ calls) (Err refusal ∷ answers) last run =
      SessionsKeepStatus run.0 calls answers last run.2
  SessionsKeepStatus world [] answers last run = Unit {0}
  SessionsKeepStatus world (call ∷ calls) [] last run = Unit {0}
