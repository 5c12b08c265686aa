-- What holds of every session.
use Rattle.std.specs.Prelude.{◌≡◌, ◌≢◌, ◌<◌, List, ◌++◌, length}
use Rattle.sentry_base.specs.declared.protocol.session.SessionStatus.TheVariants as session_status
use Rattle.sentry_sessions.specs.declared.session.record.SessionStart.{SessionStart}
use Rattle.sentry_options.specs.declared.clientoptions.choices.SessionMode.{SessionMode}
use Rattle.sentry_sessions.specs.Sessions.{SessionEntry, session_of}
use Rattle.sentry_sessions.specs.SessionQueues.{QueueEntry, queue_of}
use Rattle.sentry_sessions.specs.declared.session.aggregates.TheConstants.{MAX_INDIVIDUAL}

-- once a session has another status than `Ok`, what comes later leaves the status
abbrev pub EndedStatusStays : Type 0
EndedStatusStays =
    (start : SessionStart) (history later : List SessionEntry)
    → (session_of start history).status ≢ session_status.Ok
    → (session_of start (later ++ history)).status ≡ (session_of start history).status

-- fewer than a hundred updates wait to be sent one by one
abbrev pub QueueIsShort : Type 0
QueueIsShort =
    (mode : SessionMode) (history : List QueueEntry) → length (queue_of mode history).individual < MAX_INDIVIDUAL
