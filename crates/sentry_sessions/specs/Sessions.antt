-- Sessions: what the server is told of a session, as a function of all that came to it. The newest entry stands first.
use Rattle.std.specs.Prelude.{ℕ, ◌-◌, ◌^◌, ◌||◌, min, Bool, true, false, not, is_some, option_map, option_and_then, count_by, length, ◌==◌, Option, Some, None, List, [], ◌∷◌, if◌then◌else◌}
use Rattle.std.specs.Option.{option_or}
use Rattle.std.specs.List.{list_any}
use Rattle.sentry_base.specs.declared.protocol.event.Event.{Event}
use Rattle.sentry_base.specs.declared.protocol.exception.Exception.{Exception}
use Rattle.sentry_base.specs.declared.protocol.keys.ClientKey.{ClientKey}
use Rattle.sentry_base.specs.declared.protocol.level.Level.{Level}
use Rattle.sentry_base.specs.declared.protocol.level.Level.TheVariants as level
use Rattle.sentry_base.specs.declared.protocol.session.SessionAttributes.{SessionAttributes}
use Rattle.sentry_base.specs.declared.protocol.session.SessionStatus.{SessionStatus}
use Rattle.sentry_base.specs.declared.protocol.session.SessionStatus.TheVariants as session_status
use Rattle.sentry_base.specs.declared.protocol.session.SessionUpdate.{SessionUpdate}
use Rattle.sentry_base.specs.declared.protocol.user.User.{User}
use Rattle.sentry_plain.specs.Texts.{Bytes}
use Rattle.sentry_options.specs.declared.clientoptions.plain.PlainOptions.{PlainOptions}
use Rattle.sentry_sessions.specs.declared.session.record.Session.{Session}
use Rattle.sentry_sessions.specs.declared.session.record.SessionStart.{SessionStart}

-- ---- events

abbrev pub is_error_level : Level → Bool
is_error_level level.Error = true
is_error_level level.Fatal = true
is_error_level _ = false

abbrev pub says_unhandled : Option Bool → Bool
says_unhandled (Some false) = true
says_unhandled _ = false

-- the exception's mechanism says that the program did not handle it
abbrev pub is_unhandled : Exception → Bool
is_unhandled exception = says_unhandled (option_and_then (λ mechanism. mechanism.handled) exception.mechanism)

abbrev pub is_error : Event → Bool
is_error event = is_error_level event.level || not (length event.exception == 0)

abbrev pub is_crash : Event → Bool
is_crash event = list_any is_unhandled event.exception

-- ---- histories

-- one entry in the history of a session
pub data SessionEntry : Type 0 where
  -- an event came through all callbacks
  event_reached : Event → SessionEntry
  -- an update was handed out
  handed_out : SessionEntry
  -- the session was closed at a moment, with a status or without
  closed : Option SessionStatus → ℕ → SessionEntry

-- what ends a session
pub data SessionEnd : Type 0 where
  crash : SessionEnd
  closing : Option SessionStatus → ℕ → SessionEnd

-- the end that an entry is, if it comes while the session goes on
abbrev pub end_by : SessionEntry → Option SessionEnd
end_by (event_reached event) = if is_crash event then Some crash else None
end_by handed_out = None
end_by (closed status now) = Some (closing status now)

-- the first crash or closing
abbrev pub end_of : List SessionEntry → Option SessionEnd
end_of [] = None
end_of (entry ∷ earlier) = option_or (end_of earlier) (end_by entry)

-- the entries that count: what came before the end, the end itself, and all that was handed out
abbrev pub counted_entries : List SessionEntry → List SessionEntry
counted_entries [] = []
counted_entries (handed_out ∷ earlier) = handed_out ∷ counted_entries earlier
counted_entries (entry ∷ earlier) = if is_some (end_of earlier) then counted_entries earlier else entry ∷ counted_entries earlier

abbrev pub is_error_entry : SessionEntry → Bool
is_error_entry (event_reached event) = is_error event
is_error_entry _ = false

abbrev pub is_hand_out : SessionEntry → Bool
is_hand_out handed_out = true
is_hand_out _ = false

-- the server is to be told of it: an error, or a closing
abbrev pub is_change : SessionEntry → Bool
is_change (closed status now) = true
is_change entry = is_error_entry entry

-- the entries after the last that was handed out
abbrev pub since_hand_out : List SessionEntry → List SessionEntry
since_hand_out [] = []
since_hand_out (handed_out ∷ earlier) = []
since_hand_out (entry ∷ earlier) = entry ∷ since_hand_out earlier

-- ---- what is told of a session

-- a session that is closed as `Ok`, or without a status, has exited
abbrev pub closing_status : Option SessionStatus → SessionStatus
closing_status (Some session_status.Crashed) = session_status.Crashed
closing_status (Some session_status.Abnormal) = session_status.Abnormal
closing_status _ = session_status.Exited

abbrev pub end_status : Option SessionEnd → SessionStatus
end_status None = session_status.Ok
end_status (Some crash) = session_status.Crashed
end_status (Some (closing status now)) = closing_status status

-- from the start to the closing, 0 if the clock went back; none without a closing that ended the session
abbrev pub end_duration : ℕ → Option SessionEnd → Option ℕ
end_duration started (Some (closing status now)) = Some (now - started)
end_duration started _ = None

abbrev pub was_handed_out : List SessionEntry → Bool
was_handed_out history = list_any is_hand_out history

abbrev pub count_errors : List SessionEntry → ℕ
count_errors history = min (count_by is_error_entry (counted_entries history)) (2 ^ 64 - 1)

-- nothing was handed out, or a change that counts followed what was handed out last
abbrev pub is_dirty : List SessionEntry → Bool
is_dirty history = not (was_handed_out history) || list_any is_change (since_hand_out (counted_entries history))

-- the session that started so and to which this came
unfoldable pub session_of : SessionStart → List SessionEntry → Session
session_of start history = record {
  start = start;
  status = end_status (end_of history);
  errors = count_errors history;
  duration = end_duration start.started (end_of history);
  init = not (was_handed_out history);
  dirty = is_dirty history;
}

-- the update that the server is to get
abbrev pub update_of : Session → SessionUpdate
update_of session = record {
  session_id = session.start.session_id;
  distinct_id = session.start.distinct_id;
  started = session.start.started;
  init = session.init;
  duration = session.duration;
  status = session.status;
  errors = session.errors;
  attributes = session.start.attributes;
}

-- the update, if there is something to tell
abbrev pub pending_update : Session → Option SessionUpdate
pending_update session = if session.dirty then Some (update_of session) else None

-- the history after the pending update, if any, was handed out
abbrev pub hand_out : Session → List SessionEntry → List SessionEntry
hand_out session history = if session.dirty then handed_out ∷ history else history

-- ---- starts

-- the user's id, or else the email, or else the name
abbrev pub distinct_id_of : Option User → Option Bytes
distinct_id_of None = None
distinct_id_of (Some user) = option_or user.id (option_or user.email user.username)

-- what the sessions of a client with these options have, which needs a release
abbrev pub session_attributes : PlainOptions → Option SessionAttributes
session_attributes options =
    option_map (λ release. record { release = release; environment = options.environment }) options.release

-- the start of a session of this client, whose sessions have these attributes
abbrev pub start_of : ClientKey → SessionAttributes → Option User → List ℕ → ℕ → SessionStart
start_of client attributes user session_id now = record {
  client = client;
  session_id = session_id;
  distinct_id = distinct_id_of user;
  started = now;
  attributes = attributes;
}

-- the session that starts so
abbrev pub new_session : ClientKey → SessionAttributes → Option User → List ℕ → ℕ → Session
new_session client attributes user session_id now = session_of (start_of client attributes user session_id now) []
