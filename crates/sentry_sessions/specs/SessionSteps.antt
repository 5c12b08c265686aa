-- What one call does to a session that is kept. `Session`'s contracts say that this is what its history says.
use Rattle.std.specs.Prelude.{ℕ, ◌+◌, ◌-◌, ◌^◌, ◌||◌, min, Bool, true, false, Option, Some, if◌then◌else◌}
use Rattle.sentry_base.specs.declared.protocol.event.Event.{Event}
use Rattle.sentry_base.specs.declared.protocol.session.SessionStatus.{SessionStatus}
use Rattle.sentry_base.specs.declared.protocol.session.SessionStatus.TheVariants as session_status
use Rattle.sentry_sessions.specs.declared.session.record.Session.{Session}
use Rattle.sentry_sessions.specs.Sessions.{is_error, is_crash, closing_status}

abbrev pub has_ended : SessionStatus → Bool
has_ended session_status.Ok = false
has_ended _ = true

-- a session that goes on, after an event
abbrev pub count_event : Event → Session → Session
count_event event session = record session {
  status = if is_crash event then session_status.Crashed else session.status;
  errors = if is_error event then min (session.errors + 1) (2 ^ 64 - 1) else session.errors;
  dirty = is_error event || session.dirty;
}

-- a session that goes on, after a closing
abbrev pub end_at : Option SessionStatus → ℕ → Session → Session
end_at status now session = record session {
  status = closing_status status;
  duration = Some (now - session.start.started);
  dirty = true;
}

abbrev pub update_from_event : Event → Session → Session
update_from_event event session = if has_ended session.status then session else count_event event session

abbrev pub close : Option SessionStatus → ℕ → Session → Session
close status now session = if has_ended session.status then session else end_at status now session

abbrev pub mark_handed_out : Session → Session
mark_handed_out session = record session { init = false; dirty = false }
