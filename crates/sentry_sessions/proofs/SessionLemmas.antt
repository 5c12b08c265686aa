-- Sessions: what one call does to what is kept is what one more entry does to what the history says.
use Rattle.std.proofs.Common.{◌≡◌, ◌≢◌, ◌+◌, ◌-◌, ◌^◌, ◌||◌, min, ℕ, Bool, true, false, not, cond, Option, Some, None, List, [], ◌∷◌, ◌++◌, refl, sym, ap, ◌∙◌, arith}
use Rattle.std.proofs.Math.Bool.{or-true}
use Rattle.std.proofs.lemmas.List.Sums.{sum_by-cons}
use Rattle.std.specs.Prelude.{count_by, is_some, if◌then◌else◌}
use Rattle.std.specs.Option.{option_or}
use Rattle.std.specs.List.{list_any}
use Rattle.sentry_base.specs.declared.protocol.event.Event.{Event}
use Rattle.sentry_base.specs.declared.protocol.session.SessionStatus.{SessionStatus}
use Rattle.sentry_base.specs.declared.protocol.session.SessionStatus.TheVariants as session_status
use Rattle.sentry_sessions.specs.declared.session.record.Session.{Session}
use Rattle.sentry_sessions.specs.declared.session.record.SessionStart.{SessionStart}
use Rattle.sentry_sessions.specs.Sessions.{SessionEntry, event_reached, handed_out, closed, SessionEnd, crash, closing, end_by, end_of, end_status, end_duration, closing_status, counted_entries, is_crash, is_error, is_error_entry, is_change, since_hand_out, was_handed_out, session_of, pending_update}
use Rattle.sentry_sessions.specs.SessionLaws.{EndedStatusStays}
use Rattle.sentry_sessions.specs.SessionSteps.{has_ended, count_event, end_at, update_from_event, close, mark_handed_out}

-- the session with this end, these entries that count, and an update handed out or none
abbrev read : SessionStart → Option SessionEnd → List SessionEntry → Bool → Session
read start end counted told = record {
  start = start;
  status = end_status end;
  errors = min (count_by is_error_entry counted) (2 ^ 64 - 1);
  duration = end_duration start.started end;
  init = not told;
  dirty = not told || list_any is_change (since_hand_out counted);
}

add_one : (b : Bool) (n m : ℕ) → min (cond b 1 0 + n) m ≡ cond b (min (min n m + 1) m) (min n m)
add_one true n m = omega arith
add_one false n m = omega arith

crash_status : (b : Bool) → cond b session_status.Crashed session_status.Ok ≡ end_status (cond b (Some crash) None)
crash_status true = refl
crash_status false = refl

no_duration : (started : ℕ) (b : Bool) → None ≡ end_duration started (cond b (Some crash) None)
no_duration started true = refl
no_duration started false = refl

or_swap : (a b c : Bool) → (a || (b || c)) ≡ (b || (a || c))
or_swap true true c = refl
or_swap true false c = refl
or_swap false true c = refl
or_swap false false c = refl

or_none : {A : Type 0} (o : Option A) → option_or o None ≡ o
or_none None = refl
or_none (Some x) = refl

is_over : (status : Option SessionStatus) → has_ended (closing_status status) ≡ true
is_over None = refl
is_over (Some session_status.Ok) = refl
is_over (Some session_status.Exited) = refl
is_over (Some session_status.Crashed) = refl
is_over (Some session_status.Abnormal) = refl

after_event : (start : SessionStart) (end : Option SessionEnd) (counted : List SessionEntry) (told : Bool) (event : Event)
    → update_from_event event (read start end counted told)
    ≡ read start (option_or end (end_by (event_reached event))) (if is_some end then counted else event_reached event ∷ counted) told
after_event start (Some crash) counted told event = refl
after_event start (Some (closing status now)) counted told event = rw (is_over status) refl
after_event start None counted told event = λ i. record {
  start = start;
  status = crash_status (is_crash event) i;
  errors = sym (ap (λ (n : ℕ). min n (2 ^ 64 - 1)) (sum_by-cons (λ (entry : SessionEntry). cond (is_error_entry entry) 1 0) (event_reached event) counted)
      ∙ add_one (is_error event) (count_by is_error_entry counted) (2 ^ 64 - 1)) i;
  duration = no_duration start.started (is_crash event) i;
  init = not told;
  dirty = or_swap (is_error event) (not told) (list_any is_change (since_hand_out counted)) i;
}

after_close : (start : SessionStart) (end : Option SessionEnd) (counted : List SessionEntry) (told : Bool) (status : Option SessionStatus) (now : ℕ)
    → close status now (read start end counted told)
    ≡ read start (option_or end (Some (closing status now))) (if is_some end then counted else closed status now ∷ counted) told
after_close start (Some crash) counted told status now = refl
after_close start (Some (closing first ended)) counted told status now = rw (is_over first) refl
after_close start None counted told status now = rw (or-true (not told)) refl

-- an event
pub update_from_event_is : (event : Event) (start : SessionStart) (history : List SessionEntry)
    → update_from_event event (session_of start history) ≡ session_of start (event_reached event ∷ history)
unfolding session_of
update_from_event_is event start history =
    after_event start (end_of history) (counted_entries history) (was_handed_out history) event

-- a closing
pub close_is : (status : Option SessionStatus) (now : ℕ) (start : SessionStart) (history : List SessionEntry)
    → close status now (session_of start history) ≡ session_of start (closed status now ∷ history)
unfolding session_of
close_is status now start history = after_close start (end_of history) (counted_entries history) (was_handed_out history) status now

pub event_ended : (event : Event) (session : Session) (start : SessionStart) (history : List SessionEntry)
    → has_ended session.status ≡ true → session ≡ session_of start history → session ≡ session_of start (event_reached event ∷ history)
event_ended event session start history over is =
    ap (λ (b : Bool). cond b session (count_event event session)) (sym over)
    ∙ (ap (update_from_event event) is ∙ update_from_event_is event start history)

pub event_counted : (event : Event) (session : Session) (start : SessionStart) (history : List SessionEntry)
    → has_ended session.status ≡ false → session ≡ session_of start history → count_event event session ≡ session_of start (event_reached event ∷ history)
event_counted event session start history goes_on is =
    ap (λ (b : Bool). cond b session (count_event event session)) (sym goes_on)
    ∙ (ap (update_from_event event) is ∙ update_from_event_is event start history)

pub close_ended : (status : Option SessionStatus) (now : ℕ) (session : Session) (start : SessionStart) (history : List SessionEntry)
    → has_ended session.status ≡ true → session ≡ session_of start history → session ≡ session_of start (closed status now ∷ history)
close_ended status now session start history over is =
    ap (λ (b : Bool). cond b session (end_at status now session)) (sym over)
    ∙ (ap (close status now) is ∙ close_is status now start history)

pub close_counted : (status : Option SessionStatus) (now : ℕ) (session : Session) (start : SessionStart) (history : List SessionEntry)
    → has_ended session.status ≡ false → session ≡ session_of start history → end_at status now session ≡ session_of start (closed status now ∷ history)
close_counted status now session start history goes_on is =
    ap (λ (b : Bool). cond b session (end_at status now session)) (sym goes_on)
    ∙ (ap (close status now) is ∙ close_is status now start history)

-- the update of a session once it is closed
pub told_at_end : (status : Option SessionStatus) (now : ℕ) (session : Session) (start : SessionStart) (history : List SessionEntry)
    → session ≡ session_of start history
    → pending_update (close status now session) ≡ pending_update (session_of start (closed status now ∷ history))
told_at_end status now session start history is = ap pending_update (ap (close status now) is ∙ close_is status now start history)

-- a closing is not handed out
pub close_init : (status : Option SessionStatus) (now : ℕ) (session : Session) → (close status now session).init ≡ session.init
close_init status now session = by_end (has_ended session.status)
  where
    by_end : (b : Bool) → (if b then session else end_at status now session).init ≡ session.init
    by_end true = refl
    by_end false = refl

-- a hand-out
pub mark_handed_out_is : (start : SessionStart) (history : List SessionEntry)
    → mark_handed_out (session_of start history) ≡ session_of start (handed_out ∷ history)
unfolding session_of
mark_handed_out_is start history =
    rw (or_none (end_of history)) refl

still_ended : (later history : List SessionEntry) (end : SessionEnd) → end_of history ≡ Some end → end_of (later ++ history) ≡ Some end
still_ended [] history end h = h
still_ended (entry ∷ later) history end h = rw (still_ended later history end h) refl

status_stays : (history later : List SessionEntry) (end : Option SessionEnd) → end_of history ≡ end → end_status end ≢ session_status.Ok
    → end_status (end_of (later ++ history)) ≡ end_status end
status_stays history later None p n = absurd (n refl)
status_stays history later (Some end) p n = ap end_status (still_ended later history end p)

pub ended_status_stays_is : EndedStatusStays
unfolding session_of
ended_status_stays_is start history later n = status_stays history later (end_of history) refl n
