use Rattle.std.proofs.Common.{sym, ap, subst, ◌≡◌, ◌∙◌, ◌∷◌, Some, None, true, false, rules}
use Rattle.std.specs.Prelude.{if◌then◌else◌}
use Rattle.sentry_plain.specs.Tables.{value_at}
use Rattle.sentry_sessions.specs.SessionSteps.{close}
use Rattle.sentry_sessions.specs.Sessions.{closed, session_of, pending_update, update_of}
use Rattle.sentry_sessions.specs.declared.session.record.Session.{Session}
use Rattle.sentry_sessions.proofs.SessionLemmas.{told_at_end}
use Rattle.sentry_sending.specs.Sending.{Sending, queue_update}
use Rattle.sentry_state.specs.Outcomes.{session_at}
use Rattle.sentry_state.specs.Worlds.{World, Stands}
use Rattle.sentry_state.proofs.Keeping.{session_state}
use Rattle.sentry_sending.proofs.SendingLemmas.{end_session_is, end_session_untold, forget, session_held}
use Rattle.sentry_sending.proofs.session_ends.end_session.Goals as goal

-- the session that was found stands in the world; what it is after the closing is to be told
pub returns-clause-in_world : goal.returns-clause-in_world
unfolding session_of
returns-clause-in_world g c = λ world s.
    let status = c.args.status in
    let now = c.args.now in
    let kept = c.in-Some.session.now in
    let found = session_state (session_at world c.args.key) kept (c.in-Some.ensures world s) in
    let session = found.0 in
    let update = update_of (close status now kept) in
    let dirty : c.is_dirty_at_end.result ≡ true = search rules in
    let told : pending_update (session_of session.start (closed status now ∷ session.history)) ≡ Some update =
    sym (told_at_end status now kept session.start session.history found.2)
    ∙ ap (λ b. if b then Some update else None) (sym (c.is_dirty_at_end.ensures status now) ∙ dirty) in
    let there : value_at c.args.state.now.sessions c.args.key.number ≡ Some kept =
    session_held c.args.state.now world s c.args.key session found.1 ∙ ap Some (sym found.2) in
    let client = ap (λ (held : Session). held.start.client) found.2 in
    let queued = c.in_ok-sent.ensures.in_world kept there world s in
    let removed = c.remove_session-2.ensures.in_world _ queued.1 in
    let expected =
    (λ i. forget c.args.key (queue_update (client i) update world))
    ∙ sym (end_session_is c.args.key status now world session update found.1 told) in (
      queued.0 ∙ ap (λ (sending : Sending g.row.P.Denot g.row.C.Denot). sending.sent) expected,
      subst (λ (w : World g.row.P.Denot g.row.C.Denot). Stands c.remove_session-2.new.self w)
          (ap (λ (sending : Sending g.row.P.Denot g.row.C.Denot). sending.after) expected) removed,
    )

-- the server knows all of the session that was found
pub returns-then-not-is_dirty_at_end-clause-in_world : goal.returns-then-not-is_dirty_at_end-clause-in_world
returns-then-not-is_dirty_at_end-clause-in_world g c = λ world s.
    let status = c.args.status in
    let now = c.args.now in
    let kept = c.in-Some.session.now in
    let found = session_state (session_at world c.args.key) kept (c.in-Some.ensures world s) in
    let session = found.0 in
    let clean : c.is_dirty_at_end.result ≡ false = search rules in
    let told : pending_update (session_of session.start (closed status now ∷ session.history)) ≡ None =
    sym (told_at_end status now kept session.start session.history found.2)
    ∙ ap (λ b. if b then Some (update_of (close status now kept)) else None) (sym (c.is_dirty_at_end.ensures status now) ∙ clean) in
    let expected = sym (end_session_untold c.args.key status now world session found.1 told) in (
      c.new-then-not-is_dirty_at_end.ensures ∙ ap (λ (sending : Sending g.row.P.Denot g.row.C.Denot). sending.sent) expected,
      subst (λ (w : World g.row.P.Denot g.row.C.Denot). Stands c.remove_session.new.self w)
          (ap (λ (sending : Sending g.row.P.Denot g.row.C.Denot). sending.after) expected) (c.remove_session.ensures.in_world world s),
    )
