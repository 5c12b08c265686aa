use Rattle.std.proofs.Common.{◌≡◌, ◌∙◌, ap, sym, subst, Some}
use Rattle.sentry_base.specs.declared.protocol.session.SessionUpdate.{SessionUpdate}
use Rattle.sentry_sessions.specs.QueueSteps.{fills_queue}
use Rattle.sentry_sessions.specs.SessionQueues.{enqueued, envelopes_on}
use Rattle.sentry_sessions.specs.SessionSteps.{close}
use Rattle.sentry_sessions.specs.Sessions.{update_of}
use Rattle.sentry_sessions.specs.declared.session.record.Session.{Session}
use Rattle.sentry_state.specs.Books.{pending_report}
use Rattle.sentry_state.specs.Changes.{with_client_entry, with_client_history}
use Rattle.sentry_state.specs.Worlds.{Stands}
use Rattle.sentry_sending.specs.Sending.{after_sending, for_client}
use Rattle.sentry_sending.proofs.session_ends.send_all.Goals as goal

-- it is the hundredth
pub take_sessions-requires-clause-sends : goal.take_sessions-requires-clause-sends
take_sessions-requires-clause-sends g c = λ client found.
    ap (λ update. fills_queue update client.queues.sessions) c.in_ok-update.ensures
    ∙ c.requires.sends client c.in-Some.session.now found (sym c.in-Some.ensures)

-- all that waits leaves the client
pub returns-clause-in_world : goal.returns-clause-in_world
returns-clause-in_world g c = λ world client session s found there.
    let same : Some c.in-Some.session.now ≡ Some session = c.in-Some.ensures ∙ there in
    let held : c.in-Some.session.now ≡ session = cc in
    let told = c.in_ok-update.ensures ∙ ap (λ (kept : Session). update_of (close c.args.status c.args.now kept)) held in
    let mode = client.options.plain.session_mode in (
      c.send_taken-sent.ensures
          ∙ ((λ i. for_client c.args.key (c.in_ok-report.ensures world s i) (c.in_ok-taken.ensures.sent client found i))
          ∙ ap (λ (update : SessionUpdate). for_client c.args.key (pending_report world c.args.label) (envelopes_on mode update client.queues.sessions)) told),
      subst (λ (update : SessionUpdate).
          Stands c.mark_sent.new.state (after_sending c.args.label c.send_taken-sent.result (with_client_history world c.args.key (with_client_entry (enqueued update) client))))
          told (c.mark_sent.ensures.in_world _ (c.in_ok-taken.ensures.in_world world client s found)),
    )
