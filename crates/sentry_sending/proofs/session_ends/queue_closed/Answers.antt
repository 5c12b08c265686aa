use Rattle.std.proofs.Common.{refl, sym, ap, subst, ◌≡◌, ◌∙◌, Some, true, false, rules}
use Rattle.std.proofs.lemmas.Bool.{and_parts}
use Rattle.std.specs.Prelude.{◌&&◌}
use Rattle.sentry_plain.specs.Tables.{value_at}
use Rattle.sentry_sessions.specs.SessionQueues.{enqueued, envelopes_on}
use Rattle.sentry_sessions.specs.QueueSteps.{fills_queue}
use Rattle.sentry_sessions.specs.SessionSteps.{close}
use Rattle.sentry_sessions.specs.Sessions.{update_of}
use Rattle.sentry_sessions.specs.declared.session.record.Session.{Session}
use Rattle.sentry_state.specs.Books.{pending_report}
use Rattle.sentry_sending.specs.Sending.{Sending, for_client, after_sending, queue_update}
use Rattle.sentry_state.specs.Changes.{with_client_history, with_client_entry}
use Rattle.sentry_state.specs.Worlds.{World, Stands, stored_client}
use Rattle.sentry_state.specs.declared.state.ClientState.{ClientState}
use Rattle.sentry_state.proofs.Keeping.{client_state}
use Rattle.sentry_sending.proofs.SendingLemmas.{queue_update_is}
use Rattle.sentry_sending.proofs.TakenLemmas.{unsent, for_occupied}
use Rattle.sentry_sending.proofs.session_ends.queue_closed.Goals as goal

-- nothing leaves the client that was found
pub returns-then-not-sends-clause-in_world : goal.returns-then-not-sends-clause-in_world
returns-then-not-sends-clause-in_world g c = λ session there world s.
    let held : c.in-Some.session.now ≡ session = (let same : Some c.in-Some.session.now ≡ Some session = c.in-Some.ensures ∙ there in cc) in
    let update = update_of (close c.args.status c.args.now c.in-Some.session.now) in
    let found = client_state c.args.state.now world s c.args.key c.in-Some-client_at.client.now (c.in-Some-client_at.ensures.in_world world s) in
    let client = found.0 in
    let is : c.in-Some-client_at.client.now ≡ stored_client client = found.3 in
    let going_on : client.closed ≡ false = sym (ap (λ (kept : ClientState g.row.C.Denot). kept.closed) is) ∙ c.if-client.false in
    let envelopes = envelopes_on client.options.plain.session_mode update client.queues.sessions in
    let queued = with_client_history world c.args.key (with_client_entry (enqueued update) client) in
    let down : (c.in-Some-client_at.client.now.occupied && c.fills_queue_at_end.result) ≡ false = search rules in
    let quiet : (client.occupied && c.fills_queue_at_end.result) ≡ false =
    sym (ap (λ (kept : ClientState g.row.C.Denot). kept.occupied && c.fills_queue_at_end.result) is) ∙ down in
    let none = unsent c.args.key client.occupied c.fills_queue_at_end.result (pending_report queued client.label) envelopes quiet
    (c.fills_queue_at_end.ensures.none _ _ c.args.status c.args.now (ap (λ (kept : ClientState g.row.C.Denot). kept.queues.sessions) is)) in
    let stands = c.in_ok-enqueue_closed.ensures.in_world c.in-Some.session.now (sym c.in-Some.ensures) world client s found.1 in
    let expected = sym (queue_update_is c.args.key update world client found.2 going_on)
    ∙ ap (λ (kept : Session). queue_update c.args.key (update_of (close c.args.status c.args.now kept)) world) held in (
      c.new-then-not-sends.ensures ∙ (none ∙ ap (λ (sending : Sending g.row.P.Denot g.row.C.Denot). sending.sent) expected),
      subst (λ (w : World g.row.P.Denot g.row.C.Denot). Stands c.enqueue_closed.new.self w)
          (ap (λ sent. after_sending client.label sent queued) none ∙ ap (λ (sending : Sending g.row.P.Denot g.row.C.Denot). sending.after) expected)
          stands,
    )

-- it is the hundredth
pub send_all-requires-clause-sends : goal.send_all-requires-clause-sends
send_all-requires-clause-sends g c = λ client session found there.
    let held : c.in-Some.session.now ≡ session = (let same : Some c.in-Some.session.now ≡ Some session = c.in-Some.ensures ∙ there in cc) in
    let same : Some c.in-Some-client_at.client.now ≡ Some client = sym (c.in-Some-client_at.ensures.in_table c.in-Some-client_at.client.now refl) ∙ found in
    let is : c.in-Some-client_at.client.now ≡ client = cc in
    let up : (c.in-Some-client_at.client.now.occupied && c.fills_queue_at_end.result) ≡ true = search rules in
    (λ i. fills_queue (update_of (close c.args.status c.args.now (sym held i))) (sym is i).queues.sessions)
    ∙ (sym (c.fills_queue_at_end.ensures.test c.args.status c.args.now)
    ∙ (and_parts c.in-Some-client_at.client.now.occupied c.fills_queue_at_end.result up).1)

-- all that waits leaves the client that was found
pub returns-clause-in_world : goal.returns-clause-in_world
returns-clause-in_world g c = λ session there world s.
    let update = update_of (close c.args.status c.args.now session) in
    let found = client_state c.args.state.now world s c.args.key c.in-Some-client_at.client.now (c.in-Some-client_at.ensures.in_world world s) in
    let client = found.0 in
    let is : c.in-Some-client_at.client.now ≡ stored_client client = found.3 in
    let going_on : client.closed ≡ false = sym (ap (λ (kept : ClientState g.row.C.Denot). kept.closed) is) ∙ c.if-client.false in
    let up : (c.in-Some-client_at.client.now.occupied && c.fills_queue_at_end.result) ≡ true = search rules in
    let occupied : client.occupied ≡ true =
    sym (ap (λ (kept : ClientState g.row.C.Denot). kept.occupied) is) ∙ (and_parts c.in-Some-client_at.client.now.occupied c.fills_queue_at_end.result up).0 in
    let all = c.in_ok-sent.ensures.in_world world client session s found.1 there in
    let sent = all.0
    ∙ ((λ i. for_client c.args.key (pending_report world (is i).label) (envelopes_on client.options.plain.session_mode update client.queues.sessions))
    ∙ for_occupied c.args.key client.occupied (pending_report world client.label) _ occupied) in
    let expected = sym (queue_update_is c.args.key update world client found.2 going_on) in (
      sent ∙ ap (λ (sending : Sending g.row.P.Denot g.row.C.Denot). sending.sent) expected,
      subst (λ (w : World g.row.P.Denot g.row.C.Denot). Stands c.send_all.new.state w)
          ((λ i. after_sending (is i).label (sent i) (with_client_history world c.args.key (with_client_entry (enqueued update) client)))
          ∙ ap (λ (sending : Sending g.row.P.Denot g.row.C.Denot). sending.after) expected)
          all.1,
    )
