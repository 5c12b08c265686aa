use Rattle.std.proofs.Common.{◌≡◌, ◌∙◌, ◌∷◌, Some, ap}
use Rattle.sentry_sessions.specs.Sessions.{update_of}
use Rattle.sentry_sessions.specs.SessionSteps.{close}
use Rattle.sentry_sessions.specs.SessionQueues.{enqueued, queue_of}
use Rattle.sentry_sessions.specs.declared.session.record.Session.{Session}
use Rattle.sentry_state.specs.declared.state.ClientState.{ClientState}
use Rattle.sentry_state.specs.Worlds.{stored_client}
use Rattle.sentry_state.proofs.Keeping.{client_replaced, queue_changed}
use Rattle.sentry_state.proofs.state.State.enqueue_closed.Goals as goal

pub returns-clause-in_world : goal.returns-clause-in_world
returns-clause-in_world g c = λ session there world client s found.
    let same : Some c.in-Some-get_mut.client.now ≡ Some (stored_client client) = c.in-Some-get_mut.ensures.value ∙ found in
    let is : c.in-Some-get_mut.client.now ≡ stored_client client = cc in
    let found_session : Some c.in-Some.held.now ≡ Some session = c.in-Some.ensures ∙ there in
    let held : c.in-Some.held.now ≡ session = cc in
    let queue = c.in_ok-mark_closed.ensures.after _ _ (ap (λ (kept : ClientState g.row.C.Denot). kept.queues.sessions) is) in
    let entry = λ (kept : Session). enqueued (update_of (close c.args.status c.args.now kept)) in
    let told = queue ∙ ap (λ kept. queue_of client.options.plain.session_mode (entry kept ∷ client.queues.sessions)) held in
    record {
      tag = s.tag;
      next = s.next;
      clients = client_replaced c.args.self.now world s _ _ _ (queue_changed client c.in-Some-get_mut.client.now _ _ is told);
      hubs = s.hubs;
      sessions = s.sessions;
      books = s.books;
      spans = s.spans;
    }
