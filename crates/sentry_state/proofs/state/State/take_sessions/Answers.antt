use Rattle.std.proofs.Common.{◌≡◌, ◌∙◌, Some, ap, sym}
use Rattle.sentry_state.specs.declared.state.ClientState.{ClientState}
use Rattle.sentry_state.specs.Worlds.{stored_client}
use Rattle.sentry_state.proofs.Keeping.{client_replaced, queue_changed}
use Rattle.sentry_state.proofs.state.State.take_sessions.Goals as goal

pub take_on-requires : goal.take_on-requires
take_on-requires g c = c.requires.sends c.in-Some.client.now (sym c.in-Some.ensures.value)

pub returns-clause-in_world : goal.returns-clause-in_world
returns-clause-in_world g c = λ world client s found.
    let same : Some c.in-Some.client.now ≡ Some (stored_client client) = c.in-Some.ensures.value ∙ found in
    let is : c.in-Some.client.now ≡ stored_client client = cc in
    let queue = c.in_ok-taken.ensures.after _ _ (ap (λ (kept : ClientState g.row.C.Denot). kept.queues.sessions) is) in
    record {
      tag = s.tag;
      next = s.next;
      clients = client_replaced c.args.self.now world s _ _ _ (queue_changed client c.in-Some.client.now _ _ is queue);
      hubs = s.hubs;
      sessions = s.sessions;
      books = s.books;
      spans = s.spans;
    }

pub returns-clause-sent : goal.returns-clause-sent
returns-clause-sent g c = λ client found.
    let same : Some c.in-Some.client.now ≡ Some (stored_client client) = c.in-Some.ensures.value ∙ found in
    let is : c.in-Some.client.now ≡ stored_client client = cc in
    c.in_ok-taken.ensures.sent _ _ (ap (λ (kept : ClientState g.row.C.Denot). kept.queues.sessions) is)
