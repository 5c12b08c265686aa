use Rattle.std.proofs.Common.{◌≡◌, ◌∙◌, Some}
use Rattle.sentry_state.specs.Worlds.{stored_client}
use Rattle.sentry_state.proofs.Keeping.{client_replaced}
use Rattle.sentry_telemetry.proofs.flushes.take_flushed.Goals as goal

pub returns-clause-in_world : goal.returns-clause-in_world
returns-clause-in_world g c = λ world client s found.
    let same : Some c.in-Some.client.now ≡ Some (stored_client client) = c.in-Some.ensures.value ∙ found in
    let is : c.in-Some.client.now ≡ stored_client client = cc in
    record {
      tag = s.tag;
      next = s.next;
      clients = client_replaced c.args.state.now world s _ _ _ (c.flush_client.ensures.client client is);
      hubs = s.hubs;
      sessions = s.sessions;
      books = s.books;
      spans = s.spans;
    }
