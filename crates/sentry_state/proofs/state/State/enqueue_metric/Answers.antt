use Rattle.std.proofs.Common.{◌≡◌, ◌∙◌, Some, ap}
use Rattle.sentry_batches.specs.Batches.{accept}
use Rattle.sentry_state.specs.declared.state.ClientState.{ClientState}
use Rattle.sentry_state.specs.Worlds.{stored_client}
use Rattle.sentry_state.proofs.Keeping.{client_replaced, metrics_changed}
use Rattle.sentry_state.proofs.state.State.enqueue_metric.Goals as goal

pub returns-clause-in_world : goal.returns-clause-in_world
returns-clause-in_world g c = λ world client s found.
    let same : Some c.in-Some.client.now ≡ Some (stored_client client) = c.in-Some.ensures.value ∙ found in
    let is : c.in-Some.client.now ≡ stored_client client = cc in
    let batch = c.in_ok-batch.ensures.queue client.options.plain.max_batch_items client.queues.metrics client.queues.metric_tick (ap (λ (kept : ClientState g.row.C.Denot). kept.queues.metrics) is) in
    record {
      tag = s.tag;
      next = s.next;
      clients = client_replaced c.args.self.now world s _ _ _ (metrics_changed client c.in-Some.client.now (accept c.args.metric) c.enqueue.new.self is batch);
      hubs = s.hubs;
      sessions = s.sessions;
      books = s.books;
      spans = s.spans;
    }

pub returns-clause-batch : goal.returns-clause-batch
returns-clause-batch g c = λ client found.
    let same : Some c.in-Some.client.now ≡ Some (stored_client client) = c.in-Some.ensures.value ∙ found in
    let is : c.in-Some.client.now ≡ stored_client client = cc in
    c.in_ok-batch.ensures.batch client.options.plain.max_batch_items client.queues.metrics client.queues.metric_tick (ap (λ (kept : ClientState g.row.C.Denot). kept.queues.metrics) is)
