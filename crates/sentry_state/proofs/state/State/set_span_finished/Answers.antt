use Rattle.std.proofs.Common.{◌∙◌}
use Rattle.sentry_state.specs.SpanChanges.{finished_span}
use Rattle.sentry_state.proofs.SpanKeeping.{span_replaced}
use Rattle.sentry_state.proofs.state.State.set_span_finished.Goals as goal

pub returns : goal.returns
returns g c = λ world held s found. record {
  tag = s.tag;
  next = s.next;
  clients = s.clients;
  hubs = s.hubs;
  sessions = s.sessions;
  books = s.books;
  spans =
      c.set_finished.ensures held found
      ∙ span_replaced c.args.self.now world s c.args.number (finished_span c.args.moment held);
}
