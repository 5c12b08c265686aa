use Rattle.std.proofs.Common.{◌∙◌}
use Rattle.sentry_state.proofs.Keeping.{session_replaced}
use Rattle.sentry_state.proofs.state.State.set_session.Goals as goal

pub returns-clause-in_world : goal.returns-clause-in_world
returns-clause-in_world g c = λ world session s is. record {
  tag = s.tag;
  next = s.next;
  clients = s.clients;
  hubs = s.hubs;
  sessions = c.set.ensures ∙ session_replaced c.args.self.now world s _ session _ is;
  books = s.books;
  spans = s.spans;
}
