use Rattle.std.proofs.Common.{sym}
use Rattle.sentry_state.proofs.Keeping.{entry_present}
use Rattle.sentry_state.proofs.state.State.record_losses.Goals as goal

pub returns-clause-in_world : goal.returns-clause-in_world
returns-clause-in_world g c = λ world s. record {
  tag = s.tag;
  next = s.next;
  clients = s.clients;
  hubs = s.hubs;
  sessions = s.sessions;
  spans = s.spans;
  books =
      entry_present c.args.self.now world s _ c.in-Some.book.now _ _ (sym c.in-Some.ensures.value)
      c.record.ensures;
}
