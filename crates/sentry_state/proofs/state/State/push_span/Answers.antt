use Rattle.std.proofs.Common.{◌∙◌, ◌++◌, ◌∷◌, [], sym}
use Rattle.sentry_span_table.specs.SpanLists.{stored_transaction, with_span_finished}
use Rattle.sentry_span_table.proofs.SpanListLemmas.{finished_kept}
use Rattle.sentry_state.proofs.SpanKeeping.{transaction_replaced}
use Rattle.sentry_state.proofs.state.State.push_span.Goals as goal

-- the transaction keeps one span more
pub returns-clause-in_world : goal.returns-clause-in_world
returns-clause-in_world g c = λ world state s found fate. record {
  tag = s.tag;
  next = s.next;
  clients = s.clients;
  hubs = s.hubs;
  sessions = s.sessions;
  books = s.books;
  spans =
      c.in_ok-push_span.ensures.ok (stored_transaction state) found
      ∙ transaction_replaced c.args.self.now world s c.args.number (with_span_finished c.args.span state)
      (record (stored_transaction state) { spans = (stored_transaction state).spans ++ c.args.span ∷ [] })
      (sym (finished_kept state c.args.span fate));
}
