use Rattle.std.proofs.Common.{◌∙◌, ◌++◌, ◌∷◌, [], sym}
use Rattle.sentry_span_table.specs.SpanLists.{stored_transaction, with_span_finished}
use Rattle.sentry_span_table.proofs.SpanListLemmas.{finished_kept}
use Rattle.sentry_state.specs.SpanChanges.{finished_span}
use Rattle.sentry_state.proofs.SpanKeeping.{span_moved}
use Rattle.sentry_state.proofs.state.State.move_span.Goals as goal

-- the transaction keeps one span more, which is no longer held
pub returns-clause-in_world : goal.returns-clause-in_world
returns-clause-in_world g c = λ world held state s found there fate.
    let span = (finished_span c.args.moment held).span in
    record {
      tag = s.tag;
      next = s.next;
      clients = s.clients;
      hubs = c.forget_span.ensures ∙ s.hubs;
      sessions = s.sessions;
      books = s.books;
      spans =
          c.in_ok-move_span.ensures.ok held (stored_transaction state) found there
          ∙ span_moved c.args.self.now world s c.args.number c.args.transaction (with_span_finished span state)
          (record (stored_transaction state) { spans = (stored_transaction state).spans ++ span ∷ [] })
          (sym (finished_kept state span fate));
    }
