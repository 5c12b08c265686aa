use Rattle.std.proofs.Common.{◌∙◌, Option, sym, ap, subst}
use Rattle.sentry_span_table.specs.SpanLists.{TransactionHistory, stored_transaction}
use Rattle.sentry_state.specs.Outcomes.{transaction_at}
use Rattle.sentry_state.specs.SpanChanges.{with_transaction}
use Rattle.sentry_state.specs.Worlds.{World, Stands}
use Rattle.sentry_state.proofs.SpanKeeping.{no_transaction, transaction_in_table, transaction_replaced, transaction_state}
use Rattle.sentry_span_edits.specs.Edits.{edit_held, edit_transaction}
use Rattle.sentry_span_edits.specs.Setters.{with_found_edited}
use Rattle.sentry_span_edits.proofs.EditLemmas.{held_edited}
use Rattle.sentry_span_edits.proofs.edits.edit_transaction.Goals as goal

-- nothing changes where the world has no transaction
pub returns-in_default-clause-in_world : goal.returns-in_default-clause-in_world
returns-in_default-clause-in_world g c = λ world s.
    let none = no_transaction (transaction_at world c.args.key) (c.in_default.ensures.in_world world s) in
    subst (λ (w : World g.row.P.Denot g.row.C.Denot). Stands c.args.state.now w)
    (sym (ap (λ (o : Option TransactionHistory). with_found_edited c.args.edit c.args.key.number o world) none)) s

-- the transaction of the world is edited
pub returns-clause-in_world : goal.returns-clause-in_world
returns-clause-in_world g c = λ world s.
    let found = transaction_state (transaction_at world c.args.key) c.in-Some._held.now (c.in-Some.ensures.in_world world s) in
    let state = found.0 in
    let after = edit_transaction c.args.edit state in
    let stands : Stands (record c.args.state.now { spans = c.edit_transaction_at.new.spans })
    (with_transaction c.args.key.number after world) = record {
      tag = s.tag;
      next = s.next;
      clients = s.clients;
      hubs = s.hubs;
      sessions = s.sessions;
      books = s.books;
      spans =
          c.in_ok-edit_transaction_at.ensures.ok (stored_transaction state)
          (transaction_in_table c.args.state.now world s c.args.key state found.1)
          ∙ transaction_replaced c.args.state.now world s c.args.key.number after
          (edit_held c.args.edit (stored_transaction state)) (held_edited c.args.edit state);
    } in
    subst (λ (w : World g.row.P.Denot g.row.C.Denot). Stands (record c.args.state.now { spans = c.edit_transaction_at.new.spans }) w)
    (sym (ap (λ (o : Option TransactionHistory). with_found_edited c.args.edit c.args.key.number o world) found.1)) stands
