use Rattle.std.proofs.Common.{◌∙◌, [], None, Option, refl, sym, ap, subst}
use Rattle.sentry_span_table.specs.SpanLists.{TransactionHistory, stored_transaction}
use Rattle.sentry_state.specs.Outcomes.{transaction_at}
use Rattle.sentry_state.specs.SpanChanges.{finished_transaction, with_found_finished, with_transaction}
use Rattle.sentry_state.specs.Worlds.{World, Stands}
use Rattle.sentry_state.proofs.SpanKeeping.{no_transaction, transaction_in_table, transaction_replaced, transaction_state, transaction_under}
use Rattle.sentry_state.proofs.state.State.close_transaction.Goals as goal

-- nothing is closed where the world has no transaction
pub returns-in_default-clause-in_world : goal.returns-in_default-clause-in_world
returns-in_default-clause-in_world g c = λ world s.
    let none = no_transaction (transaction_at world c.args.key) (c.in_default.ensures.in_world world s) in
    subst (λ (w : World g.row.P.Denot g.row.C.Denot). Stands c.args.self.now w)
    (sym (ap (λ (o : Option TransactionHistory). with_found_finished c.args.key.number o world) none)) s

-- the transaction of the world is closed
pub returns-clause-in_world : goal.returns-clause-in_world
returns-clause-in_world g c = λ world s.
    let found = transaction_state (transaction_at world c.args.key) c.in-Some._held.now (c.in-Some.ensures.in_world world s) in
    let state = found.0 in
    let stands : Stands (record c.args.self.now { spans = c.close_transaction.new.self })
    (with_transaction c.args.key.number (finished_transaction state) world) = record {
      tag = s.tag;
      next = s.next;
      clients = s.clients;
      hubs = s.hubs;
      sessions = s.sessions;
      books = s.books;
      spans =
          c.close_transaction.ensures.rest (stored_transaction state)
          (transaction_in_table c.args.self.now world s c.args.key state found.1)
          ∙ transaction_replaced c.args.self.now world s c.args.key.number (finished_transaction state)
          (record (stored_transaction state) { unfinished = None; spans = [] }) refl;
    } in
    subst (λ (w : World g.row.P.Denot g.row.C.Denot). Stands (record c.args.self.now { spans = c.close_transaction.new.self }) w)
    (sym (ap (λ (o : Option TransactionHistory). with_found_finished c.args.key.number o world) found.1)) stands

-- the spans are those of the transaction
pub returns-clause-kept : goal.returns-clause-kept
returns-clause-kept g c = λ held found.
    c.close_transaction.ensures.kept held (transaction_under c.args.self.now.spans c.args.key held found)
