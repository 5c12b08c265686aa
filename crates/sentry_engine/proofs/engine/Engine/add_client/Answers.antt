use Rattle.std.proofs.Common.{◌≡◌, ◌∙◌, ap, sym, subst, true, ◌+◌, ◌-◌, ◌^◌, [], rules}
use Rattle.std.specs.Prelude.{nat_lt, ◌==◌, Ok}
use Rattle.sentry_plain.specs.Tables.{put}
use Rattle.sentry_state.specs.Books.{with_book}
use Rattle.sentry_state.specs.Clients.{new_client}
use Rattle.sentry_state.specs.Worlds.{World, Stands}
use Rattle.sentry_state.specs.declared.state.State.{State}
use Rattle.sentry_engine.proofs.CallLemmas.{add_client_is, with_client_and_book}
use Rattle.sentry_spans.proofs.EndLemmas.{refused_for_memory}
use Rattle.sentry_spans.proofs.SendLemmas.{may_lack_memory}
use Rattle.sentry_engine.proofs.engine.Engine.add_client.Goals as goal

pub returns-in_err-insert_client_and_book : goal.returns-in_err-insert_client_and_book
returns-in_err-insert_client_and_book g c =
    let gives = c.from_residual-in_err-insert_client_and_book.ensures in
    refused_for_memory _ _ _ _ gives.0 gives.1 (c.in_err-insert_client_and_book.ensures.err ∙ c.self.view_is) (λ world here.
    let s = subst (λ (kept : State g.row.P.Denot g.row.C.Denot). Stands kept world) (sym c.self.view_is) here in
    let same : c.args.label.tag ≡ world.tag = c.if-label-self.false ∙ s.tag in
    let next = s.next in
    let own : (c.args.label.tag == world.tag) ≡ true = search rules in
    let left : nat_lt world.next.client (2 ^ 64 - 1) ≡ true = search rules in
    may_lack_memory _ _ _ _ (add_client_is g.C.Callbacks.meanings c.args.options c.args.transport c.args.label c.args.now world own left))

-- the client stands under the next number
pub returns : goal.returns
returns g c = λ world here.
    let s = subst (λ (kept : State g.row.P.Denot g.row.C.Denot). Stands kept world) (sym c.self.view_is) here in
    let same : c.args.label.tag ≡ world.tag = c.if-label-self.false ∙ s.tag in
    let next = s.next in
    let client = new_client g.C.Callbacks.meanings c.args.options c.args.transport c.args.label c.args.now in
    let own : (c.args.label.tag == world.tag) ≡ true = search rules in
    let left : nat_lt world.next.client (2 ^ 64 - 1) ≡ true = search rules in
    let inserted = c.in_ok-insert_client_and_book.ensures.in_world world client s c.in_ok-client.ensures.client in
    let there = subst (λ (w : World g.row.P.Denot g.row.C.Denot). Stands c.insert_client_and_book.new.self w)
    (λ i. record world {
      clients = put world.clients (s.next i).client client;
      books = with_book world.books (c.in_ok-client.ensures.label i).number;
    }) inserted in
    let is = add_client_is g.C.Callbacks.meanings c.args.options c.args.transport c.args.label c.args.now world own left in
    let rest = c.in_ok-insert_client_and_book.ensures.rest in
    let engine : State g.row.P.Denot g.row.C.Denot = record c.insert_client_and_book.new.self {
      next = record c.insert_client_and_book.new.self.next { client = c.self.inside.state.next.client + 1 };
    } in
    let stands : Stands engine (with_client_and_book client c.args.label world) = record {
      tag = there.tag;
      next = (λ i. record ((rest.1 ∙ s.next) i) { client = (s.next i).client + 1 });
      clients = there.clients;
      hubs = there.hubs;
      sessions = there.sessions;
      books = there.books;
      spans = there.spans;
    } in (
      ap (λ o. o.answer) is
          ∙ ((λ i. Ok (record { reply = record { tag = sym there.tag i; number = (sym s.next i).client }; sent = [] })) ∙ ap Ok (sym c.out.ensures)),
      subst (λ (w : World g.row.P.Denot g.row.C.Denot). Stands engine w) (sym (ap (λ o. o.after) is)) stands,
    )
