use Rattle.std.proofs.Common.{◌≡◌, ◌∙◌, ap, sym, subst, refl, true, Some, ◌+◌, ◌-◌, ◌^◌, [], rules}
use Rattle.std.specs.Prelude.{nat_lt, Ok}
use Rattle.sentry_plain.specs.Tables.{put}
use Rattle.sentry_state.specs.Clients.{clone_from}
use Rattle.sentry_state.specs.Outcomes.{client_at, stored_client_at}
use Rattle.sentry_state.specs.Worlds.{World, Stands}
use Rattle.sentry_state.specs.declared.state.State.{State}
use Rattle.sentry_engine.proofs.CallLemmas.{clone_client_is, history_of_stored, with_client}
use Rattle.sentry_engine.proofs.engine.Engine.clone_client.Goals as goal

-- the clone stands under the next number
pub returns : goal.returns
returns g c = λ world here.
    let s = subst (λ (kept : State g.row.P.Denot g.row.C.Denot). Stands kept world) (sym c.self.view_is) here in
    let key = c.args.client in
    let next = s.next in
    let found : stored_client_at world key ≡ Some c.in-Some.held.now = sym (c.in-Some.ensures.in_world world s) in
    let state = history_of_stored world key c.in-Some.held.now found in
    let clone = clone_from c.args.now state.0 in
    let left : nat_lt world.next.client (2 ^ 64 - 1) ≡ true = search rules in
    let inserted = c.in_ok-insert_client.ensures.in_world world clone s (c.in_ok-clone.ensures state.0 state.2) in
    let there = subst (λ (w : World g.row.P.Denot g.row.C.Denot). Stands c.insert_client.new.self w)
    (λ i. record world { clients = put world.clients (s.next i).client clone }) inserted in
    let is = clone_client_is key c.args.now world state.0 state.1 left in
    let rest = c.in_ok-insert_client.ensures.rest in
    let engine : State g.row.P.Denot g.row.C.Denot = record c.insert_client.new.self {
      next = record c.insert_client.new.self.next { client = c.self.inside.state.next.client + 1 };
    } in
    let stands : Stands engine (with_client clone world) = record {
      tag = there.tag;
      next = (λ i. record ((rest.1 ∙ s.next) i) { client = (s.next i).client + 1 });
      clients = there.clients;
      hubs = there.hubs;
      sessions = there.sessions;
      books = there.books;
      spans = there.spans;
    } in (
      ap (λ o. o.answer) is
          ∙ ((λ i. Ok (record { reply = record { tag = sym there.tag i; number = (sym s.next i).client }; sent = [] })) ∙ ap Ok (sym c.out.ensures)),
      subst (λ (w : World g.row.P.Denot g.row.C.Denot). Stands engine w) (sym (ap (λ o. o.after) is)) stands,
    )
