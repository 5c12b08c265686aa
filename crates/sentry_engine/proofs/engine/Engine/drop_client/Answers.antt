use Rattle.sentry_state.specs.declared.state.State.{State}
use Rattle.sentry_span_table.specs.SpanTables.{has_transaction_of}
use Rattle.sentry_state.specs.Worlds.{Stands, span_table}
use Rattle.std.proofs.Common.{◌≡◌, ◌∙◌, Some, false, ap, sym, subst}
use Rattle.sentry_state.specs.Clients.{is_client_named, has_session_of}
use Rattle.sentry_state.specs.Outcomes.{stored_client_at}
use Rattle.sentry_engine.proofs.CallLemmas.{drop_client_is}
use Rattle.sentry_spans.proofs.SendLemmas.{replied}
use Rattle.sentry_engine.proofs.engine.Engine.drop_client.Goals as goal

-- the client that was found stands in the world, and nothing names it
pub returns : goal.returns
returns g c = λ world here.
    let s = subst (λ (kept : State g.row.P.Denot g.row.C.Denot). Stands kept world) (sym c.self.view_is) here in
    let key = c.args.client in
    let found : stored_client_at world key ≡ Some c.in-Some.held.now = sym (c.in-Some.ensures.in_world world s) in
    let unnamed : is_client_named key world.hubs ≡ false =
    ap (is_client_named key) (sym s.hubs) ∙ (sym c.is_client_named.ensures ∙ c.if-is_client_named.false) in
    let no_session : has_session_of key world.sessions ≡ false = sym (c.has_session_of.ensures world s) ∙ c.if-has_session_of.false in
    let no_transaction : has_transaction_of (span_table world) key ≡ false =
    ap (λ table. has_transaction_of table key) (sym (c.span_table.ensures world s)) ∙ (sym c.has_transaction_of.ensures ∙ c.if-has_transaction_of.false) in
    let flushed = c.in_ok-sent.ensures.in_world world s in
    let removed = c.remove_unused_book.ensures _ (c.remove_client.ensures _ flushed.1) in
    replied _ _ _ _ _ _ (drop_client_is key world c.in-Some.held.now found unnamed no_session no_transaction) flushed.0 removed
