use Rattle.sentry_state.specs.declared.state.State.{State}
use Rattle.sentry_state.specs.Worlds.{Stands}
use Rattle.std.proofs.Common.{◌≡◌, ◌∙◌, refl, sym, Some, true, rules, subst}
use Rattle.sentry_plain.specs.Tables.{value_at}
use Rattle.sentry_sessions.specs.Sessions.{new_session, start_of}
use Rattle.sentry_state.specs.Outcomes.{hub_at, stored_client_at}
use Rattle.sentry_state.specs.Changes.{is_session_number_left}
use Rattle.sentry_engine.proofs.CallLemmas.{start_session_is}
use Rattle.sentry_spans.proofs.SendLemmas.{replied}
use Rattle.sentry_engine.proofs.engine.Engine.start_session.Goals as goal

-- the hub and the client that were found stand in the world, and the session starts
pub returns : goal.returns
returns g c = λ world here.
    let s = subst (λ (kept : State g.row.P.Denot g.row.C.Denot). Stands kept world) (sym c.self.view_is) here in
    let key = c.args.hub in
    let hub = c.in-Some.held.now in
    let client = c.in-Some-client_at.client.now in
    let found : hub_at world key ≡ Some hub = sym (c.in-Some.ensures.in_world world s) in
    let there : value_at c.self.inside.state.hubs key.number ≡ Some hub = c.in-Some.ensures.in_table hub refl in
    let client_found : stored_client_at world c.in-Some-client.key ≡ Some client = sym (c.in-Some-client_at.ensures.in_world world s) in
    let given : c.has_session_number.result ≡ true = search rules in
    let left : is_session_number_left world ≡ true = sym (c.has_session_number.ensures.in_world world s) ∙ given in
    let user = c.user-user.ensures in
    let attributes = c.in-Some-session_attributes.attributes in
    let start = start_of c.in-Some-client.key attributes hub.stack.top.scope.user c.args.fresh.uuid c.args.fresh.now in
    let made : c.in_ok-session.session
    ≡ new_session c.in-Some-client.key attributes hub.stack.top.scope.user c.args.fresh.uuid c.args.fresh.now =
    search rules in
    let started = c.in_ok-sent.ensures.in_world world hub start s there made in
    replied _ _ _ _ _ _
    (start_session_is key c.args.fresh world hub c.in-Some-client.key client attributes found c.in-Some-client.is client_found c.in-Some-session_attributes.is left)
    started.0 started.1
