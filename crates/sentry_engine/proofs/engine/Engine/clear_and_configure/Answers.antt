use Rattle.std.proofs.Common.{◌≡◌, ◌∙◌, ap, refl, sym, subst, Some, None, [], true, rules}
use Rattle.sentry_plain.specs.Tables.{value_at}
use Rattle.sentry_calls.specs.Hubs.{with_renames}
use Rattle.sentry_scope.specs.EditLists.{all_name_held_spans, renames_after}
use Rattle.sentry_scope.specs.Scopes.{edit_all}
use Rattle.sentry_hub_table.specs.Hubs.{with_session, with_scope}
use Rattle.sentry_state.specs.Outcomes.{hub_at, with_hub}
use Rattle.sentry_state.specs.Worlds.{World, Stands, span_table}
use Rattle.sentry_state.specs.declared.state.State.{State}
use Rattle.sentry_state.proofs.TableLemmas.{value_replaced}
use Rattle.sentry_sending.specs.Sending.{release_session}
use Rattle.sentry_engine.proofs.CallLemmas.{configure_is}
use Rattle.sentry_spans.proofs.SendLemmas.{replied}
use Rattle.sentry_engine.proofs.engine.Engine.clear_and_configure.Goals as goal

-- the layer gives up its session, and gets the scope after the edits, with the names that they give
pub returns : goal.returns
returns g c = λ world here.
    let s = subst (λ (kept : State g.row.P.Denot g.row.C.Denot). Stands kept world) (sym c.self.view_is) here in
    let key = c.args.hub in
    let hub = c.in-Some.held.now in
    let edits = c.args.edits.items in
    let unnamed = with_session hub None in
    let found : hub_at world key ≡ Some hub = sym (c.in-Some.ensures.in_world world s) in
    let there : value_at c.self.inside.state.hubs key.number ≡ Some hub = c.in-Some.ensures.in_table hub refl in
    let table = c.span_table.ensures world s in
    let again = c.span_table-spans.ensures world s in
    let all_held : all_name_held_spans c.span_table.result.now edits ≡ true = search rules in
    let held : all_name_held_spans (span_table world) edits ≡ true =
    subst (λ spans. all_name_held_spans spans edits ≡ true) table all_held in
    let scope = c.in_ok-scope.ensures.scope in
    let names = c.in_ok-scope.ensures.names ∙ ap (λ spans. renames_after spans edits hub.stack.top.scope []) again in
    let released = c.in_ok-sent.ensures.in_world world hub s there in
    let after = (release_session key.number hub c.args.now world).after in
    let still : value_at c.release_session.new.state.hubs key.number ≡ Some unnamed =
    ap (λ hubs. value_at hubs key.number) (c.in_ok-sent.ensures.hubs hub there)
    ∙ value_replaced key.number c.self.inside.state.hubs unnamed hub there in
    let set = c.set_scope.ensures.in_world after unnamed released.1 still in
    let with_scope_set = subst (λ (w : World g.row.P.Denot g.row.C.Denot). Stands c.set_scope.new.self w)
    (ap (λ edited. with_hub after key (with_scope unnamed edited)) scope) set in
    let edited = with_hub after key (with_scope unnamed (edit_all edits hub.stack.top.scope)) in
    let stands = subst (λ (w : World g.row.P.Denot g.row.C.Denot). Stands c.rename_all.new.state w)
    (ap (λ renames. with_renames renames edited) names) (c.rename_all.ensures edited with_scope_set) in
    replied _ _ _ _ _ _ (configure_is key edits c.args.now world hub found held c.requires) released.0 stands
