use Rattle.std.proofs.Common.{◌≡◌, ◌∙◌, Some, [], ap, refl, sym, subst, true, rules}
use Rattle.std.specs.Prelude.{Ok}
use Rattle.sentry_scope.specs.EditLists.{all_name_held_spans, renames_after}
use Rattle.sentry_scope.specs.Scopes.{edit_all}
use Rattle.sentry_calls.specs.Hubs.{with_renames}
use Rattle.sentry_state.specs.declared.state.State.{State}
use Rattle.sentry_state.specs.Worlds.{World, Stands, span_table}
use Rattle.sentry_state.specs.Outcomes.{hub_at, with_hub}
use Rattle.sentry_hub_table.specs.Hubs.{with_scope}
use Rattle.sentry_engine.proofs.CallLemmas.{configure_kept_is}
use Rattle.sentry_engine.proofs.engine.Engine.configure_all.Goals as goal

-- the hub that was found stands in the world, and gets the scope after the edits, with the names that they give
pub returns : goal.returns
returns g c now = λ world here.
    let s = subst (λ (kept : State g.row.P.Denot g.row.C.Denot). Stands kept world) (sym c.self.view_is) here in
    let key = c.args.hub in
    let hub = c.in-Some.held.now in
    let edits = c.args.edits.items in
    let found : hub_at world key ≡ Some hub = sym (c.in-Some.ensures.in_world world s) in
    let table = c.span_table.ensures world s in
    let again = c.span_table-spans.ensures world s in
    let all_held : all_name_held_spans c.span_table.result.now edits ≡ true = search rules in
    let held : all_name_held_spans (span_table world) edits ≡ true =
    subst (λ spans. all_name_held_spans spans edits ≡ true) table all_held in
    let scope = c.in_ok-scope.ensures.scope in
    let names = c.in_ok-scope.ensures.names ∙ ap (λ spans. renames_after spans edits hub.stack.top.scope []) again in
    let set = c.set_scope.ensures.in_world world hub s (c.in-Some.ensures.in_table hub refl) in
    let with_scope_set = subst (λ (w : World g.row.P.Denot g.row.C.Denot). Stands c.set_scope.new.self w)
    (ap (λ edited. with_hub world key (with_scope hub edited)) scope) set in
    let edited = with_hub world key (with_scope hub (edit_all edits hub.stack.top.scope)) in
    let stands = subst (λ (w : World g.row.P.Denot g.row.C.Denot). Stands c.rename_all.new.state w)
    (ap (λ renames. with_renames renames edited) names) (c.rename_all.ensures edited with_scope_set) in
    let is = configure_kept_is key edits now world hub found held c.requires in (
      ap (λ o. o.answer) is ∙ ap Ok (sym c.out.ensures),
      subst (λ (w : World g.row.P.Denot g.row.C.Denot). Stands c.rename_all.new.state w) (sym (ap (λ o. o.after) is)) stands,
    )
