use Rattle.sentry_state.specs.declared.state.State.{State}
use Rattle.std.proofs.Common.{◌≡◌, ◌∙◌, ap, refl, sym, subst, Some, None, true, rules}
use Rattle.std.specs.Prelude.{nat_lt, ◌==◌, ◌&&◌}
use Rattle.sentry_plain.specs.Tables.{value_at}
use Rattle.sentry_scope.specs.Stacks.{depth}
use Rattle.sentry_state.specs.Outcomes.{hub_at, with_hub}
use Rattle.sentry_hub_table.specs.Hubs.{with_stack, with_session}
use Rattle.sentry_sending.specs.Sending.{release_session}
use Rattle.sentry_state.specs.Worlds.{World, Stands}
use Rattle.sentry_state.proofs.Keeping.{popped_same}
use Rattle.sentry_engine.proofs.CallLemmas.{is_above, pop_scope_is}
use Rattle.sentry_spans.proofs.SendLemmas.{replied}
use Rattle.sentry_state.proofs.TableLemmas.{value_replaced}
use Rattle.sentry_engine.proofs.engine.Engine.pop_scope_at.Goals as goal

-- the layer gives up its session, and is popped
pub returns : goal.returns
returns g c = λ world here.
    let s = subst (λ (kept : State g.row.P.Denot g.row.C.Denot). Stands kept world) (sym c.self.view_is) here in
    let key = c.args.hub in
    let hub = c.in-Some.held.now in
    let unnamed = with_session hub None in
    let found : hub_at world key ≡ Some hub = sym (c.in-Some.ensures.in_world world s) in
    let there : value_at c.self.inside.state.hubs key.number ≡ Some hub = c.in-Some.ensures.in_table hub refl in
    let top : (depth hub.stack == c.args.depth && nat_lt 0 c.args.depth) ≡ true = search rules in
    let released = c.in_ok-sent.ensures.in_world world hub s there in
    let after = (release_session key.number hub c.args.now world).after in
    let still : value_at c.release_session.new.state.hubs key.number ≡ Some unnamed =
    ap (λ hubs. value_at hubs key.number) (c.in_ok-sent.ensures.hubs hub there)
    ∙ value_replaced key.number c.self.inside.state.hubs unnamed hub there in
    let popped = c.pop_layer.ensures.in_world after unnamed released.1 still in
    let deep : nat_lt 0 (depth hub.stack) ≡ true = is_above (depth hub.stack) c.args.depth top in
    let stands = subst (λ (w : World g.row.P.Denot g.row.C.Denot). Stands c.pop_layer.new.self w)
    (ap (λ stack. with_hub after key (with_stack hub stack)) (popped_same hub deep)) popped in
    replied _ _ _ _ _ _ (pop_scope_is key c.args.depth c.args.now world hub found top) released.0 stands
