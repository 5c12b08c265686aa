use Rattle.std.proofs.Common.{◌≡◌, ◌∙◌, ap, sym, subst, Some, ◌+◌}
use Rattle.sentry_plain.specs.Tables.{value_at}
use Rattle.sentry_scope.specs.Stacks.{push}
use Rattle.sentry_hub_table.specs.Hubs.{with_stack}
use Rattle.sentry_hub_table.specs.Names.{HasRoomFor, RaisesNames, layer_names, all_layers}
use Rattle.sentry_hub_table.proofs.NameLemmas.{layers_pushed}
use Rattle.sentry_hub_table.proofs.AllNameLemmas.{all_counted, all_room, all_grown}
use Rattle.sentry_hub_table.proofs.hub_table.HubTable.push.Goals as goal

-- there is room for one more layer
pub raise-requires : goal.raise-requires
raise-requires g c =
    let hubs = c.self.inside.hubs in
    let number = c.args.number in
    let hub = c.in-Some-get_mut.hub.now in
    let names = c.reserve.new.self in
    let counts = all_counted hubs number c.self.inside.names names c.self.invariant.names c.reserve.ensures.keeps in
    let found : value_at hubs number ≡ Some hub = sym c.in-Some-get_mut.ensures.value in
    let layers : c.in-Some.layers ≡ all_layers hubs + 1 = c.in-Some.ensures.1 ∙ ap (λ n. n + 1) c.self.invariant.layers in
    let room = subst (HasRoomFor names) layers c.in_ok-reserve.ensures.ok in
    all_room hubs number names counts room

-- the layer above names what the layer below it does
pub invariant_of-self-2 : goal.invariant_of-self-2
invariant_of-self-2 g c =
    let hubs = c.self.inside.hubs in
    let number = c.args.number in
    let hub = c.in-Some-get_mut.hub.now in
    let names = c.reserve.new.self in
    let counts = all_counted hubs number c.self.inside.names names c.self.invariant.names c.reserve.ensures.keeps in
    let found : value_at hubs number ≡ Some hub = sym c.in-Some-get_mut.ensures.value in
    let layers : c.in-Some.layers ≡ all_layers hubs + 1 = c.in-Some.ensures.1 ∙ ap (λ n. n + 1) c.self.invariant.layers in
    let room = subst (HasRoomFor names) layers c.in_ok-reserve.ensures.ok in
    let after = with_stack hub c.push.new.self in
    let pushed : c.push.new.self ≡ push hub.stack = c.in_ok-push.ensures.ok in
    let raised = subst (RaisesNames names c.raise.new.self) (c.layer_names-names.ensures ∙ ap (λ stack. layer_names stack.top) pushed) c.raise.ensures in
    record {
      names = all_grown hubs number hub after found pushed names c.raise.new.self counts room raised;
      layers = layers ∙ sym (layers_pushed hubs number hub after found pushed);
    }
