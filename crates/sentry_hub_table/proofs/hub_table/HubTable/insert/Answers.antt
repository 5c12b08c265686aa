use Rattle.std.proofs.Common.{◌≡◌, ◌∙◌, ap, sym, subst, None, ℕ, ◌+◌, List}
use Rattle.sentry_plain.specs.Tables.{value_at}
use Rattle.sentry_hub_table.specs.Names.{HasRoomFor, RaisesNames, all_layers}
use Rattle.sentry_hub_table.specs.TrueNames.{TrueNames}
use Rattle.sentry_hub_table.specs.declared.hub.HubState.{HubState}
use Rattle.sentry_hub_table.proofs.NameLemmas.{layers_come}
use Rattle.sentry_hub_table.proofs.AllNameLemmas.{all_counted, all_room, all_come}
use Rattle.sentry_hub_table.proofs.hub_table.HubTable.insert.Goals as goal

-- there is room for one more layer
pub raise-requires : goal.raise-requires
raise-requires g c =
    let hubs = c.self.inside.hubs in
    let number = c.args.number in
    let hub = c.args.hub in
    let names = c.reserve.new.self in
    let counts = all_counted hubs number c.self.inside.names names c.self.invariant.names c.reserve.ensures.keeps in
    let layers : c.in-Some-checked_add.layers ≡ all_layers hubs + 1 = c.in-Some-checked_add.ensures.1 ∙ ap (λ n. n + 1) c.self.invariant.layers in
    let room = subst (HasRoomFor names) layers c.in_ok-reserve.ensures.ok in
    all_room hubs number names counts room

-- the names in the layer of the hub come
pub invariant_of-self-2 : goal.invariant_of-self-2
invariant_of-self-2 g c =
    let hubs = c.self.inside.hubs in
    let number = c.args.number in
    let hub = c.args.hub in
    let names = c.reserve.new.self in
    let counts = all_counted hubs number c.self.inside.names names c.self.invariant.names c.reserve.ensures.keeps in
    let layers : c.in-Some-checked_add.layers ≡ all_layers hubs + 1 = c.in-Some-checked_add.ensures.1 ∙ ap (λ n. n + 1) c.self.invariant.layers in
    let room = subst (HasRoomFor names) layers c.in_ok-reserve.ensures.ok in
    let none : value_at hubs number ≡ None = sym c.in_default.ensures in
    let raised = subst (RaisesNames names c.raise.new.self) c.layer_names-names.ensures c.raise.ensures in
    subst (λ (now : List (ℕ × HubState g.row.P.Denot)). TrueNames (record { hubs = now; layers = c.in-Some-checked_add.layers; names = c.raise.new.self })) (sym c.in_ok-insert.ensures.ok) (record {
      names = all_come hubs number hub none c.requires names c.raise.new.self counts room raised;
      layers = layers ∙ sym (layers_come hubs number hub none c.requires);
    })
