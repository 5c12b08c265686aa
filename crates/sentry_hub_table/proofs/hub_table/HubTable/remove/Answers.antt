use Rattle.std.proofs.Common.{◌≡◌, ◌∙◌, sym, subst, Some, None, ℕ, List, arith}
use Rattle.sentry_plain.specs.Tables.{value_at}
use Rattle.std.proofs.Common.{◌-◌}
use Rattle.sentry_hub_table.specs.Names.{HasNames, LowersNames, HasAllLayers, LowersLayers}
use Rattle.sentry_hub_table.specs.TrueNames.{TrueNames}
use Rattle.sentry_hub_table.specs.declared.hub.HubState.{HubState}
use Rattle.sentry_hub_table.proofs.NameLemmas.{height_at_most, layers_gone, no_layers_gone}
use Rattle.sentry_hub_table.proofs.AllNameLemmas.{all_named, all_below, all_gone, none_goes}
use Rattle.sentry_hub_table.proofs.hub_table.HubTable.remove.Goals as goal

-- nothing stood there
pub invariant_of-self : goal.invariant_of-self
invariant_of-self g c =
    let hubs = c.self.inside.hubs in
    let none : value_at hubs c.args.number ≡ None = sym c.in_default.ensures.value in
    subst (λ (left : List (ℕ × HubState g.row.P.Denot)). TrueNames (record c.self.inside { hubs = left })) (sym c.remove.ensures.rest) (record {
      names = none_goes hubs c.args.number none c.self.inside.names c.self.invariant.names;
      layers = c.self.invariant.layers ∙ sym (no_layers_gone hubs c.args.number none);
    })

-- all layers of the hub are counted
pub overflow_sub-self : goal.overflow_sub-self
overflow_sub-self g c =
    let hubs = c.self.inside.hubs in
    let number = c.args.number in
    let hub = c.in-Some.hub in
    let names = c.self.inside.names in
    let counts = c.self.invariant.names in
    let found : value_at hubs number ≡ Some hub = sym c.in-Some.ensures.value in
    let most = height_at_most hubs number hub found in
    let same = c.self.invariant.layers in
    let depth = c.depth.ensures in
    omega arith

pub overflow_sub-self-2 : goal.overflow_sub-self-2
overflow_sub-self-2 g c =
    let hubs = c.self.inside.hubs in
    let number = c.args.number in
    let hub = c.in-Some.hub in
    let names = c.self.inside.names in
    let counts = c.self.invariant.names in
    let found : value_at hubs number ≡ Some hub = sym c.in-Some.ensures.value in
    let most = height_at_most hubs number hub found in
    let same = c.self.invariant.layers in
    let depth = c.depth.ensures in
    omega arith

-- what the top layer named is counted
pub lower-requires : goal.lower-requires
lower-requires g c =
    let hubs = c.self.inside.hubs in
    let number = c.args.number in
    let hub = c.in-Some.hub in
    let names = c.self.inside.names in
    let counts = c.self.invariant.names in
    let found : value_at hubs number ≡ Some hub = sym c.in-Some.ensures.value in
    subst (HasNames names) (sym c.layer_names.ensures) (all_named hubs number hub found names counts)

-- and then what the layers below it named
pub lower_each-requires : goal.lower_each-requires
lower_each-requires g c =
    let hubs = c.self.inside.hubs in
    let number = c.args.number in
    let hub = c.in-Some.hub in
    let names = c.self.inside.names in
    let counts = c.self.invariant.names in
    let found : value_at hubs number ≡ Some hub = sym c.in-Some.ensures.value in
    let lowers = subst (LowersNames names c.lower.new.self) c.layer_names.ensures c.lower.ensures in
    subst (HasAllLayers c.lower.new.self) (sym c.as_slice.ensures) (all_below hubs number hub found names c.lower.new.self counts lowers)

-- the names in the layers of the hub go
pub invariant_of-self-2 : goal.invariant_of-self-2
invariant_of-self-2 g c =
    let hubs = c.self.inside.hubs in
    let number = c.args.number in
    let hub = c.in-Some.hub in
    let names = c.self.inside.names in
    let counts = c.self.invariant.names in
    let found : value_at hubs number ≡ Some hub = sym c.in-Some.ensures.value in
    let lowers = subst (LowersNames names c.lower.new.self) c.layer_names.ensures c.lower.ensures in
    let further = subst (LowersLayers c.lower.new.self c.lower_each.new.self) c.as_slice.ensures c.lower_each.ensures in
    subst (λ (left : List (ℕ × HubState g.row.P.Denot)). TrueNames (record { hubs = left; layers = c.self.inside.layers - c.depth.result - 1; names = c.lower_each.new.self })) (sym c.remove.ensures.rest) (record {
      names = all_gone hubs number hub found names c.lower.new.self c.lower_each.new.self counts lowers further;
      layers =
          let less = layers_gone hubs number hub found in
          let same = c.self.invariant.layers in
          let depth = c.depth.ensures in
          omega arith;
    })
