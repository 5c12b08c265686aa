use Rattle.std.proofs.Common.{◌≡◌, refl, sym, subst, Some, arith}
use Rattle.sentry_plain.specs.Tables.{value_at}
use Rattle.sentry_hub_table.specs.Hubs.{with_stack}
use Rattle.sentry_hub_table.specs.Names.{HasNames, LowersNames}
use Rattle.sentry_hub_table.proofs.NameLemmas.{height_at_most, layers_popped}
use Rattle.sentry_hub_table.proofs.AllNameLemmas.{all_named, all_shrunk}
use Rattle.sentry_hub_table.proofs.hub_table.HubTable.pop.Goals as goal

-- there is a layer
pub overflow_sub-self : goal.overflow_sub-self
overflow_sub-self g c =
    let hubs = c.self.inside.hubs in
    let number = c.args.number in
    let hub = c.in-Some.hub.now in
    let names = c.self.inside.names in
    let counts = c.self.invariant.names in
    let found : value_at hubs number ≡ Some hub = sym c.in-Some.ensures.value in
    let most = height_at_most hubs number hub found in
    let same = c.self.invariant.layers in
    omega arith

-- what the top layer named is counted
pub lower-requires : goal.lower-requires
lower-requires g c =
    let hubs = c.self.inside.hubs in
    let number = c.args.number in
    let hub = c.in-Some.hub.now in
    let names = c.self.inside.names in
    let counts = c.self.invariant.names in
    let found : value_at hubs number ≡ Some hub = sym c.in-Some.ensures.value in
    subst (HasNames names) (sym c.layer_names-names.ensures) (all_named hubs number hub found names counts)

-- the names of the top layer go
pub invariant_of-self-2 : goal.invariant_of-self-2
invariant_of-self-2 g c =
    let hubs = c.self.inside.hubs in
    let number = c.args.number in
    let hub = c.in-Some.hub.now in
    let names = c.self.inside.names in
    let counts = c.self.invariant.names in
    let found : value_at hubs number ≡ Some hub = sym c.in-Some.ensures.value in
    let after = with_stack hub c.pop.new.self in
    let some = c.in_default-pop.ensures.when.0 refl in
    let popped = c.in_default-pop.ensures.popped in
    record {
      names = all_shrunk hubs number hub after found some popped names c.lower.new.self counts
          (subst (LowersNames names c.lower.new.self) c.layer_names-names.ensures c.lower.ensures);
      layers =
          let less = layers_popped hubs number hub after found some popped in
          let same = c.self.invariant.layers in
          omega arith;
    }
