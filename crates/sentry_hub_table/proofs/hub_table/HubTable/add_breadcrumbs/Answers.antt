use Rattle.std.proofs.Common.{◌≡◌, ◌∙◌, refl, ap, sym, Some}
use Rattle.sentry_plain.specs.Tables.{value_at}
use Rattle.sentry_hub_table.specs.Hubs.{with_scope}
use Rattle.sentry_hub_table.specs.Names.{layer_names}
use Rattle.sentry_hub_table.proofs.NameLemmas.{layers_kept}
use Rattle.sentry_hub_table.proofs.AllNameLemmas.{all_kept}
use Rattle.sentry_hub_table.proofs.hub_table.HubTable.add_breadcrumbs.Goals as goal

-- no name changes
pub invariant_of-self-2 : goal.invariant_of-self-2
invariant_of-self-2 g c =
    let hubs = c.self.inside.hubs in
    let number = c.args.number in
    let hub = c.in-Some.hub.now in
    let names = c.self.inside.names in
    let counts = c.self.invariant.names in
    let found : value_at hubs number ≡ Some hub = sym c.in-Some.ensures.value in
    let after = with_scope hub c.add_breadcrumbs.new.self in
    record {
      names = all_kept hubs number hub after found refl
          (ap (λ scope. layer_names (record hub.stack.top { scope = scope })) c.in_ok-add_breadcrumbs.ensures.ok) names counts;
      layers = c.self.invariant.layers ∙ sym (layers_kept hubs number hub after found refl);
    }
