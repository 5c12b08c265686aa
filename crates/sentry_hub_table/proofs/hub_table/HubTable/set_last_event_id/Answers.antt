use Rattle.std.proofs.Common.{◌≡◌, ◌∙◌, refl, sym, Some}
use Rattle.sentry_plain.specs.Tables.{value_at}
use Rattle.sentry_hub_table.proofs.NameLemmas.{layers_kept}
use Rattle.sentry_hub_table.proofs.AllNameLemmas.{all_kept}
use Rattle.sentry_hub_table.proofs.hub_table.HubTable.set_last_event_id.Goals as goal

-- no name changes
pub invariant_of-self : goal.invariant_of-self
invariant_of-self g c =
    let hubs = c.self.inside.hubs in
    let number = c.args.number in
    let hub = c.in-Some.hub.now in
    let names = c.self.inside.names in
    let counts = c.self.invariant.names in
    let found : value_at hubs number ≡ Some hub = sym c.in-Some.ensures.value in
    let after = record hub { last_event_id = Some c.args.id } in
    record {
      names = all_kept hubs number hub after found refl refl names counts;
      layers = c.self.invariant.layers ∙ sym (layers_kept hubs number hub after found refl);
    }
