use Rattle.std.proofs.Common.{◌∙◌, ap, ℕ, List}
use Rattle.sentry_scope.specs.Stacks.{is_client}
use Rattle.sentry_hub_table.specs.Hubs.{is_client_named}
use Rattle.sentry_hub_table.specs.Names.{client_of}
use Rattle.sentry_hub_table.specs.declared.hub.HubState.{HubState}
use Rattle.sentry_hub_table.specs.declared.tally.Key.{Key}
use Rattle.sentry_hub_table.proofs.NameLemmas.{counts_any, client_is}
use Rattle.sentry_hub_table.proofs.hub_table.HubTable.is_client_named.Goals as goal

-- a number above 0 says that a layer names it
pub returns : goal.returns
returns g c =
    let key : Key = record { tag = c.args.client.tag; number = c.args.client.number } in
    c.is_named.ensures
    ∙ counts_any client_of (λ layer. is_client c.args.client layer.client) key (λ layer. client_is key layer.client)
    c.self.inside.hubs c.self.inside.names.clients c.self.invariant.names.clients
    ∙ ap (λ (hubs : List (ℕ × HubState g.row.P.Denot)). is_client_named c.args.client hubs) c.self.view_is
