use Rattle.std.proofs.Common.{◌∙◌, ap, ℕ, List}
use Rattle.sentry_hub_table.specs.Hubs.{is_transaction}
use Rattle.sentry_hub_table.specs.Hubs.{is_transaction_named}
use Rattle.sentry_hub_table.specs.Names.{transaction_of}
use Rattle.sentry_hub_table.specs.declared.hub.HubState.{HubState}
use Rattle.sentry_hub_table.specs.declared.tally.Key.{Key}
use Rattle.sentry_hub_table.proofs.NameLemmas.{counts_any, transaction_is}
use Rattle.sentry_hub_table.proofs.hub_table.HubTable.is_transaction_named.Goals as goal

-- a number above 0 says that a layer names it
pub returns : goal.returns
returns g c =
    let key : Key = record { tag = c.args.transaction.tag; number = c.args.transaction.number } in
    c.is_named.ensures
    ∙ counts_any transaction_of (λ layer. is_transaction c.args.transaction layer.scope.span) key (λ layer. transaction_is key layer.scope.span)
    c.self.inside.hubs c.self.inside.names.transactions c.self.invariant.names.transactions
    ∙ ap (λ (hubs : List (ℕ × HubState g.row.P.Denot)). is_transaction_named c.args.transaction hubs) c.self.view_is
