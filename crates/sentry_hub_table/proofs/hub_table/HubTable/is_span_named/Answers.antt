use Rattle.std.proofs.Common.{◌∙◌, ap, ℕ, List}
use Rattle.sentry_hub_table.specs.Hubs.{is_span}
use Rattle.sentry_hub_table.specs.Hubs.{is_span_named}
use Rattle.sentry_hub_table.specs.Names.{span_of}
use Rattle.sentry_hub_table.specs.declared.hub.HubState.{HubState}
use Rattle.sentry_hub_table.specs.declared.tally.Key.{Key}
use Rattle.sentry_hub_table.proofs.NameLemmas.{counts_any, span_is}
use Rattle.sentry_hub_table.proofs.hub_table.HubTable.is_span_named.Goals as goal

-- a number above 0 says that a layer names it
pub returns : goal.returns
returns g c =
    let key : Key = record { tag = c.args.span.tag; number = c.args.span.number } in
    c.is_named.ensures
    ∙ counts_any span_of (λ layer. is_span c.args.span layer.scope.span) key (λ layer. span_is key layer.scope.span)
    c.self.inside.hubs c.self.inside.names.spans c.self.invariant.names.spans
    ∙ ap (λ (hubs : List (ℕ × HubState g.row.P.Denot)). is_span_named c.args.span hubs) c.self.view_is
