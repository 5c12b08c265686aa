use Rattle.std.proofs.Common.{◌∙◌, ap, ℕ, List}
use Rattle.sentry_scope.specs.Stacks.{is_session}
use Rattle.sentry_hub_table.specs.Hubs.{is_session_named}
use Rattle.sentry_hub_table.specs.Names.{session_of}
use Rattle.sentry_hub_table.specs.declared.hub.HubState.{HubState}
use Rattle.sentry_hub_table.specs.declared.tally.Key.{Key}
use Rattle.sentry_hub_table.proofs.NameLemmas.{counts_any, session_is}
use Rattle.sentry_hub_table.proofs.hub_table.HubTable.is_session_named.Goals as goal

-- a number above 0 says that a layer names it
pub returns : goal.returns
returns g c =
    let key : Key = record { tag = c.args.session.tag; number = c.args.session.number } in
    c.is_named.ensures
    ∙ counts_any session_of (λ layer. is_session c.args.session layer.session) key (λ layer. session_is key layer.session)
    c.self.inside.hubs c.self.inside.names.sessions c.self.invariant.names.sessions
    ∙ ap (λ (hubs : List (ℕ × HubState g.row.P.Denot)). is_session_named c.args.session hubs) c.self.view_is
