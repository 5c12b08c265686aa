-- Calls that are made on a hub only where it is active.
use Rattle.std.specs.Prelude.{[], if◌then◌else◌}
use Rattle.sentry_base.specs.declared.protocol.keys.HubKey.{HubKey}
use Rattle.sentry_base.specs.declared.protocol.refusal.Refusal.TheVariants.{Stale}
use Rattle.sentry_state.specs.Outcomes.{Outcome, require_some, let_some, reply_with, hub_at, stored_client_at}
use Rattle.sentry_state.specs.Clients.{is_enabled_client}
use Rattle.sentry_state.specs.Worlds.{World}

module _ {P C : Type 0} where
  -- the call, if the top layer has a client that is enabled, else nothing changes
  abbrev pub if_active : HubKey → (World P C → Outcome P C (Unit {0})) → World P C → Outcome P C (Unit {0})
  if_active key call world =
      require_some Stale world (hub_at world key) (λ hub.
      let_some hub.stack.top.client (reply_with tt [] world) (λ client_key.
      let_some (stored_client_at world client_key) (reply_with tt [] world) (λ client.
      if is_enabled_client client then call world else reply_with tt [] world)))
