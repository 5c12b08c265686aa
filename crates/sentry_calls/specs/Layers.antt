-- What the calls on the layers of hubs answer, hand out and leave.
use Rattle.std.specs.Prelude.{ℕ, nat_lt, ◌==◌, ◌&&◌, Option, []}
use Rattle.sentry_plain.specs.Tables.{without}
use Rattle.sentry_base.specs.declared.protocol.keys.ClientKey.{ClientKey}
use Rattle.sentry_base.specs.declared.protocol.keys.HubKey.{HubKey}
use Rattle.sentry_base.specs.declared.protocol.refusal.Refusal.TheVariants.{Stale, OutOfOrder, ScopesOpen}
use Rattle.sentry_scope.specs.Stacks.{depth, push, pop, top_alone}
use Rattle.sentry_calls.specs.Hubs.{add_hub}
use Rattle.sentry_sending.specs.Sending.{release_session}
use Rattle.sentry_state.specs.Worlds.{World}
use Rattle.sentry_state.specs.Outcomes.{Outcome, require_some, require, reply_with, hub_at, is_held_or_none, with_hub}
use Rattle.sentry_hub_table.specs.Hubs.{with_stack, with_client}

module _ {P C : Type 0} where
  -- a copy of the top layer stands on the others; the reply is the hub and the depth of the copy
  unfoldable pub push_scope : HubKey → World P C → Outcome P C (HubKey × ℕ)
  push_scope key world =
      require_some Stale world (hub_at world key) (λ hub.
      reply_with (key, depth (push hub.stack)) [] (with_hub world key (with_stack hub (push hub.stack))))

  -- the top layer gives up its session and is removed, where it is the one of this depth and not the only one
  unfoldable pub pop_scope : HubKey → ℕ → ℕ → World P C → Outcome P C (Unit {0})
  pop_scope key pushed now world =
      require_some Stale world (hub_at world key) (λ hub.
      require OutOfOrder world (depth hub.stack == pushed && nat_lt 0 pushed)
      (let released = release_session key.number hub now world in
      reply_with tt released.sent (with_hub released.after key (with_stack hub (pop hub.stack)))))

  -- a hub with a copy of another one's top layer
  unfoldable pub new_hub_from_top : HubKey → World P C → Outcome P C HubKey
  new_hub_from_top key world =
      require_some Stale world (hub_at world key) (λ hub. add_hub (top_alone hub.stack) world)

  -- a hub that has one layer gives up its session and is no longer held
  unfoldable pub release_hub : HubKey → ℕ → World P C → Outcome P C (Unit {0})
  release_hub key now world =
      require_some Stale world (hub_at world key) (λ hub.
      require ScopesOpen world (depth hub.stack == 0)
      (let released = release_session key.number hub now world in
      reply_with tt released.sent (record released.after { hubs = without released.after.hubs key.number })))

  -- the top layer has another client, or none
  unfoldable pub bind_client : HubKey → Option ClientKey → World P C → Outcome P C (Unit {0})
  bind_client key client world =
      require_some Stale world (hub_at world key) (λ hub.
      require Stale world (is_held_or_none world client)
      (reply_with tt [] (with_hub world key (with_client hub client))))
