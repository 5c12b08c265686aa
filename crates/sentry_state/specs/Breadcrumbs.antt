-- What the call that adds breadcrumbs answers and leaves.
use Rattle.std.specs.Prelude.{List, if◌then◌else◌, [], ◌==◌, length}
use Rattle.sentry_state.specs.Worlds.{World}
use Rattle.sentry_base.specs.declared.protocol.keys.HubKey.{HubKey}
use Rattle.sentry_base.specs.declared.protocol.refusal.Refusal.TheVariants.{Stale}
use Rattle.sentry_state.specs.Outcomes.{Outcome, require_some, let_some, reply_with, hub_at, stored_client_at, with_hub}
use Rattle.sentry_base.specs.declared.protocol.breadcrumb.Breadcrumb.{Breadcrumb}
use Rattle.sentry_options.specs.Meanings.{Meanings, call_on_each}
use Rattle.sentry_state.specs.Changes.{with_breadcrumbs}

module _ {P C : Type 0} where
  -- breadcrumbs for the top scope, under the client of its layer: those that its callback keeps are added, and the
  -- last ones stay, as many as its options say; with no client, or no breadcrumb, nothing changes
  unfoldable pub add_breadcrumbs : (C → Meanings) → HubKey → List Breadcrumb → World P C → Outcome P C (Unit {0})
  add_breadcrumbs meanings key breadcrumbs world =
      require_some Stale world (hub_at world key) (λ hub.
      if length breadcrumbs == 0 then reply_with tt [] world else
      let_some hub.stack.top.client (reply_with tt [] world) (λ client_key.
      let_some (stored_client_at world client_key) (reply_with tt [] world) (λ client.
      reply_with tt [] (with_hub world key (with_breadcrumbs hub client.options.plain.max_breadcrumbs
      (call_on_each (meanings client.options.callbacks).before_breadcrumb breadcrumbs))))))
