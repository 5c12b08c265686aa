-- What the calls on hubs answer, hand out and leave.
use Rattle.std.specs.Prelude.{nat_lt, ◌-◌, ℕ, Bool, true, false, Option, None, List, [], ◌∷◌, ◌^◌, if◌then◌else◌}
use Rattle.std.specs.List.{list_any}
use Rattle.sentry_plain.specs.Texts.{Bytes}
use Rattle.sentry_texts.specs.ErrorEvents.{error_event}
use Rattle.sentry_base.specs.declared.protocol.error_link.ErrorLink.{ErrorLink}
use Rattle.sentry_base.specs.declared.protocol.keys.ClientKey.{ClientKey}
use Rattle.sentry_base.specs.declared.protocol.keys.HubKey.{HubKey}
use Rattle.sentry_base.specs.declared.protocol.keys.TransactionKey.{TransactionKey}
use Rattle.sentry_base.specs.declared.protocol.level.Level.{Level}
use Rattle.sentry_base.specs.declared.protocol.fresh.Fresh.{Fresh}
use Rattle.sentry_base.specs.declared.protocol.refusal.Refusal.TheVariants.{Stale, Full}
use Rattle.sentry_scope.specs.declared.scope.Scope.{Scope}
use Rattle.sentry_scope.specs.declared.scope.stack.Stack.{Stack}
use Rattle.sentry_scope.specs.declared.scope.edit.ScopeEdit.{ScopeEdit}
use Rattle.sentry_scope.specs.declared.scope.edit.ScopeEdit.TheVariants.{Clear}
use Rattle.sentry_scope.specs.EditLists.{all_name_held_spans, renames_after}
use Rattle.sentry_scope.specs.Scopes.{edit_all}
use Rattle.sentry_scope.specs.Stacks.{one_layer}
use Rattle.sentry_base.specs.Callbacks.{Partial}
use Rattle.sentry_options.specs.Meanings.{Meanings}
use Rattle.sentry_events.specs.Captures.{message_event, capture_event}
use Rattle.sentry_sending.specs.Sending.{release_session}
use Rattle.sentry_state.specs.Changes.{next_hub_key, with_new_hub}
use Rattle.sentry_hub_table.specs.Hubs.{with_session, with_scope}
use Rattle.sentry_hub_table.specs.declared.hub.HubState.{HubState}
use Rattle.sentry_state.specs.Clients.{is_enabled_client}
use Rattle.sentry_span_table.specs.SpanTables.{is_held}
use Rattle.sentry_span_edits.specs.Setters.{with_edited}
use Rattle.sentry_span_edits.specs.declared.edit.SpanEdit.TheVariants.{Name}
use Rattle.sentry_state.specs.Worlds.{World, span_table}
use Rattle.sentry_state.specs.Outcomes.{Outcome, require_some, let_some, require, reply_with, hub_at, stored_client_at, is_held_or_none, with_hub}

-- the edit gives the top layer a default scope, and no session
abbrev pub is_clear : {P : Type 0} → ScopeEdit P → Bool
is_clear (Clear trace_id span_id) = true
is_clear edit = false

module _ {P C : Type 0} where
  -- transactions have other names, in turn, each while it is unfinished
  abbrev pub with_renames : List (TransactionKey × Bytes) → World P C → World P C
  with_renames [] world = world
  with_renames (rename ∷ rest) world = with_renames rest (with_edited (Name rename.1) rename.0 world)

  -- a hub of these layers, if a number is left
  abbrev pub add_hub : Stack P → World P C → Outcome P C HubKey
  add_hub stack world =
      require Full world (nat_lt world.next.hub (2 ^ 64 - 1))
      (reply_with (next_hub_key world) [] (with_new_hub stack world))

  -- a hub with one layer
  unfoldable pub new_hub : Option ClientKey → Scope P → World P C → Outcome P C HubKey
  new_hub client scope world =
      require Stale world (is_held_or_none world client)
      (require Stale world (is_held (span_table world) scope.span) (add_hub (one_layer client scope) world))

  -- the edits are done to the top scope of a hub, and name its active transaction too
  abbrev pub configure_kept : HubKey → HubState P → List (ScopeEdit P) → World P C → Outcome P C (Unit {0})
  configure_kept key hub edits world =
      reply_with tt [] (with_renames (renames_after (span_table world) edits hub.stack.top.scope [])
      (with_hub world key (with_scope hub (edit_all edits hub.stack.top.scope))))

  -- the same, where one of them clears the scope: the layer gives up its session
  abbrev pub configure_cleared : HubKey → HubState P → List (ScopeEdit P) → ℕ → World P C → Outcome P C (Unit {0})
  configure_cleared key hub edits now world =
      let released = release_session key.number hub now world in
      reply_with tt released.sent (with_renames (renames_after (span_table world) edits hub.stack.top.scope [])
      (with_hub released.after key (with_scope (with_session hub None) (edit_all edits hub.stack.top.scope))))

  -- edits of the top scope of a hub
  unfoldable pub configure : HubKey → List (ScopeEdit P) → ℕ → World P C → Outcome P C (Unit {0})
  configure key edits now world =
      require_some Stale world (hub_at world key) (λ hub.
      require Stale world (all_name_held_spans (span_table world) edits)
      (if list_any is_clear edits
      then configure_cleared key hub edits now world
      else configure_kept key hub edits world))

  -- the last event id of a hub
  unfoldable pub last_event_id : HubKey → World P C → Outcome P C (Option (List ℕ))
  last_event_id key world = require_some Stale world (hub_at world key) (λ hub. reply_with hub.last_event_id [] world)

  -- a message on a hub
  unfoldable pub capture_message : (P → Partial) → (C → Meanings) → HubKey → Bytes → Level → Fresh → World P C
      → Outcome P C (List ℕ)
  capture_message gives meanings key message level fresh world =
      capture_event gives meanings key (message_event message level fresh.uuid fresh.now) fresh world

  -- an error on a hub, by the texts of its links, the outermost first
  unfoldable pub capture_error : (P → Partial) → (C → Meanings) → HubKey → List ErrorLink → Fresh → World P C
      → Outcome P C (List ℕ)
  capture_error gives meanings key links fresh world =
      capture_event gives meanings key (error_event links fresh.uuid fresh.now) fresh world

  -- the client of the top layer
  unfoldable pub client : HubKey → World P C → Outcome P C (Option ClientKey)
  client key world = require_some Stale world (hub_at world key) (λ hub. reply_with hub.stack.top.client [] world)

  -- a hub is active where its top layer has a client that is enabled
  unfoldable pub is_active : HubKey → World P C → Outcome P C Bool
  is_active key world =
      require_some Stale world (hub_at world key) (λ hub.
      let_some hub.stack.top.client (reply_with false [] world) (λ client_key.
      let_some (stored_client_at world client_key) (reply_with false [] world) (λ client.
      reply_with (is_enabled_client client) [] world)))

  -- a copy of the top scope
  unfoldable pub scope : HubKey → World P C → Outcome P C (Scope P)
  scope key world = require_some Stale world (hub_at world key) (λ hub. reply_with hub.stack.top.scope [] world)
