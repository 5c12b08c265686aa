-- The layers of a hub by its own accepted calls alone.
use Rattle.std.specs.List.{list_any}
use Rattle.std.specs.Prelude.{◌≡◌, ℕ, Bool, true, false, Option, Some, None, List, [], ◌∷◌, ◌==◌, length, map, Result, Ok, Err, if◌then◌else◌}
use Rattle.std.specs.Option.{option_map, option_and_then}
use Rattle.sentry_plain.specs.Tables.{value_at}
use Rattle.sentry_base.specs.declared.protocol.breadcrumb.Breadcrumb.{Breadcrumb}
use Rattle.sentry_base.specs.declared.protocol.keys.ClientKey.{ClientKey}
use Rattle.sentry_base.specs.declared.protocol.refusal.Refusal.{Refusal}
use Rattle.sentry_options.specs.Meanings.{Meanings, call_on_each}
use Rattle.sentry_options.specs.declared.clientoptions.ClientOptions.{ClientOptions}
use Rattle.sentry_scope.specs.declared.scope.edit.ScopeEdit.{ScopeEdit}
use Rattle.sentry_scope.specs.declared.scope.stack.Stack.{Stack}
use Rattle.sentry_scope.specs.declared.scope.stack.StackLayer.{StackLayer}
use Rattle.sentry_scope.specs.Scopes.{edit_all, breadcrumb_trail}
use Rattle.sentry_scope.specs.Stacks.{one_layer, push, pop, top_alone, is_client}
use Rattle.sentry_options.specs.Options.{set_up}
use Rattle.sentry_state.specs.Worlds.{World, ClientHistory}
use Rattle.sentry_state.specs.Outcomes.{client_at}
use Rattle.sentry_hub_table.specs.declared.hub.HubState.{HubState}
use Rattle.sentry_state.specs.declared.state.Out.{Out}
use Rattle.sentry_calls.specs.declared.call.Call.{Call}
use Rattle.sentry_calls.specs.declared.call.Call.TheVariants as group
use Rattle.sentry_calls.specs.declared.call.clients.ClientCall.{ClientCall}
use Rattle.sentry_calls.specs.declared.call.clients.ClientCall.TheVariants.{AddClient, CloneClient}
use Rattle.sentry_calls.specs.declared.call.hubs.HubCall.{HubCall}
use Rattle.sentry_calls.specs.declared.call.hubs.HubCall.TheVariants.{NewHub, NewHubFromTop, ReleaseHub, Configure, AddBreadcrumbs, PushScope, PopScope, BindClient}
use Rattle.sentry_calls.specs.declared.call.Reply.{Reply}
use Rattle.sentry_calls.specs.declared.call.Reply.TheVariants as reply

-- ---- what changes in the layers of one hub

pub data LayerChange (P : Type 0) : Type 0 where
  -- the top scope was edited
  scope_edited : List (ScopeEdit P) → LayerChange P
  -- breadcrumbs came, under the client of the top layer
  breadcrumbs_came : List Breadcrumb → LayerChange P
  -- the top layer has this client, or none
  client_bound : Option ClientKey → LayerChange P
  layer_pushed : LayerChange P
  layer_popped : LayerChange P

module _ {P C : Type 0} (meanings : C → Meanings) where
  -- breadcrumbs under a client with these options, or under none
  abbrev pub add_under : Option (ClientOptions C) → List Breadcrumb → Stack P → Stack P
  add_under None breadcrumbs stack = stack
  add_under (Some options) breadcrumbs stack = record stack {
    top = record stack.top {
      scope = record stack.top.scope {
        breadcrumbs = breadcrumb_trail options.plain.max_breadcrumbs stack.top.scope.breadcrumbs
            (call_on_each (meanings options.callbacks).before_breadcrumb breadcrumbs);
      };
    };
  }

  -- the layers after a change, where the clients have these options
  abbrev pub change_layers : (ClientKey → Option (ClientOptions C)) → LayerChange P → Stack P → Stack P
  change_layers options (scope_edited edits) stack =
      record stack { top = record stack.top { scope = edit_all edits stack.top.scope } }
  change_layers options (breadcrumbs_came breadcrumbs) stack =
      if length breadcrumbs == 0 then stack
      else add_under (option_and_then options stack.top.client) breadcrumbs stack
  change_layers options (client_bound client) stack = record stack { top = record stack.top { client = client } }
  change_layers options layer_pushed stack = push stack
  change_layers options layer_popped stack = pop stack

-- ---- what a call changes

pub data Effect (P C : Type 0) : Type 0 where
  client_added : ClientKey → ClientOptions C → Effect P C
  -- the first client is a clone of the second
  client_cloned : ClientKey → ClientKey → Effect P C
  hub_made : ℕ → Stack P → Effect P C
  -- the first hub was made from the top layer of the second
  hub_made_from : ℕ → ℕ → Effect P C
  hub_changed : ℕ → LayerChange P → Effect P C
  hub_released : ℕ → Effect P C

module _ {P C : Type 0} where
  abbrev pub on_client : Reply P C → (ClientKey → Effect P C) → List (Effect P C)
  on_client (reply.Client key) go = go key ∷ []
  on_client _ go = []

  abbrev pub on_hub : Reply P C → (ℕ → Effect P C) → List (Effect P C)
  on_hub (reply.Hub key) go = go key.number ∷ []
  on_hub _ go = []

  -- effects after earlier ones, the newest first
  abbrev pub onto : List (Effect P C) → List (Effect P C) → List (Effect P C)
  onto [] earlier = earlier
  onto (effect ∷ rest) earlier = onto rest (effect ∷ earlier)

module _ {P C : Type 0} where
  -- the options with which a client was added
  abbrev pub options_after : List (Effect P C) → ClientKey → Option (ClientOptions C)
  options_after [] key = None
  options_after (client_added made options ∷ earlier) key =
      if is_client made (Some key) then Some options else options_after earlier key
  options_after (client_cloned made original ∷ earlier) key =
      if is_client made (Some key) then options_after earlier original else options_after earlier key
  options_after (_ ∷ earlier) key = options_after earlier key

module _ {P C : Type 0} (meanings : C → Meanings) where
  -- what an accepted call on a client with this reply changes
  abbrev pub client_effects : ClientCall P C → Reply P C → List (Effect P C)
  client_effects (AddClient options transport label now) made =
      on_client made (λ key. client_added key (set_up meanings options))
  client_effects (CloneClient client now) made = on_client made (λ key. client_cloned key client)
  client_effects call made = []

  -- what an accepted call on a hub with this reply changes
  abbrev pub hub_effects : HubCall P → Reply P C → List (Effect P C)
  hub_effects (NewHub client scope) made = on_hub made (λ number. hub_made number (one_layer client scope))
  hub_effects (NewHubFromTop hub) made = on_hub made (λ number. hub_made_from number hub.number)
  hub_effects (ReleaseHub hub now) made = hub_released hub.number ∷ []
  hub_effects (Configure hub edits now) made = hub_changed hub.number (scope_edited edits) ∷ []
  hub_effects (AddBreadcrumbs hub breadcrumbs) made = hub_changed hub.number (breadcrumbs_came breadcrumbs) ∷ []
  hub_effects (PushScope hub) made = hub_changed hub.number layer_pushed ∷ []
  hub_effects (PopScope hub depth now) made = hub_changed hub.number layer_popped ∷ []
  hub_effects (BindClient hub client) made = hub_changed hub.number (client_bound client) ∷ []
  hub_effects call made = []

  -- what an accepted call with this reply changes in the clients' options and the hubs' layers; names of sessions don't
  -- count
  abbrev pub effects : Call P C → Reply P C → List (Effect P C)
  effects (group.Client call) made = client_effects call made
  effects (group.Hub call) made = hub_effects call made
  effects (group.Span call) made = []

  -- the same of all calls of a run that were accepted, the newest first
  abbrev pub all_effects : List (Call P C) → List (Result (Out (Reply P C)) Refusal) → List (Effect P C)
      → List (Effect P C)
  all_effects (call ∷ calls) (Ok out ∷ answers) earlier =
      all_effects calls answers (onto (effects call out.reply) earlier)
  all_effects (call ∷ calls) (Err refusal ∷ answers) earlier = all_effects calls answers earlier
  all_effects [] answers earlier = earlier
  all_effects (call ∷ calls) [] earlier = earlier

  -- the layers of a hub, from how it was made and from what changed on it alone
  abbrev pub layers_after : List (Effect P C) → ℕ → Option (Stack P)
  layers_after [] number = None
  layers_after (hub_made made stack ∷ earlier) number =
      if number == made then Some stack else layers_after earlier number
  layers_after (hub_made_from made maker ∷ earlier) number =
      if number == made then option_map top_alone (layers_after earlier maker) else layers_after earlier number
  layers_after (hub_changed hub change ∷ earlier) number =
      if number == hub
      then option_map (change_layers meanings (options_after earlier) change) (layers_after earlier number)
      else layers_after earlier number
  layers_after (hub_released hub ∷ earlier) number = if number == hub then None else layers_after earlier number
  layers_after (_ ∷ earlier) number = layers_after earlier number

module _ {P : Type 0} where
  abbrev pub nameless : StackLayer P → StackLayer P
  nameless layer = record layer { session = None }

  -- the layers, the names of sessions left out
  abbrev pub without_sessions : Stack P → Stack P
  without_sessions stack = record { top = nameless stack.top; below = map nameless stack.below }

-- after these calls each hub has the layers that its own accepted calls give it
abbrev pub IsIsolated : {P C : Type 0} → (C → Meanings) → List (Call P C) → List (Result (Out (Reply P C)) Refusal)
    → World P C → Type 0
IsIsolated {P} {C} meanings calls answers last =
    (number : ℕ) → option_map (λ (hub : HubState P). without_sessions hub.stack) (value_at last.hubs number)
    ≡ layers_after meanings (all_effects meanings calls answers []) number

-- each client that is held has the options with which it was added
abbrev pub KeepsOptions : {P C : Type 0} → (C → Meanings) → List (Call P C) → List (Result (Out (Reply P C)) Refusal)
    → World P C → Type 0
KeepsOptions {P} {C} meanings calls answers last =
    (key : ClientKey) (client : ClientHistory C) → client_at last key ≡ Some client
    → options_after (all_effects meanings calls answers []) key ≡ Some client.options

-- ---- its own calls alone

module _ {P C : Type 0} where
  -- the effect is one on this hub, or on the options of a client
  abbrev pub concerns : ℕ → Effect P C → Bool
  concerns number (hub_made made stack) = number == made
  concerns number (hub_made_from made maker) = number == made
  concerns number (hub_changed hub change) = number == hub
  concerns number (hub_released hub) = number == hub
  concerns number _ = true

  abbrev pub own_alone : ℕ → List (Effect P C) → List (Effect P C)
  own_alone number [] = []
  own_alone number (effect ∷ rest) =
      if concerns number effect then effect ∷ own_alone number rest else own_alone number rest

  abbrev pub is_derived : ℕ → Effect P C → Bool
  is_derived number (hub_made_from made maker) = number == made
  is_derived number _ = false

-- a hub that was made from no other has the layers that the effects on it alone give it
abbrev pub OwnAloneSuffice : (P C : Type 0) → (C → Meanings) → Type 0
OwnAloneSuffice P C meanings =
    (some : List (Effect P C)) (number : ℕ) → list_any (is_derived number) some ≡ false
    → layers_after meanings some number ≡ layers_after meanings (own_alone number some) number
