-- Each hub has the layers that its own accepted calls give it.
use Rattle.std.proofs.Common.{◌≡◌, refl, ap, ◌∙◌, sym, subst, ℕ, ◌+◌, List, [], ◌∷◌, ◌++◌, Bool, true, false, cond, length, arith, map}
use Rattle.std.proofs.lemmas.Bool.{or_parts}
use Rattle.std.proofs.lemmas.Bool.Decides.{nat_tests}
use Rattle.std.specs.Prelude.{Option, Some, None, Result, Ok, Err, if◌then◌else◌, ◌==◌, ◌&&◌, is_some}
use Rattle.std.specs.List.{list_any, AllByRecursion}
use Rattle.sentry_laws.specs.Reachable.{ClientsAreHeld}
use Rattle.std.specs.Option.{option_map, option_and_then}
use Rattle.sentry_plain.specs.Tables.{value_at, put, replace_at, without}
use Rattle.sentry_plain.proofs.NumberLemmas.{same_number}
use Rattle.sentry_base.specs.Callbacks.{Partial}
use Rattle.sentry_base.specs.declared.protocol.breadcrumb.Breadcrumb.{Breadcrumb}
use Rattle.sentry_base.specs.declared.protocol.envelope.Envelope.{Envelope}
use Rattle.sentry_base.specs.declared.protocol.keys.ClientKey.{ClientKey}
use Rattle.sentry_base.specs.declared.protocol.keys.Label.{Label}
use Rattle.sentry_base.specs.declared.protocol.refusal.Refusal.{Refusal}
use Rattle.sentry_options.specs.Meanings.{Meanings}
use Rattle.sentry_options.specs.declared.clientoptions.ClientOptions.{ClientOptions}
use Rattle.sentry_scope.specs.declared.scope.stack.Stack.{Stack}
use Rattle.sentry_scope.specs.declared.scope.stack.StackLayer.{StackLayer}
use Rattle.sentry_scope.specs.Stacks.{one_layer, pop, top_alone, stack_of, stack_of_any, is_client, names_client}
use Rattle.sentry_hub_table.specs.Hubs.{with_session}
use Rattle.sentry_hub_table.specs.declared.hub.HubState.{HubState}
use Rattle.sentry_state.specs.declared.state.Out.{Out}
use Rattle.sentry_state.specs.Worlds.{World, ClientHistory, starting_world}
use Rattle.sentry_state.specs.Outcomes.{client_at, is_held_or_none}
use Rattle.sentry_state.specs.Clients.{is_client_named, clone_from}
use Rattle.sentry_state.specs.Changes.{with_client_history, with_new_hub}
use Rattle.sentry_sending.specs.Sending.{after_sending}
use Rattle.sentry_calls.specs.declared.call.Call.{Call}
use Rattle.sentry_calls.specs.declared.call.Call.TheVariants as group
use Rattle.sentry_calls.specs.declared.call.clients.ClientCall.{ClientCall}
use Rattle.sentry_calls.specs.declared.call.clients.ClientCall.TheVariants.{TakeReport}
use Rattle.sentry_calls.specs.declared.call.hubs.HubCall.{HubCall}
use Rattle.sentry_calls.specs.declared.call.hubs.HubCall.TheVariants.{StartSession}
use Rattle.sentry_calls.specs.declared.call.Reply.{Reply}
use Rattle.sentry_calls.specs.declared.call.Reply.TheVariants as reply
use Rattle.sentry_calls.specs.Runs.{StepsTo, Run}
use Rattle.sentry_laws.specs.OwnCalls as own
use Rattle.sentry_laws.specs.OwnCalls.{LayerChange, scope_edited, breadcrumbs_came, client_bound, layer_pushed, layer_popped, hub_changed, hub_made, hub_made_from, hub_released, client_added, client_cloned, onto, all_effects, change_layers, add_under, options_after, layers_after, nameless, without_sessions, IsIsolated, KeepsOptions}
use Rattle.sentry_laws.proofs.Effects.{Effect, seen, effects, client_effects, hub_effects}
use Rattle.sentry_laws.proofs.Changes.{Change, Changes, nothing, one, both, held_options, IsAllowed, after_arrival, Arrival, log_came, metric_came, session_ended, flush_came, makes_hub, makes_hub_from, changes_hub, leaves_hub, sets_session, notes_event_id, releases_hub, adds_client, clones_client, drops_client, arrives, accepts}
use Rattle.std.specs.BTreeMap.{is_at}
use Rattle.std.specs.Ordering.{nat_cmp}
use Rattle.sentry_client_reports.specs.LossBooks.{LossEntry}
use Rattle.sentry_laws.proofs.Tables.{AreBelow, below_put, below_replaced, below_without}
use Rattle.sentry_laws.proofs.Found.{found_put, found_replaced, found_without, all_by, all_without}
use Rattle.sentry_laws.proofs.Trails.{found_under, seen_in, own_seen}
use Rattle.sentry_laws.proofs.Keeping.{trail_of}
use Rattle.sentry_laws.proofs.SendingTrails.{own_tag}

-- ---- sessions left out

module _ {P : Type 0} where
  abbrev pub bare : HubState P → Stack P
  bare hub = without_sessions hub.stack

  nameless-append : (xs : List (StackLayer P)) (x : StackLayer P) → map nameless (xs ++ x ∷ []) ≡ map nameless xs
      ++ nameless x ∷ []
  nameless-append [] x = refl
  nameless-append (first ∷ rest) x = ap (λ l. nameless first ∷ l) (nameless-append rest x)

  stack_of_bare : (lowest : StackLayer P) (above : List (StackLayer P)) → without_sessions (stack_of lowest above)
      ≡ stack_of (nameless lowest) (map nameless above)
  stack_of_bare lowest [] = refl
  stack_of_bare lowest (layer ∷ above) =
      ap (λ (s : Stack P). record { top = s.top; below = nameless lowest ∷ s.below }) (stack_of_bare layer above)

  any_bare : (below : List (StackLayer P)) (stack : Stack P) → without_sessions (stack_of_any below stack)
      ≡ stack_of_any (map nameless below) (without_sessions stack)
  any_bare [] stack = refl
  any_bare (lowest ∷ above) stack = stack_of_bare lowest above

  pop_bare : (stack : Stack P) → without_sessions (pop stack) ≡ pop (without_sessions stack)
  unfolding pop
  pop_bare stack = any_bare stack.below stack

module _ {P C : Type 0} (meanings : C → Meanings) where
  came_bare : (b : Bool) (o : Option (ClientOptions C)) (breadcrumbs : List Breadcrumb) (stack : Stack P)
      → without_sessions (if b then stack else add_under meanings o breadcrumbs stack) ≡
      (if b then without_sessions stack else add_under meanings o breadcrumbs (without_sessions stack))
  came_bare true o breadcrumbs stack = refl
  came_bare false None breadcrumbs stack = refl
  came_bare false (Some options) breadcrumbs stack = refl

-- ---- tests of clients

same_tags : (a b c : ℕ) → (b == c) ≡ true → (a == c) ≡ true → (a == b) ≡ true
same_tags a b c h k = grind (arith, nat_tests)

module _ {C : Type 0} where
  added_option : (b1 b2 : Bool) (x c : ClientHistory C) (o : Option (ClientHistory C)) (t : Option (ClientOptions C))
      → ((if b1 then o else None) ≡ Some c → t ≡ Some c.options)
      → (if b1 then (if b2 then Some x else o) else None) ≡ Some c → (if b1 && b2 then Some x.options else t)
      ≡ Some c.options
  added_option true true x c o t h e = ap (option_map (λ (client : ClientHistory C). client.options)) e
  added_option true false x c o t h e = h e
  added_option false b2 x c o t h e = absurd cc

  added_held : (b1 b2 : Bool) (x : ClientHistory C) (o : Option (ClientHistory C)) → is_some (if b1 then o else None) ≡ true
      → is_some (if b1 then (if b2 then Some x else o) else None) ≡ true
  added_held true true x o h = refl
  added_held true false x o h = h
  added_held false b2 x o h = h

  changed_option : (b1 b2 : Bool) (new old c : ClientHistory C) (o : Option (ClientHistory C))
      (t : Option (ClientOptions C)) → (b2 ≡ true → o ≡ Some old) → new.options ≡ old.options
      → ((x : ClientHistory C) → (if b1 then o else None) ≡ Some x → t ≡ Some x.options)
      → (if b1 then (if b2 then Some new else o) else None) ≡ Some c → t ≡ Some c.options
  changed_option true true new old c o t f same h e =
      h old (f refl) ∙ (ap Some (sym same) ∙ ap (option_map (λ (client : ClientHistory C). client.options)) e)
  changed_option true false new old c o t f same h e = h c e
  changed_option false b2 new old c o t f same h e = absurd cc

  dropped_option : (b1 b2 : Bool) (c : ClientHistory C) (o : Option (ClientHistory C)) (t : Option (ClientOptions C))
      → ((if b1 then o else None) ≡ Some c → t ≡ Some c.options)
      → (if b1 then (if b2 then None else o) else None) ≡ Some c → t ≡ Some c.options
  dropped_option true true c o t h e = absurd cc
  dropped_option true false c o t h e = h e
  dropped_option false b2 c o t h e = absurd cc

  dropped_held : (b1 b2 b3 : Bool) (o : Option (ClientHistory C)) → (b3 && b2) ≡ false → (b1 ≡ true → b3 ≡ true)
      → is_some (if b1 then o else None) ≡ true → is_some (if b1 then (if b2 then None else o) else None) ≡ true
  dropped_held true true true o apart tags h = absurd cc
  dropped_held true true false o apart tags h = let e : false ≡ true = tags refl in absurd cc
  dropped_held true false b3 o apart tags h = h
  dropped_held false b2 b3 o apart tags h = h

  arrival_options : (arrival : Arrival) (client : ClientHistory C) → (after_arrival arrival client).options
      ≡ client.options
  arrival_options (log_came log) client = refl
  arrival_options (metric_came metric) client = refl
  arrival_options (session_ended update) client = refl
  arrival_options (flush_came flush) client = refl

  no_client : (b : Bool) (c : ClientHistory C) (t : Option (ClientOptions C)) → (if b then None else None) ≡ Some c
      → t ≡ Some c.options
  no_client true c t e = absurd cc
  no_client false c t e = absurd cc

-- ---- held clients

module _ {P C : Type 0} where
  abbrev AllHeld : World P C → List (StackLayer P) → Type 0
  AllHeld world [] = Unit {0}
  AllHeld world (layer ∷ rest) = (is_held_or_none world layer.client ≡ true) × AllHeld world rest

  abbrev AreHeld : World P C → Stack P → Type 0
  AreHeld world stack = AllHeld world (stack.top ∷ stack.below)

  -- what is held before is held after
  abbrev KeepsHeld : World P C → World P C → Type 0
  KeepsHeld old new = (key : ClientKey) → is_some (client_at old key) ≡ true → is_some (client_at new key) ≡ true

  kept_name : (old new : World P C) → KeepsHeld old new → (client : Option ClientKey)
      → is_held_or_none old client ≡ true → is_held_or_none new client ≡ true
  kept_name old new k None h = refl
  kept_name old new k (Some key) h = k key h

  kept_all : (old new : World P C) → KeepsHeld old new → (layers : List (StackLayer P)) → AllHeld old layers
      → AllHeld new layers
  kept_all old new k [] h = tt
  kept_all old new k (layer ∷ rest) h = (kept_name old new k layer.client h.0, kept_all old new k rest h.1)

  all_append : (world : World P C) (xs : List (StackLayer P)) (x : StackLayer P) → AllHeld world xs
      → is_held_or_none world x.client ≡ true → AllHeld world (xs ++ x ∷ [])
  all_append world [] x h k = (k, tt)
  all_append world (first ∷ rest) x h k = (h.0, all_append world rest x h.1 k)

  stack_of_held : (world : World P C) (lowest : StackLayer P) (above : List (StackLayer P))
      → AllHeld world (lowest ∷ above) → AreHeld world (stack_of lowest above)
  stack_of_held world lowest [] h = h
  stack_of_held world lowest (layer ∷ above) h = let r = stack_of_held world layer above h.1 in (r.0, (h.0, r.1))

  any_held : (world : World P C) (below : List (StackLayer P)) (stack : Stack P) → AllHeld world below
      → AreHeld world stack → AreHeld world (stack_of_any below stack)
  any_held world [] stack h k = k
  any_held world (lowest ∷ above) stack h k = stack_of_held world lowest above h

  pop_held : (world : World P C) (stack : Stack P) → AreHeld world stack → AreHeld world (pop stack)
  unfolding pop
  pop_held world stack h = any_held world stack.below stack h.1 h

module _ {P C : Type 0} (meanings : C → Meanings) where
  add_held : (world : World P C) (o : Option (ClientOptions C)) (breadcrumbs : List Breadcrumb) (b : Bool)
      (stack : Stack P) → AreHeld world stack
      → AreHeld world (if b then stack else add_under meanings o breadcrumbs stack)
  add_held world o breadcrumbs true stack h = h
  add_held world None breadcrumbs false stack h = h
  add_held world (Some options) breadcrumbs false stack h = h

  change_held : (world : World P C) (options : ClientKey → Option (ClientOptions C)) (change : LayerChange P)
      (stack : Stack P) → IsAllowed world change → AreHeld world stack
      → AreHeld world (change_layers meanings options change stack)
  change_held world options (scope_edited edits) stack n h = h
  change_held world options (breadcrumbs_came breadcrumbs) stack n h =
      add_held world (option_and_then options stack.top.client) breadcrumbs (length breadcrumbs == 0) stack h
  change_held world options (client_bound client) stack n h = (n, h.1)
  change_held world options layer_pushed stack n h = (h.0, all_append world stack.below stack.top h.1 h.0)
  change_held world options layer_popped stack n h = pop_held world stack h

  -- ---- the world agrees with what its calls changed

  pub record Agrees (told : List (own.Effect P C)) (world : World P C) : Type 0 where
    pub layers : (number : ℕ) → option_map bare (value_at world.hubs number) ≡ layers_after meanings told number
    pub options : (key : ClientKey) (client : ClientHistory C) → client_at world key ≡ Some client
        → options_after told key ≡ Some client.options
    pub held : (number : ℕ) (hub : HubState P) → value_at world.hubs number ≡ Some hub → AreHeld world hub.stack
    pub hubs : AreBelow 0 world.next.hub world.hubs
    pub clients : AreBelow 0 world.next.client world.clients

  -- ---- one change

  same_options : (told : List (own.Effect P C)) (world : World P C) (client : Option ClientKey) → Agrees told world
      → is_held_or_none world client ≡ true
      → option_and_then (held_options world) client ≡ option_and_then (options_after told) client
  same_options told world None a h = refl
  same_options told world (Some key) a h = held_option told world key a (client_at world key) refl h
    where
      held_option : (told : List (own.Effect P C)) (world : World P C) (key : ClientKey) → Agrees told world
          → (o : Option (ClientHistory C)) → client_at world key ≡ o → is_some o ≡ true
          → option_map (λ (client : ClientHistory C). client.options) o ≡ options_after told key
      held_option told world key a None found h = absurd cc
      held_option told world key a (Some client) found h = sym (a.options key client found)

  -- what changes in the layers changes likewise where sessions are left out
  changed_bare : (told : List (own.Effect P C)) (world : World P C) (change : LayerChange P) (stack : Stack P)
      → Agrees told world → AreHeld world stack
      → without_sessions (change_layers meanings (held_options world) change stack) ≡ change_layers meanings
      (options_after told) change (without_sessions stack)
  changed_bare told world (scope_edited edits) stack a h = refl
  changed_bare told world (breadcrumbs_came breadcrumbs) stack a h =
      came_bare meanings (length breadcrumbs == 0) (option_and_then (held_options world) stack.top.client)
      breadcrumbs stack
      ∙ ap (λ (o : Option (ClientOptions C)). if length breadcrumbs == 0 then without_sessions stack else add_under meanings o breadcrumbs (without_sessions stack)) (same_options told world stack.top.client a h.0)
  changed_bare told world (client_bound client) stack a h = refl
  changed_bare told world layer_pushed stack a h =
      ap (λ (l : List (StackLayer P)). record { top = nameless stack.top; below = l })
      (nameless-append stack.below stack.top)
  changed_bare told world layer_popped stack a h = pop_bare stack

  mapped_if : (b : Bool) (x : HubState P) (o : Option (HubState P)) → option_map bare (if b then Some x else o) ≡
      (if b then Some (bare x) else option_map bare o)
  mapped_if true x o = refl
  mapped_if false x o = refl

  mapped_none : (b : Bool) (o : Option (HubState P)) → option_map bare (if b then None else o) ≡
      (if b then None else option_map bare o)
  mapped_none true o = refl
  mapped_none false o = refl

  -- a hub whose layers, sessions left out, are as they were
  kept_bare : (b : Bool) (k n : ℕ) (hubs : List (ℕ × HubState P)) (x old : HubState P) → value_at hubs n ≡ Some old
      → bare x ≡ bare old → (k == n) ≡ b
      → (if b then Some (bare x) else option_map bare (value_at hubs k)) ≡ option_map bare (value_at hubs k)
  kept_bare true k n hubs x old found same e =
      ap Some same ∙ sym (ap (option_map bare) (ap (value_at hubs) (same_number k n e) ∙ found))
  kept_bare false k n hubs x old found same e = refl

  -- the hub's layers, as its calls give them
  layers_at : (told : List (own.Effect P C)) (world : World P C) (number : ℕ) (hub : HubState P) → Agrees told world
      → value_at world.hubs number ≡ Some hub → layers_after meanings told number ≡ Some (bare hub)
  layers_at told world number hub a found = sym (a.layers number) ∙ ap (option_map bare) found

  changed_if : (b : Bool) (told : List (own.Effect P C)) (world : World P C) (k n : ℕ) (new old : HubState P)
      (change : LayerChange P) → Agrees told world → value_at world.hubs n ≡ Some old → (k == n) ≡ b
      → bare new ≡ change_layers meanings (options_after told) change (bare old)
      → (if b then Some (bare new) else option_map bare (value_at world.hubs k))
      ≡ (if b then option_map (change_layers meanings (options_after told) change) (layers_after meanings told k)
      else layers_after meanings told k)
  changed_if true told world k n new old change a found e same =
      ap Some same ∙ sym (ap (option_map (change_layers meanings (options_after told) change))
      (ap (layers_after meanings told) (same_number k n e) ∙ layers_at told world n old a found))
  changed_if false told world k n new old change a found e same = a.layers k

  left_if : (b : Bool) (told : List (own.Effect P C)) (world : World P C) (k n : ℕ) (hub : HubState P) (change : LayerChange P)
      → Agrees told world → value_at world.hubs n ≡ Some hub → (k == n) ≡ b
      → bare hub ≡ change_layers meanings (options_after told) change (bare hub)
      → option_map bare (value_at world.hubs k) ≡
      (if b then option_map (change_layers meanings (options_after told) change) (layers_after meanings told k)
      else layers_after meanings told k)
  left_if true told world k n hub change a found e same =
      a.layers k ∙ (ap (layers_after meanings told) (same_number k n e)
      ∙ (layers_at told world n hub a found ∙ (ap Some same
      ∙ sym (ap (option_map (change_layers meanings (options_after told) change))
      (ap (layers_after meanings told) (same_number k n e) ∙ layers_at told world n hub a found)))))
  left_if false told world k n hub change a found e same = a.layers k

  -- a hub is replaced by one whose layers, sessions left out, are as they were
  agrees_renamed : (told : List (own.Effect P C)) (world : World P C) (number : ℕ) (old new : HubState P)
      → value_at world.hubs number ≡ Some old → bare new ≡ bare old → AreHeld world new.stack
      → Agrees told world → Agrees told (record world { hubs = replace_at world.hubs number new })
  agrees_renamed told world number old new found same h a = record {
    layers = λ k. ap (option_map bare) (found_replaced world.hubs number k new old found)
        ∙ (mapped_if (k == number) new (value_at world.hubs k)
        ∙ (kept_bare (k == number) k number world.hubs new old found same refl ∙ a.layers k));
    options = a.options;
    held = λ k hub at. all_by (λ (x : HubState P). AreHeld world x.stack) (k == number) new hub (value_at world.hubs k) h
        (λ z zat. a.held k z zat) (sym (found_replaced world.hubs number k new old found) ∙ at);
    hubs = below_replaced 0 world.next.hub number new world.hubs a.hubs;
    clients = a.clients;
  }

  agrees_changed : (told : List (own.Effect P C)) (world : World P C) (number : ℕ) (old new : HubState P)
      (change : LayerChange P) → value_at world.hubs number ≡ Some old
      → new.stack ≡ change_layers meanings (held_options world) change old.stack → IsAllowed world change
      → Agrees told world → Agrees (hub_changed number change ∷ told)
      (record world { hubs = replace_at world.hubs number new })
  agrees_changed told world number old new change found fits names a = record {
    layers = λ k. ap (option_map bare) (found_replaced world.hubs number k new old found)
        ∙ (mapped_if (k == number) new (value_at world.hubs k)
        ∙ changed_if (k == number) told world k number new old change a found refl
        (ap without_sessions fits ∙ changed_bare told world change old.stack a (a.held number old found)));
    options = a.options;
    held = λ k hub at. all_by (λ (x : HubState P). AreHeld world x.stack) (k == number) new hub (value_at world.hubs k)
        (subst (AreHeld world) (sym fits) (change_held world (held_options world) change old.stack names
        (a.held number old found))) (λ z zat. a.held k z zat) (sym (found_replaced world.hubs number k new old found)
        ∙ at);
    hubs = below_replaced 0 world.next.hub number new world.hubs a.hubs;
    clients = a.clients;
  }

  agrees_left : (told : List (own.Effect P C)) (world : World P C) (number : ℕ) (hub : HubState P) (change : LayerChange P)
      → value_at world.hubs number ≡ Some hub
      → change_layers meanings (held_options world) change hub.stack ≡ hub.stack
      → Agrees told world → Agrees (hub_changed number change ∷ told) world
  agrees_left told world number hub change found fits a = record {
    layers = λ k. left_if (k == number) told world k number hub change a found refl (sym (ap without_sessions fits)
        ∙ changed_bare told world change hub.stack a (a.held number hub found));
    options = a.options;
    held = a.held;
    hubs = a.hubs;
    clients = a.clients;
  }

  -- one more hub
  agrees_made : (told : List (own.Effect P C)) (world : World P C) (stack : Stack P) (effect : own.Effect P C)
      → AreHeld world stack
      → ((k : ℕ) → (if k == world.next.hub then Some (without_sessions stack) else layers_after meanings told k)
      ≡ layers_after meanings (effect ∷ told) k)
      → ((key : ClientKey) → options_after (effect ∷ told) key ≡ options_after told key)
      → Agrees told world → Agrees (effect ∷ told) (with_new_hub stack world)
  agrees_made told world stack effect h gives_ options_ a = record {
    layers = λ k. ap (option_map bare)
        (found_put world.hubs world.next.hub k (record { stack = stack; last_event_id = None }))
        ∙ (mapped_if (k == world.next.hub) (record { stack = stack; last_event_id = None }) (value_at world.hubs k)
        ∙ (ap (λ (o : Option (Stack P)). if k == world.next.hub then Some (without_sessions stack) else o) (a.layers k)
        ∙ gives_ k));
    options = λ key client at. options_ key ∙ a.options key client at;
    held = λ k hub at. all_by (λ (x : HubState P). AreHeld world x.stack) (k == world.next.hub)
        (record { stack = stack; last_event_id = None }) hub (value_at world.hubs k) h (λ z zat. a.held k z zat)
        (sym (found_put world.hubs world.next.hub k (record { stack = stack; last_event_id = None })) ∙ at);
    hubs = below_put world.next.hub (record { stack = stack; last_event_id = None }) world.hubs a.hubs;
    clients = a.clients;
  }

  agrees_released : (told : List (own.Effect P C)) (world : World P C) (number : ℕ) → Agrees told world
      → Agrees (hub_released number ∷ told) (record world { hubs = without world.hubs number })
  agrees_released told world number a = record {
    layers = λ k. ap (option_map bare) (found_without 0 world.next.hub world.hubs number k a.hubs)
        ∙ (mapped_none (k == number) (value_at world.hubs k)
        ∙ ap (λ (o : Option (Stack P)). if k == number then None else o) (a.layers k));
    options = a.options;
    held = λ k hub at. all_without (λ (x : HubState P). AreHeld world x.stack) (k == number) hub (value_at world.hubs k)
        (λ z zat. a.held k z zat) (sym (found_without 0 world.next.hub world.hubs number k a.hubs) ∙ at);
    hubs = below_without 0 world.next.hub number world.hubs a.hubs;
    clients = a.clients;
  }

  -- ---- clients

  agrees_added : (told : List (own.Effect P C)) (world : World P C) (client : ClientHistory C) (effect : own.Effect P C)
      (books : List (ℕ × List LossEntry))
      → ((key : ClientKey) → options_after (effect ∷ told) key ≡
      (if is_client (record { tag = world.tag; number = world.next.client }) (Some key)
      then Some client.options else options_after told key))
      → ((k : ℕ) → layers_after meanings told k ≡ layers_after meanings (effect ∷ told) k) → Agrees told world
      → Agrees (effect ∷ told) (record world {
        next = record world.next { client = world.next.client + 1 };
        clients =
            put world.clients world.next.client client;
        books = books;
      })
  agrees_added told world client effect books options_ layers_ a =
      let after : World P C = record world {
        next = record world.next { client = world.next.client + 1 };
        clients =
            put world.clients world.next.client client;
        books = books;
      } in
      let at_ : (key : ClientKey)
      → client_at after key ≡
      (if key.tag == world.tag then
      (if key.number == world.next.client then Some client else value_at world.clients key.number) else None) =
      (λ key. ap (λ (o : Option (ClientHistory C)). if key.tag == world.tag then o else None)
      (found_put world.clients world.next.client key.number client)) in
      record {
        layers = λ k. a.layers k ∙ layers_ k;
        options = λ key c at. options_ key ∙ added_option (key.tag == world.tag) (key.number == world.next.client)
            client c (value_at world.clients key.number) (options_after told key) (λ h. a.options key c h)
            (sym (at_ key) ∙ at);
        held = λ n hub at. kept_all world after (λ key h. ap is_some (at_ key) ∙ added_held (key.tag == world.tag)
            (key.number == world.next.client) client (value_at world.clients key.number) h)
            (hub.stack.top ∷ hub.stack.below) (a.held n hub at);
        hubs = a.hubs;
        clients = below_put world.next.client client world.clients a.clients;
      }

  agrees_client : (told : List (own.Effect P C)) (world : World P C) (key : ClientKey) (old new : ClientHistory C)
      → client_at world key ≡ Some old → new.options ≡ old.options
      → Agrees told world → Agrees told (with_client_history world key new)
  agrees_client told world key old new found same a =
      let after : World P C = with_client_history world key new in
      let here : value_at world.clients key.number ≡ Some old =
      found_under world.tag world.clients key.tag key.number old found in
      let at_ : (k : ClientKey)
      → client_at after k ≡
      (if k.tag == world.tag then (if k.number == key.number then Some new else value_at world.clients k.number)
      else None) =
      (λ k. ap (λ (o : Option (ClientHistory C)). if k.tag == world.tag then o else None)
      (found_replaced world.clients key.number k.number new old here)) in
      record {
        layers = a.layers;
        options = λ k c at. changed_option (k.tag == world.tag) (k.number == key.number) new old c
            (value_at world.clients k.number) (options_after told k)
            (λ e. ap (value_at world.clients) (same_number k.number key.number e) ∙ here) same (λ x h. a.options k x h)
            (sym (at_ k) ∙ at);
        held = λ n hub at. kept_all world after (λ k h. ap is_some (at_ k) ∙ added_held (k.tag == world.tag)
            (k.number == key.number) new (value_at world.clients k.number) h) (hub.stack.top ∷ hub.stack.below)
            (a.held n hub at);
        hubs = a.hubs;
        clients = below_replaced 0 world.next.client key.number new world.clients a.clients;
      }

  unnamed-at : (b : Bool) (key : ClientKey) (x hub : HubState P) (o : Option (HubState P)) → names_client key x.stack ≡ false
      → (o ≡ Some hub → names_client key hub.stack ≡ false)
      → cond b (Some x) o ≡ Some hub → names_client key hub.stack ≡ false
  unnamed-at true key x hub o h rest e = let same : x ≡ hub =
      cc in subst (λ (y : HubState P). names_client key y.stack ≡ false) same h
  unnamed-at false key x hub o h rest e = rest e

  unnamed : (key : ClientKey) (hubs : List (ℕ × HubState P)) (n : ℕ) (hub : HubState P) → is_client_named key hubs ≡ false
      → value_at hubs n ≡ Some hub → names_client key hub.stack ≡ false
  unnamed key [] n hub h e = absurd cc
  unnamed key (entry ∷ rest) n hub h e =
      unnamed-at (is_at (nat_cmp n) entry.0) key entry.1 hub (value_at rest n) (or_parts _ _ h).0
      (λ found. unnamed key rest n hub (or_parts _ _ h).1 found) e

  dropped_name : (world : World P C) (key : ClientKey) (clients : List (ℕ × ClientHistory C)) → (key.tag == world.tag)
      ≡ true
      → ((k : ClientKey) → client_at (record world { clients = clients }) k ≡
      (if k.tag == world.tag then (if k.number == key.number then None else value_at world.clients k.number) else None))
      → (client : Option ClientKey) → is_client key client ≡ false → is_held_or_none world client ≡ true
      → is_held_or_none (record world { clients = clients }) client ≡ true
  dropped_name world key clients own at_ None apart h = refl
  dropped_name world key clients own at_ (Some k) apart h =
      ap is_some (at_ k) ∙ dropped_held (k.tag == world.tag) (k.number == key.number) (k.tag == key.tag)
      (value_at world.clients k.number) apart (λ e. same_tags k.tag key.tag world.tag own e) h

  dropped_all : (world : World P C) (key : ClientKey) (clients : List (ℕ × ClientHistory C)) → (key.tag == world.tag)
      ≡ true
      → ((k : ClientKey) → client_at (record world { clients = clients }) k ≡
      (if k.tag == world.tag then (if k.number == key.number then None else value_at world.clients k.number) else None))
      → (layers : List (StackLayer P)) → list_any (λ (layer : StackLayer P). is_client key layer.client) layers ≡ false
      → AllHeld world layers → AllHeld (record world { clients = clients }) layers
  dropped_all world key clients own at_ [] apart h = tt
  dropped_all world key clients own at_ (layer ∷ rest) apart h = (
    dropped_name world key clients own at_ layer.client (or_parts _ _ apart).0 h.0,
    dropped_all world key clients own at_ rest (or_parts _ _ apart).1 h.1,
  )

  agrees_dropped : (told : List (own.Effect P C)) (world : World P C) (key : ClientKey) → (key.tag == world.tag) ≡ true
      → is_client_named key world.hubs ≡ false
      → Agrees told world → Agrees told (record world { clients = without world.clients key.number })
  agrees_dropped told world key own none a =
      let after : World P C = record world { clients = without world.clients key.number } in
      let at_ : (k : ClientKey)
      → client_at after k ≡
      (if k.tag == world.tag then (if k.number == key.number then None else value_at world.clients k.number)
      else None) =
      (λ k. ap (λ (o : Option (ClientHistory C)). if k.tag == world.tag then o else None)
      (found_without 0 world.next.client world.clients key.number k.number a.clients)) in
      record {
        layers = a.layers;
        options = λ k c at. dropped_option (k.tag == world.tag) (k.number == key.number) c
            (value_at world.clients k.number) (options_after told k) (λ h. a.options k c h) (sym (at_ k) ∙ at);
        held = λ n hub at. dropped_all world key (without world.clients key.number) own at_
            (hub.stack.top ∷ hub.stack.below) (unnamed key world.hubs n hub none at) (a.held n hub at);
        hubs = a.hubs;
        clients = below_without 0 world.next.client key.number world.clients a.clients;
      }

  agrees_sending : (told : List (own.Effect P C)) (label : Label) (sent : List (ClientKey × Envelope)) (world : World P C)
      → Agrees told world → Agrees told (after_sending label sent world)
  agrees_sending told label [] world a = a
  agrees_sending told label (first ∷ rest) world a = record {
    layers = a.layers;
    options = a.options;
    held =
        a.held;
    hubs = a.hubs;
    clients = a.clients;
  }

  -- ---- all changes

  cloned_option : (told : List (own.Effect P C)) (world : World P C) (original : ClientKey) (client : ClientHistory C)
      (now : ℕ) → client_at world original ≡ Some client → Agrees told world → (key : ClientKey)
      → (if is_client (record { tag = world.tag; number = world.next.client }) (Some key)
      then options_after told original else options_after told key)
      ≡ (if is_client (record { tag = world.tag; number = world.next.client }) (Some key) then Some
      (clone_from now client).options else options_after told key)
  cloned_option told world original client now found a key =
      ap (λ (o : Option (ClientOptions C)). if is_client (record { tag = world.tag; number = world.next.client })
      (Some key) then o else options_after told key) (a.options original client found)

  made_from : (told : List (own.Effect P C)) (world : World P C) (maker : ℕ) (hub : HubState P)
      → value_at world.hubs maker ≡ Some hub → Agrees told world → (k : ℕ)
      → (if k == world.next.hub then Some (without_sessions (top_alone hub.stack)) else layers_after meanings told k)
      ≡ (if k == world.next.hub then option_map top_alone (layers_after meanings told maker)
      else layers_after meanings told k)
  made_from told world maker hub found a k =
      ap (λ (o : Option (Stack P)). if k == world.next.hub then o else layers_after meanings told k)
      (sym (ap (option_map top_alone) (layers_at told world maker hub a found)))

  agrees_change : {f : Option Envelope} {old new : World P C} {some : List (Effect P C)} {sent : List
      (ClientKey × Envelope)} → Change meanings f old some sent new
      → (told : List (own.Effect P C)) → Agrees told old → Agrees (onto (seen_in some) told) new
  agrees_change (makes_hub world client scope held active) told a =
      agrees_made told world (one_layer client scope) (hub_made world.next.hub (one_layer client scope)) (held, tt)
      (λ k. refl) (λ key. refl) a
  agrees_change (makes_hub_from world maker hub found) told a =
      agrees_made told world (top_alone hub.stack) (hub_made_from world.next.hub maker) ((a.held maker hub found).0, tt)
      (made_from told world maker hub found a) (λ key. refl) a
  agrees_change (changes_hub world number old new change found fits names) told a =
      agrees_changed told world number old new change found fits names a
  agrees_change (leaves_hub world number hub change found fits) told a =
      agrees_left told world number hub change found fits a
  agrees_change (sets_session world number hub session found given) told a =
      agrees_renamed told world number hub (with_session hub session) found refl (a.held number hub found) a
  agrees_change (notes_event_id world number old new found same) told a =
      agrees_renamed told world number old new found (ap without_sessions same)
      (subst (AreHeld world) (sym same) (a.held number old found)) a
  agrees_change (releases_hub world number hub found alone) told a = agrees_released told world number a
  agrees_change (adds_client world client now queues open_ of_engine) told a =
      agrees_added told world client (client_added (record { tag = world.tag; number = world.next.client })
      client.options) _ (λ key. refl) (λ k. refl) a
  agrees_change (clones_client world original client now found) told a =
      agrees_added told world (clone_from now client)
      (client_cloned (record { tag = world.tag; number = world.next.client }) original) world.books
      (cloned_option told world original client now found a) (λ k. refl) a
  agrees_change (drops_client world key client label found same none) told a =
      let d = agrees_dropped told world key (own_tag key world client found) none a in
      record { layers = d.layers; options = d.options; held = d.held; hubs = d.hubs; clients = d.clients }
  agrees_change (arrives world key client arrival is_off found open_ came) told a =
      agrees_sending told client.label _ _ (agrees_client told world key client (after_arrival arrival client) found
      (arrival_options arrival client) a)
  agrees_change (accepts world key client arrival kind is_off found open_ came) told a =
      agrees_sending told client.label _ _ (agrees_client told world key client (after_arrival arrival client) found
      (arrival_options arrival client) a)
  agrees_change _ told a =
      record { layers = a.layers; options = a.options; held = a.held; hubs = a.hubs; clients = a.clients }

  seen_onto : (first second : List (Effect P C)) (told : List (own.Effect P C))
      → onto (seen_in (first ++ second)) told ≡ onto (seen_in second) (onto (seen_in first) told)
  seen_onto [] second told = refl
  seen_onto (seen effect ∷ rest) second told = seen_onto rest second (effect ∷ told)
  seen_onto (_ ∷ rest) second told = seen_onto rest second told

  agrees_changes : {f : Option Envelope} {old new : World P C} {some : List (Effect P C)} {sent : List
      (ClientKey × Envelope)} → Changes meanings f old some sent new
      → (told : List (own.Effect P C)) → Agrees told old → Agrees (onto (seen_in some) told) new
  agrees_changes (nothing world) told a = a
  agrees_changes (one c) told a = agrees_change c told a
  agrees_changes (both {new = new} {first = first} {second = second} t u) told a =
      subst (λ more. Agrees more new) (sym (seen_onto first second told))
      (agrees_changes u (onto (seen_in first) told) (agrees_changes t told a))

-- ---- calls

module _ {P C : Type 0} (meanings : C → Meanings) where
  seen_mapped : (some : List (own.Effect P C)) → seen_in (map seen some) ≡ some
  seen_mapped [] = refl
  seen_mapped (effect ∷ rest) = ap (λ l. effect ∷ l) (seen_mapped rest)

  client_seen : (call : ClientCall P C) (made : Reply P C)
      → seen_in (client_effects meanings call made) ≡ own.client_effects meanings call made
  client_seen (TakeReport label) (reply.Report report) = refl
  client_seen (TakeReport label) _ = refl
  client_seen call made = seen_mapped (own.client_effects meanings call made)

  hub_seen : (call : HubCall P) (made : Reply P C)
      → seen_in (hub_effects meanings call made) ≡ own.hub_effects meanings call made
  hub_seen (StartSession hub fresh) made = refl
  hub_seen call made = seen_mapped (own.hub_effects meanings call made)

  call_seen : (call : Call P C) (made : Reply P C) → seen_in (effects meanings call made) ≡ own.effects meanings call made
  call_seen (group.Client call) made = client_seen call made
  call_seen (group.Hub call) made = hub_seen call made
  call_seen (group.Span call) made = refl

-- ---- runs

module _ {P C : Type 0} (gives : P → Partial) (meanings : C → Meanings) where
  agrees_next : (call : Call P C) (out : Out (Reply P C)) (world next : World P C) (told : List (own.Effect P C))
      → StepsTo gives meanings world call (Ok out) next → Agrees meanings told world
      → Agrees meanings (onto (own.effects meanings call out.reply) told) next
  agrees_next call out world next told may a =
      let trail = trail_of gives meanings call out world next may in
      subst (λ some. Agrees meanings (onto some told) next)
      (sym (own_seen trail.effects) ∙ (ap seen_in trail.same ∙ call_seen meanings call out.reply))
      (agrees_changes meanings trail.changes told a)

  pub agrees_run : (calls : List (Call P C)) (answers : List (Result (Out (Reply P C)) Refusal))
      (world last : World P C) (told : List (own.Effect P C)) → Agrees meanings told world
      → Run gives meanings world calls answers last → Agrees meanings (all_effects meanings calls answers told) last
  agrees_run [] [] world last told a run = subst (Agrees meanings told) (sym run) a
  agrees_run (call ∷ calls) (Ok out ∷ answers) world last told a run =
      agrees_run calls answers run.0 last (onto (own.effects meanings call out.reply) told)
      (agrees_next call out world run.0 told run.1 a) run.2
  agrees_run (call ∷ calls) (Err refusal ∷ answers) world last told a run =
      agrees_run calls answers run.0 last told (subst (Agrees meanings told) (sym run.1.1) a) run.2
  agrees_run [] (answer ∷ answers) world last told a run = absurd run
  agrees_run (call ∷ calls) [] world last told a run = absurd run

  pub agrees_first : (tag start : ℕ) → Agrees {P = P} meanings [] (starting_world tag start)
  agrees_first tag start =
      record {
        layers = λ n. refl;
        options = λ key client at. no_client (key.tag == tag) client None at;
        held =
            λ n hub at. absurd cc;
        hubs = tt;
        clients = tt;
      }

  pub isolated : (tag start : ℕ) (calls : List (Call P C)) (answers : List (Result (Out (Reply P C)) Refusal))
      (last : World P C)
      → Run gives meanings (starting_world tag start) calls answers last → IsIsolated meanings calls answers last
  isolated tag start calls answers last run =
      (agrees_run calls answers (starting_world tag start) last [] (agrees_first tag start) run).layers

  pub keeps_options : (tag start : ℕ) (calls : List (Call P C)) (answers : List (Result (Out (Reply P C)) Refusal))
      (last : World P C)
      → Run gives meanings (starting_world tag start) calls answers last → KeepsOptions meanings calls answers last
  keeps_options tag start calls answers last run =
      (agrees_run calls answers (starting_world tag start) last [] (agrees_first tag start) run).options

  -- each client that a layer names is held
  pub named_clients_held : (tag start : ℕ) (calls : List (Call P C)) (answers : List (Result (Out (Reply P C)) Refusal))
      (last : World P C)
      → Run gives meanings (starting_world tag start) calls answers last → ClientsAreHeld last
  named_clients_held tag start calls answers last run number hub found =
      let a : Agrees meanings _ last = agrees_run calls answers (starting_world tag start) last []
      (agrees_first tag start) run in
      all_held last (hub.stack.top ∷ hub.stack.below) (a.held number hub found)
    where
      all_held : (world : World P C) (layers : List (StackLayer P)) → AllHeld world layers
          → AllByRecursion (λ (layer : StackLayer P). is_held_or_none world layer.client ≡ true) layers
      all_held world [] h = tt
      all_held world (layer ∷ rest) h = (h.0, all_held world rest h.1)
