-- Sessions that are held are named: what each change keeps by which no session starts and no layer gives one up.
use Rattle.std.proofs.Common.{◌≡◌, refl, ap, ◌∙◌, sym, subst, ℕ, List, [], ◌∷◌, ◌++◌, Bool, true, false, length}
use Rattle.std.proofs.lemmas.Bool.{or_parts}
use Rattle.std.specs.Prelude.{Option, Some, None, if◌then◌else◌, ◌==◌, ◌||◌}
use Rattle.std.specs.List.{list_any}
use Rattle.std.specs.Option.{option_and_then}
use Rattle.sentry_plain.specs.Tables.{value_at, put, replace_at, without}
use Rattle.sentry_plain.proofs.NumberLemmas.{same_number}
use Rattle.sentry_base.specs.declared.protocol.breadcrumb.Breadcrumb.{Breadcrumb}
use Rattle.sentry_base.specs.declared.protocol.envelope.Envelope.{Envelope}
use Rattle.sentry_base.specs.declared.protocol.keys.ClientKey.{ClientKey}
use Rattle.sentry_base.specs.declared.protocol.keys.Label.{Label}
use Rattle.sentry_base.specs.declared.protocol.keys.SessionKey.{SessionKey}
use Rattle.sentry_options.specs.Meanings.{Meanings}
use Rattle.sentry_options.specs.declared.clientoptions.ClientOptions.{ClientOptions}
use Rattle.sentry_scope.specs.declared.scope.stack.Stack.{Stack}
use Rattle.sentry_scope.specs.declared.scope.stack.StackLayer.{StackLayer}
use Rattle.sentry_scope.specs.Stacks.{one_layer, push, top_alone, is_session, names_session}
use Rattle.sentry_hub_table.specs.Hubs.{is_session_named}
use Rattle.sentry_hub_table.specs.declared.hub.HubState.{HubState}
use Rattle.sentry_sending.specs.Sending.{send, after_sending}
use Rattle.sentry_state.specs.Changes.{with_client_history}
use Rattle.sentry_state.specs.Outcomes.{session_at}
use Rattle.sentry_state.specs.Worlds.{World, SessionHistory}
use Rattle.sentry_laws.specs.OwnCalls.{LayerChange, scope_edited, breadcrumbs_came, client_bound, layer_pushed, layer_popped, hub_changed, hub_released, change_layers, add_under}
use Rattle.sentry_laws.proofs.Effects.{Effect, seen, session_named, session_begun}
use Rattle.sentry_laws.proofs.Changes.{Change, Changes, nothing, one, both, held_options, after_arrival, envelopes_on_arrival, makes_hub, makes_hub_from, changes_hub, sets_session, notes_event_id, releases_hub, arrives, accepts, starts_session, changes_session, ends_session}
use Rattle.sentry_laws.specs.Reachable.{SessionsAreNamed}
use Rattle.sentry_laws.proofs.Tables.{AreBelow}
use Rattle.sentry_laws.proofs.Found.{found_replaced, found_without}
use Rattle.sentry_laws.proofs.Tests.{passes_put, passes_raised, or_rest, any_first, any_second}
use Rattle.sentry_laws.proofs.Numbered.{IsNumbered, numbered_changes}

-- ---- effects by which a session starts, or a layer gives one up

module _ {P C : Type 0} where
  abbrev pub is_unnaming : Effect P C → Bool
  is_unnaming (session_named number session) = true
  is_unnaming (seen (hub_changed number layer_popped)) = true
  is_unnaming (seen (hub_released number)) = true
  is_unnaming (session_begun number id) = true
  is_unnaming _ = false

-- ---- effects by which a layer names another session

module _ {P C : Type 0} where
  abbrev pub is_naming : ℕ → Effect P C → Bool
  is_naming n (session_named number (Some key)) = n == number
  is_naming n _ = false

  abbrev pub is_begun : ℕ → Effect P C → Bool
  is_begun n (session_begun number id) = n == number
  is_begun n _ = false

  calm_unnamed : (n : ℕ) (effect : Effect P C) → is_unnaming effect ≡ false → is_naming n effect ≡ false
  calm_unnamed n (session_named number (Some key)) h = absurd cc
  calm_unnamed n _ h = refl

  -- where no session starts and no layer gives one up, no layer names another one
  pub unnamed : (n : ℕ) (some : List (Effect P C)) → list_any is_unnaming some ≡ false
      → list_any (is_naming n) some ≡ false
  unnamed n [] h = refl
  unnamed n (effect ∷ rest) h =
      ap (λ b. b || list_any (is_naming n) rest) (calm_unnamed n effect (or_parts (is_unnaming effect) _ h).0)
      ∙ unnamed n rest (or_parts (is_unnaming effect) _ h).1

-- ---- sessions that are found

-- what is found after one of the sessions changed was found before
replaced_before : (sessions : List (ℕ × SessionHistory)) (number k : ℕ) (old new session : SessionHistory) (own : Bool)
    → value_at sessions number ≡ Some old → (if own then value_at (replace_at sessions number new) k else None)
    ≡ Some session → (before : SessionHistory) × ((if own then value_at sessions k else None) ≡ Some before)
replaced_before sessions number k old new session true found at =
    by_number (k == number) refl (sym (found_replaced sessions number k new old found) ∙ at)
  where
    by_number : (b : Bool) → (k == number) ≡ b → (if b then Some new else value_at sessions k) ≡ Some session
        → (before : SessionHistory) × (value_at sessions k ≡ Some before)
    by_number true e h = (old, ap (value_at sessions) (same_number k number e) ∙ found)
    by_number false e h = (session, h)
replaced_before sessions number k old new session false found at = absurd cc

-- what is found after one of the sessions went is another one, and was found before
pub without_before : (next : ℕ) (sessions : List (ℕ × SessionHistory)) (number k : ℕ) (session : SessionHistory)
    (own : Bool) → AreBelow 0 next sessions → (if own then value_at (without sessions number) k else None)
    ≡ Some session → ((k == number) ≡ false) × ((if own then value_at sessions k else None) ≡ Some session)
without_before next sessions number k session true below at =
    by_number (k == number) refl (sym (found_without 0 next sessions number k below) ∙ at)
  where
    by_number : (b : Bool) → (k == number) ≡ b → (if b then None else value_at sessions k) ≡ Some session
        → ((k == number) ≡ false) × (value_at sessions k ≡ Some session)
    by_number true e h = absurd cc
    by_number false e h = (e, h)
without_before next sessions number k session false below at = absurd cc

-- ---- layers that name a session

module _ {P : Type 0} (key : SessionKey) where
  abbrev pub has_session : StackLayer P → Bool
  has_session layer = is_session key layer.session

  -- a layer of the hub names the session
  abbrev pub is_on : HubState P → Bool
  is_on hub = names_session key hub.stack

  any_longer : (layers : List (StackLayer P)) (last : StackLayer P) → list_any has_session layers ≡ true
      → list_any has_session (layers ++ last ∷ []) ≡ true
  any_longer [] last h = absurd cc
  any_longer (first ∷ rest) last h =
      or_rest (has_session first) (list_any has_session rest) (list_any has_session (rest ++ last ∷ []))
      (any_longer rest last) h

  pushed_on : (stack : Stack P) → names_session key stack ≡ true → names_session key (push stack) ≡ true
  pushed_on stack h =
      or_rest (has_session stack.top) (list_any has_session stack.below)
      (list_any has_session (stack.below ++ stack.top ∷ [])) (any_longer stack.below stack.top) h

module _ {P C : Type 0} (meanings : C → Meanings) (key : SessionKey) where
  crumbs_on : (b : Bool) (o : Option (ClientOptions C)) (breadcrumbs : List Breadcrumb) (stack : Stack P)
      → names_session key stack ≡ true
      → names_session key (if b then stack else add_under meanings o breadcrumbs stack) ≡ true
  crumbs_on true o breadcrumbs stack h = h
  crumbs_on false None breadcrumbs stack h = h
  crumbs_on false (Some options) breadcrumbs stack h = h

  change_on : (options : ClientKey → Option (ClientOptions C)) (number : ℕ) (change : LayerChange P) (stack : Stack P)
      → is_unnaming {P = P} {C = C} (seen (hub_changed number change)) ≡ false → names_session key stack ≡ true
      → names_session key (change_layers meanings options change stack) ≡ true
  change_on options number (scope_edited edits) stack calm h = h
  change_on options number (breadcrumbs_came breadcrumbs) stack calm h =
      crumbs_on (length breadcrumbs == 0) (option_and_then options stack.top.client) breadcrumbs stack h
  change_on options number (client_bound client) stack calm h = h
  change_on options number layer_pushed stack calm h = pushed_on key stack h
  change_on options number layer_popped stack calm h = absurd cc

-- ---- worlds

module _ {P C : Type 0} where
  -- the session of the key is named, if it is held
  abbrev pub IsNamed : World P C → SessionKey → Type 0
  IsNamed world key =
      (session : SessionHistory) → session_at world key ≡ Some session → is_session_named key world.hubs ≡ true

  hub_more : (world : World P C) (stack : Stack P) (key : SessionKey) → IsNumbered world
      → is_session_named key world.hubs ≡ true
      → is_session_named key (put world.hubs world.next.hub (record { stack = stack; last_event_id = None })) ≡ true
  hub_more world stack key n h =
      passes_put (is_on key) world.next.hub (record { stack = stack; last_event_id = None }) world.hubs n.hubs
      ∙ ap (λ b. b || names_session key stack) h

  -- a hub whose layers name what they named
  pub hub_replaced_named : (world : World P C) (number : ℕ) (old new : HubState P) → value_at world.hubs number ≡ Some old
      → ((key : SessionKey) → names_session key old.stack ≡ true → names_session key new.stack ≡ true)
      → SessionsAreNamed world → SessionsAreNamed (record world { hubs = replace_at world.hubs number new })
  hub_replaced_named world number old new found more h key session at =
      passes_raised (is_on key) world.hubs number new old found (more key) (h key session at)

  named_sending : (label : Label) (sent : List (ClientKey × Envelope)) (world : World P C) → SessionsAreNamed world
      → SessionsAreNamed (after_sending label sent world)
  named_sending label [] world h = h
  named_sending label (first ∷ rest) world h = h

module _ {P C : Type 0} (meanings : C → Meanings) where
  named_change : {given : Option Envelope} {old new : World P C} {some : List (Effect P C)} {sent : List
      (ClientKey × Envelope)} → Change meanings given old some sent new → list_any is_unnaming some ≡ false
      → IsNumbered old → SessionsAreNamed old → SessionsAreNamed new
  named_change (makes_hub world client scope held active) calm n h =
      λ key session at. hub_more world (one_layer client scope) key n (h key session at)
  named_change (makes_hub_from world maker hub found) calm n h =
      λ key session at. hub_more world (top_alone hub.stack) key n (h key session at)
  named_change (changes_hub world number old new change found fits allowed) calm n h =
      hub_replaced_named world number old new found (λ key named. subst (λ s. names_session key s ≡ true) (sym fits)
      (change_on meanings key (held_options world) number change old.stack (or_parts _ _ calm).0 named)) h
  named_change (sets_session world number hub session found given) calm n h = absurd cc
  named_change (notes_event_id world number old new found same) calm n h =
      hub_replaced_named world number old new found
      (λ key named. subst (λ s. names_session key s ≡ true) (sym same) named) h
  named_change (releases_hub world number hub found alone) calm n h = absurd cc
  named_change (arrives world key client arrival is_off found open_ came) calm n h =
      named_sending client.label (send key client (envelopes_on_arrival arrival client)
      (with_client_history world key (after_arrival arrival client))).sent
      (with_client_history world key (after_arrival arrival client)) h
  named_change (accepts world key client arrival kind is_off found open_ came) calm n h =
      named_sending client.label (send key client (envelopes_on_arrival arrival client)
      (with_client_history world key (after_arrival arrival client))).sent
      (with_client_history world key (after_arrival arrival client)) h
  named_change (starts_session world number start) calm n h = absurd cc
  named_change (changes_session world number old new later found same) calm n h =
      λ key session at.
      let before = replaced_before world.sessions number key.number old new session (key.tag == world.tag) found at in
      h key before.0 before.1
  named_change (ends_session world number) calm n h =
      λ key session at. h key session
      (without_before world.next.session world.sessions number key.number session (key.tag == world.tag) n.sessions
      at).1
  named_change _ calm n h = h

  -- where no session starts and no layer gives one up, each session that is held stays named
  pub names_kept : {given : Option Envelope} {old new : World P C} {some : List (Effect P C)} {sent : List
      (ClientKey × Envelope)} → Changes meanings given old some sent new → list_any is_unnaming some ≡ false
      → IsNumbered old → SessionsAreNamed old → SessionsAreNamed new
  names_kept (nothing world) calm n h = h
  names_kept (one c) calm n h = named_change c calm n h
  names_kept (both {first = first} {second = second} t u) calm n h =
      names_kept u (any_second is_unnaming first second calm) (numbered_changes meanings t n)
      (names_kept t (any_first is_unnaming first second calm) n h)
