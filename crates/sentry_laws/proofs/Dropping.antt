-- A client is held until it is dropped.
use Rattle.std.proofs.Common.{◌≡◌, refl, ap, ◌∙◌, ℕ, List, [], ◌∷◌, Bool, true, false}
use Rattle.std.proofs.lemmas.Bool.{or_parts}
use Rattle.std.specs.Prelude.{Option, Some, None, is_some, if◌then◌else◌, ◌==◌, ◌||◌}
use Rattle.std.specs.List.{list_any}
use Rattle.sentry_plain.specs.Tables.{value_at}
use Rattle.sentry_base.specs.declared.protocol.envelope.Envelope.{Envelope}
use Rattle.sentry_base.specs.declared.protocol.keys.ClientKey.{ClientKey}
use Rattle.sentry_base.specs.declared.protocol.keys.Label.{Label}
use Rattle.sentry_options.specs.Meanings.{Meanings}
use Rattle.sentry_state.specs.Changes.{with_client_history}
use Rattle.sentry_state.specs.Clients.{clone_from}
use Rattle.sentry_state.specs.Worlds.{World, ClientHistory}
use Rattle.sentry_sending.specs.Sending.{after_sending, send}
use Rattle.sentry_calls.specs.declared.call.Call.{Call}
use Rattle.sentry_calls.specs.declared.call.Call.TheVariants as group
use Rattle.sentry_calls.specs.declared.call.clients.ClientCall.{ClientCall}
use Rattle.sentry_calls.specs.declared.call.clients.ClientCall.TheVariants.{AddClient, CloneClient, DropClient, TakeReport}
use Rattle.sentry_calls.specs.declared.call.hubs.HubCall.{HubCall}
use Rattle.sentry_calls.specs.declared.call.hubs.HubCall.TheVariants.{NewHub, NewHubFromTop}
use Rattle.sentry_calls.specs.declared.call.Reply.{Reply}
use Rattle.sentry_calls.specs.declared.call.Reply.TheVariants as reply
use Rattle.sentry_laws.proofs.Effects.{Effect, client_dropped, effects, client_effects, hub_effects}
use Rattle.sentry_laws.proofs.Changes.{Change, Changes, nothing, one, both, after_arrival, envelopes_on_arrival, adds_client, clones_client, drops_client, arrives, accepts}
use Rattle.sentry_laws.proofs.Found.{found_put, found_replaced, found_without}
use Rattle.sentry_laws.proofs.Numbered.{IsNumbered, numbered_changes}
use Rattle.sentry_laws.proofs.Tests.{any_first, any_second}
use Rattle.sentry_laws.proofs.Trails.{found_under, own_effects, own_any}

module _ {C : Type 0} where
  held_if : (b : Bool) (client : ClientHistory C) (o : Option (ClientHistory C)) → is_some o ≡ true
      → is_some (if b then Some client else o) ≡ true
  held_if true client o h = refl
  held_if false client o h = h

  held_unless : (b : Bool) (o : Option (ClientHistory C)) → b ≡ false → is_some o ≡ true
      → is_some (if b then None else o) ≡ true
  held_unless true o e h = absurd cc
  held_unless false o e h = h

module _ (n : ℕ) {P C : Type 0} where
  -- the client with this number is dropped
  abbrev pub is_dropped : Effect P C → Bool
  is_dropped (client_dropped number) = n == number
  is_dropped _ = false

  abbrev pub IsHeld : World P C → Type 0
  IsHeld world = is_some (value_at world.clients n) ≡ true

  held_sending : (label : Label) (sent : List (ClientKey × Envelope)) (world : World P C) → IsHeld world
      → IsHeld (after_sending label sent world)
  held_sending label [] world h = h
  held_sending label (first ∷ rest) world h = h

  module _ (meanings : C → Meanings) where
    held_change : {f : Option Envelope} {old new : World P C} {some : List (Effect P C)} {sent : List
        (ClientKey × Envelope)} → Change meanings f old some sent new → IsNumbered old
        → list_any is_dropped some ≡ false → IsHeld old → IsHeld new
    held_change (adds_client world client now queues open_ of_engine) m d h =
        ap is_some (found_put world.clients world.next.client n client)
        ∙ held_if (n == world.next.client) client (value_at world.clients n) h
    held_change (clones_client world original client now found) m d h =
        ap is_some (found_put world.clients world.next.client n (clone_from now client))
        ∙ held_if (n == world.next.client) (clone_from now client) (value_at world.clients n) h
    held_change (drops_client world key client label found same unnamed) m d h =
        ap is_some (found_without 0 world.next.client world.clients key.number n m.clients)
        ∙ held_unless (n == key.number) (value_at world.clients n) (or_parts (n == key.number) _ d).0 h
    held_change (arrives world key client arrival is_off found open_ came) m d h =
        held_sending client.label (send key client (envelopes_on_arrival arrival client)
        (with_client_history world key (after_arrival arrival client))).sent
        (with_client_history world key (after_arrival arrival client))
        (ap is_some (found_replaced world.clients key.number n (after_arrival arrival client) client
        (found_under world.tag world.clients key.tag key.number client found))
        ∙ held_if (n == key.number) (after_arrival arrival client) (value_at world.clients n) h)
    held_change (accepts world key client arrival kind is_off found open_ came) m d h =
        held_sending client.label (send key client (envelopes_on_arrival arrival client)
        (with_client_history world key (after_arrival arrival client))).sent
        (with_client_history world key (after_arrival arrival client))
        (ap is_some (found_replaced world.clients key.number n (after_arrival arrival client) client
        (found_under world.tag world.clients key.tag key.number client found))
        ∙ held_if (n == key.number) (after_arrival arrival client) (value_at world.clients n) h)
    held_change _ m d h = h

    -- a client that no change drops is held
    pub held_changes : {f : Option Envelope} {old new : World P C} {some : List (Effect P C)} {sent : List
        (ClientKey × Envelope)} → Changes meanings f old some sent new → IsNumbered old
        → list_any is_dropped some ≡ false → IsHeld old → IsHeld new
    held_changes (nothing world) m d h = h
    held_changes (one c) m d h = held_change c m d h
    held_changes (both {first = first} {second = second} t u) m d h =
        held_changes u (numbered_changes meanings t m) (any_second is_dropped first second d)
        (held_changes t m (any_first is_dropped first second d) h)

    -- what calls tell of drops is what is dropped
    pub own_dropped : (some : List (Effect P C)) → list_any is_dropped (own_effects some) ≡ list_any is_dropped some
    own_dropped = own_any is_dropped (λ number session. refl)

    -- the call drops the client
    abbrev pub Drops : Call P C → Type 0
    Drops (group.Client (DropClient key)) = (n == key.number) ≡ true
    Drops call = ⊥

    client_drops : (call : ClientCall P C) (made : Reply P C) → list_any is_dropped (client_effects meanings call made)
        ≡ true → Drops (group.Client call)
    client_drops (DropClient key) made h = no_more (n == key.number) h
      where
        no_more : (b : Bool) → (b || false) ≡ true → b ≡ true
        no_more true h = refl
        no_more false h = h
    client_drops (AddClient options transport label now) (reply.Client key) h = absurd cc
    client_drops (AddClient options transport label now) _ h = absurd cc
    client_drops (CloneClient client now) (reply.Client key) h = absurd cc
    client_drops (CloneClient client now) _ h = absurd cc
    client_drops (TakeReport label) (reply.Report report) h = absurd cc
    client_drops (TakeReport label) _ h = absurd cc
    client_drops call made h = absurd cc

    hub_drops : {A : Type 0} (call : HubCall P) (made : Reply P C) → list_any is_dropped (hub_effects meanings call made)
        ≡ true → A
    hub_drops (NewHub client scope) (reply.Hub key) h = absurd cc
    hub_drops (NewHub client scope) _ h = absurd cc
    hub_drops (NewHubFromTop hub) (reply.Hub key) h = absurd cc
    hub_drops (NewHubFromTop hub) _ h = absurd cc
    hub_drops call made h = absurd cc

    pub call_drops : (call : Call P C) (made : Reply P C) → list_any is_dropped (effects meanings call made) ≡ true
        → Drops call
    call_drops (group.Client call) made h = client_drops call made h
    call_drops (group.Hub call) made h = hub_drops call made h
    call_drops (group.Span call) made h = absurd cc
