-- Once the session of a layer was ended, each further end on that layer is silent, until a session starts on it.
use Rattle.std.proofs.Common.{◌≡◌, ◌<◌, refl, ap, ◌∙◌, sym, subst, ℕ, zero, suc, ◌+◌, List, [], ◌∷◌, ◌++◌, Bool, true, false, length, append_assoc, length-append, arith, ◌⊎◌, inl, inr}
use Rattle.std.proofs.lemmas.Bool.{or_parts, eq-eqb}
use Rattle.std.specs.Prelude.{Option, Some, None, Result, Ok, Err, if◌then◌else◌, ◌==◌, ◌||◌}
use Rattle.std.specs.List.{list_any}
use Rattle.std.specs.Option.{option_and_then}
use Rattle.sentry_plain.specs.Tables.{value_at, put}
use Rattle.sentry_plain.proofs.NumberLemmas.{same_number}
use Rattle.sentry_base.specs.Callbacks.{Partial}
use Rattle.sentry_base.specs.declared.protocol.breadcrumb.Breadcrumb.{Breadcrumb}
use Rattle.sentry_base.specs.declared.protocol.envelope.Envelope.{Envelope}
use Rattle.sentry_base.specs.declared.protocol.keys.ClientKey.{ClientKey}
use Rattle.sentry_base.specs.declared.protocol.keys.HubKey.{HubKey}
use Rattle.sentry_base.specs.declared.protocol.keys.Label.{Label}
use Rattle.sentry_base.specs.declared.protocol.keys.SessionKey.{SessionKey}
use Rattle.sentry_base.specs.declared.protocol.refusal.Refusal.{Refusal}
use Rattle.sentry_base.specs.declared.protocol.refusal.Refusal.TheVariants.{Stale}
use Rattle.sentry_base.specs.declared.protocol.session.SessionStatus.{SessionStatus}
use Rattle.sentry_options.specs.Meanings.{Meanings}
use Rattle.sentry_options.specs.declared.clientoptions.ClientOptions.{ClientOptions}
use Rattle.sentry_scope.specs.declared.scope.stack.Stack.{Stack}
use Rattle.sentry_scope.specs.declared.scope.stack.StackLayer.{StackLayer}
use Rattle.sentry_scope.specs.Stacks.{push, pop, stack_of_any}
use Rattle.sentry_hub_table.specs.Hubs.{with_session}
use Rattle.sentry_hub_table.specs.declared.hub.HubState.{HubState}
use Rattle.sentry_state.specs.declared.state.Out.{Out}
use Rattle.sentry_state.specs.Worlds.{World, SessionHistory, starting_world}
use Rattle.sentry_state.specs.Outcomes.{Outcome, hub_at, session_at, refuse, reply_with}
use Rattle.sentry_state.specs.Changes.{with_client_history}
use Rattle.sentry_sending.specs.Sending.{Sending, after_sending, send, reply_sending, end_session}
use Rattle.sentry_calls.specs.declared.call.Call.{Call}
use Rattle.sentry_calls.specs.declared.call.Call.TheVariants as group
use Rattle.sentry_calls.specs.declared.call.clients.ClientCall.{ClientCall}
use Rattle.sentry_calls.specs.declared.call.clients.ClientCall.TheVariants.{AddClient, CloneClient, TakeReport}
use Rattle.sentry_calls.specs.declared.call.hubs.HubCall.{HubCall}
use Rattle.sentry_calls.specs.declared.call.hubs.HubCall.TheVariants.{NewHub, NewHubFromTop, Configure, AddBreadcrumbs, BindClient, PushScope, PopScope, StartSession, EndSessionWithStatus}
use Rattle.sentry_calls.specs.declared.call.Reply.{Reply}
use Rattle.sentry_calls.specs.declared.call.Reply.TheVariants as reply
use Rattle.sentry_calls.specs.Sessions as session_calls
use Rattle.sentry_calls.specs.Runs.{StepsTo, Run}
use Rattle.sentry_calls.specs.Replies.{map_answer}
use Rattle.sentry_laws.specs.Sessions.{TopChange, covered, popped, started, ended, untouched, top_change, UntilStarted, EndsAreSilent, SecondEndIsSilent, SecondEndsAreSilent, EndsOnce}
use Rattle.sentry_laws.specs.OwnCalls.{LayerChange, scope_edited, breadcrumbs_came, client_bound, layer_pushed, layer_popped, hub_changed, change_layers, add_under}
use Rattle.sentry_laws.proofs.Effects.{Effect, seen, session_named, effects, client_effects, hub_effects}
use Rattle.sentry_laws.proofs.Changes.{IsGiven, Change, Changes, nothing, one, both, held_options, after_arrival, envelopes_on_arrival, makes_hub, makes_hub_from, changes_hub, leaves_hub, sets_session, notes_event_id, releases_hub, arrives, accepts}
use Rattle.sentry_laws.proofs.Tables.{AreBelow, below_put, below_replaced, below_without, others_put}
use Rattle.sentry_laws.proofs.Found.{found_replaced, found_without, all_without, found_below}
use Rattle.sentry_laws.proofs.Increasing.{gone_}
use Rattle.sentry_laws.proofs.Tests.{any_first, any_second}
use Rattle.sentry_laws.proofs.Naming.{is_naming, is_begun}
use Rattle.sentry_laws.proofs.Trails.{found_under, own_effects, own_any, neither}
use Rattle.sentry_laws.proofs.Keeping.{trail_of}
use Rattle.sentry_laws.proofs.SendingTrails.{ended_gone}
use Rattle.sentry_laws.proofs.PushPop.{restored, front, popped_below}
use Rattle.sentry_laws.proofs.PartsOfRuns.{from_each_call}
use Rattle.sentry_laws.proofs.Sessions.{Counts, Watched, watched_next, counts_run, first_counts, under_by, none_under, end_is, none_ended, end_after, end_answer}

front_length : {P : Type 0} (x : StackLayer P) (xs : List (StackLayer P)) → length (front x xs) ≡ length xs
front_length x [] = refl
front_length x (y ∷ ys) = ap suc (front_length y ys)

-- ---- how changes move a layer

abbrev place_after : TopChange → ℕ → Option ℕ
place_after covered above = Some (suc above)
place_after popped zero = None
place_after popped (suc above) = Some above
place_after _ above = Some above

abbrev is_start : TopChange → Bool
is_start started = true
is_start _ = false

abbrev is_end : TopChange → Bool
is_end ended = true
is_end _ = false

pushed_place : (b : Bool) (above : ℕ)
    → (if b then Some (suc above) else Some above) ≡ place_after (if b then covered else untouched) above
pushed_place true above = refl
pushed_place false above = refl

started_place : (b : Bool) (above : ℕ) → Some above ≡ place_after (if b then started else untouched) above
started_place true above = refl
started_place false above = refl

ended_place : (b : Bool) (above : ℕ) → Some above ≡ place_after (if b then ended else untouched) above
ended_place true above = refl
ended_place false above = refl

other_place : (b : Bool) (place : Option ℕ) → (if b then place else place) ≡ place
other_place true place = refl
other_place false place = refl

start_begins : (b : Bool) → (b || false) ≡ is_start (if b then started else untouched)
start_begins true = refl
start_begins false = refl

no_start : (b : Bool) (change : TopChange) → is_start change ≡ false
    → false ≡ is_start (if b then change else untouched)
no_start true change h = sym h
no_start false change h = refl

never : {A : Type 0} (b : Bool) (change : TopChange) → is_start change ≡ false
    → is_start (if b then change else untouched) ≡ true → A
never b change h k = neither (is_start (if b then change else untouched)) (sym (no_start b change h)) k

no_end : {A : Type 0} (b : Bool) (change : TopChange) → is_end change ≡ false
    → is_end (if b then change else untouched) ≡ true → A
no_end true change h k = neither (is_end change) h k
no_end false change h k = absurd cc

abbrev IsCovered : Option ℕ → Type 0
IsCovered (Some (suc above)) = Unit {0}
IsCovered _ = ⊥

module _ {P : Type 0} where
  abbrev moved_layer : LayerChange P → ℕ → Option ℕ
  moved_layer layer_pushed above = Some (suc above)
  moved_layer layer_popped zero = None
  moved_layer layer_popped (suc above) = Some above
  moved_layer _ above = Some above

  abbrev moved_by : LayerChange P → Option ℕ → Option ℕ
  moved_by change None = None
  moved_by change (Some above) = moved_layer change above

popped_place : (P : Type 0) (b : Bool) (above : ℕ) → (if b then moved_layer {P = P} layer_popped above else Some above)
    ≡ place_after (if b then popped else untouched) above
popped_place P true zero = refl
popped_place P true (suc above) = refl
popped_place P false above = refl

-- ---- a layer that names one of some sessions, or none

module _ (Q : Option SessionKey → Type 0) (none : Q None) where
  module _ {P : Type 0} where
    -- the layer on which so many others stand has such a name
    abbrev HasName : ℕ → Stack P → Type 0
    HasName zero stack = Q stack.top.session
    HasName (suc above) stack =
        (base : List (StackLayer P)) × (layer : StackLayer P) × (more : List (StackLayer P))
        × (stack.below ≡ base ++ layer ∷ more) × (length more ≡ above) × Q layer.session

    abbrev HasNameAt : Option ℕ → Stack P → Type 0
    HasNameAt None stack = Unit {0}
    HasNameAt (Some above) stack = HasName above stack

    pushed : (above : ℕ) (stack : Stack P) → HasName above stack → HasName (suc above) (push stack)
    pushed zero stack h = (stack.below, stack.top, [], refl, refl, h)
    pushed (suc above) stack h = (
      h.0,
      h.1,
      h.2 ++ stack.top ∷ [],
      ap (λ l. l ++ stack.top ∷ []) h.3 ∙ append_assoc h.0 (h.1 ∷ h.2) (stack.top ∷ []),
      omega (arith, h.4, length-append h.2 (stack.top ∷ [])),
      h.5,
    )

    pop_more : (stack : Stack P) (base : List (StackLayer P)) (layer : StackLayer P) (more : List (StackLayer P))
        → stack.below ≡ base ++ layer ∷ more → Q layer.session
        → HasName (length more) (stack_of_any stack.below stack)
    pop_more stack base layer [] e q =
        subst (λ (s : Stack P). Q s.top.session)
        (sym (ap (λ (l : List (StackLayer P)). stack_of_any l stack) e ∙ restored base layer stack)) q
    pop_more stack base layer (y ∷ ys) e q = (
      base,
      layer,
      front y ys,
      ap (λ (l : List (StackLayer P)). (stack_of_any l stack).below) (e ∙ sym (append_assoc base (layer ∷ []) (y ∷ ys)))
          ∙ (popped_below (base ++ layer ∷ []) y ys stack ∙ append_assoc base (layer ∷ []) (front y ys)),
      front_length y ys,
      q,
    )

    popped_one : (above : ℕ) (stack : Stack P) → HasName (suc above) stack → HasName above (pop stack)
    unfolding pop
    popped_one above stack h =
        subst (λ k. HasName k (stack_of_any stack.below stack)) h.4 (pop_more stack h.0 h.1 h.2 h.3 h.5)

  module _ {P C : Type 0} (meanings : C → Meanings) (n : ℕ) where
    same_top : (above : ℕ) (stack other : Stack P) → other.below ≡ stack.below
        → other.top.session ≡ stack.top.session → HasName above stack → HasName above other
    same_top zero stack other below top h = subst Q (sym top) h
    same_top (suc above) stack other below top h = (h.0, h.1, h.2, below ∙ h.3, h.4, h.5)

    add_named : (above : ℕ) (o : Option (ClientOptions C)) (breadcrumbs : List Breadcrumb) (b : Bool) (stack : Stack P)
        → HasName above stack → HasName above (if b then stack else add_under meanings o breadcrumbs stack)
    add_named above o breadcrumbs true stack h = h
    add_named above None breadcrumbs false stack h = h
    add_named above (Some options) breadcrumbs false stack h = same_top above stack _ refl refl h

    change_named : (options : ClientKey → Option (ClientOptions C)) (change : LayerChange P) (above : ℕ) (stack : Stack P)
        → HasName above stack → HasNameAt (moved_layer change above) (change_layers meanings options change stack)
    change_named options (scope_edited edits) above stack h = same_top above stack _ refl refl h
    change_named options (breadcrumbs_came breadcrumbs) above stack h =
        add_named above (option_and_then options stack.top.client) breadcrumbs (length breadcrumbs == 0) stack h
    change_named options (client_bound client) above stack h = same_top above stack _ refl refl h
    change_named options layer_pushed above stack h = pushed above stack h
    change_named options layer_popped zero stack h = tt
    change_named options layer_popped (suc above) stack h = popped_one above stack h

    place_named : (options : ClientKey → Option (ClientOptions C)) (change : LayerChange P) (place : Option ℕ)
        (stack : Stack P)
        → HasNameAt place stack → HasNameAt (moved_by change place) (change_layers meanings options change stack)
    place_named options change None stack h = tt
    place_named options change (Some above) stack h = change_named options change above stack h

    session_on : (number : ℕ) (session : Option SessionKey) (place : Option ℕ) (hub : HubState P) → (n == number) ≡ true
        → (is_naming {P = P} {C = C} n (session_named number session) ≡ false) ⊎ IsCovered place
        → HasNameAt place hub.stack → HasNameAt place (with_session hub session).stack
    session_on number session None hub own calm h = tt
    session_on number session (Some (suc above)) hub own calm h = h
    session_on number None (Some zero) hub own calm h = none
    session_on number (Some key) (Some zero) hub own (inl c) h = neither (n == number) c own
    session_on number (Some key) (Some zero) hub own (inr c) h = absurd c

    -- ---- the layer of a hub

    abbrev moved : Effect P C → Option ℕ → Option ℕ
    moved (seen (hub_changed number change)) place = if n == number then moved_by change place else place
    moved _ place = place

    abbrev moved_all : List (Effect P C) → Option ℕ → Option ℕ
    moved_all [] place = place
    moved_all (effect ∷ rest) place = moved_all rest (moved effect place)

    abbrev is_moving : Effect P C → Bool
    is_moving (seen (hub_changed number layer_pushed)) = n == number
    is_moving (seen (hub_changed number layer_popped)) = n == number
    is_moving _ = false

    record OnLayer (place : Option ℕ) (world : World P C) : Type 0 where
      hubs : AreBelow 0 world.next.hub world.hubs
      given : n < world.next.hub
      at : (hub : HubState P) → value_at world.hubs n ≡ Some hub → HasNameAt place hub.stack

    -- by these effects the layer is named by no session, or it stays covered
    abbrev Calm : List (Effect P C) → Option ℕ → Type 0
    Calm some place = (list_any (is_naming n) some ≡ false) ⊎ ((list_any is_moving some ≡ false) × IsCovered place)

    calm_one : (effect : Effect P C) (place : Option ℕ) → Calm (effect ∷ []) place
        → (is_naming n effect ≡ false) ⊎ IsCovered place
    calm_one effect place (inl c) = inl (or_parts (is_naming n effect) _ c).0
    calm_one effect place (inr c) = inr c.1

    layer_replaced : (b : Bool) (place other : Option ℕ) (world : World P C) (number : ℕ) (old new hub : HubState P)
        → value_at world.hubs number ≡ Some old → (n == number) ≡ b
        → ((n == number) ≡ true → HasNameAt place old.stack → HasNameAt other new.stack) → OnLayer place world
        → (if b then Some new else value_at world.hubs n) ≡ Some hub
        → HasNameAt (if b then other else place) hub.stack
    layer_replaced true place other world number old new hub found e goes o at =
        let same : new ≡ hub = cc in
        subst (λ (h : HubState P). HasNameAt other h.stack) same
        (goes e (o.at old (ap (value_at world.hubs) (same_number n number e) ∙ found)))
    layer_replaced false place other world number old new hub found e goes o at = o.at hub at

    layer_kept : (b : Bool) (place : Option ℕ) (world : World P C) (number : ℕ) (old new hub : HubState P)
        → value_at world.hubs number ≡ Some old → (n == number) ≡ b
        → ((n == number) ≡ true → HasNameAt place old.stack → HasNameAt place new.stack) → OnLayer place world
        → (if b then Some new else value_at world.hubs n) ≡ Some hub → HasNameAt place hub.stack
    layer_kept b place world number old new hub found e goes o at =
        subst (λ p. HasNameAt p hub.stack) (other_place b place)
        (layer_replaced b place place world number old new hub found e goes o at)

    layer_left : (b : Bool) (place other : Option ℕ) (world : World P C) (number : ℕ) (old hub : HubState P)
        → value_at world.hubs number ≡ Some old → (n == number) ≡ b
        → ((n == number) ≡ true → HasNameAt place old.stack → HasNameAt other old.stack) → OnLayer place world
        → value_at world.hubs n ≡ Some hub → HasNameAt (if b then other else place) hub.stack
    layer_left true place other world number old hub found e goes o at =
        let here : value_at world.hubs n ≡ Some old = ap (value_at world.hubs) (same_number n number e) ∙ found in
        let both_ : Some old ≡ Some hub = sym here ∙ at in
        let same : old ≡ hub = cc in
        subst (λ (h : HubState P). HasNameAt other h.stack) same (goes e (o.at old here))
    layer_left false place other world number old hub found e goes o at = o.at hub at

    made_layer : (place : Option ℕ) (world : World P C) (new : HubState P) → OnLayer place world
        → OnLayer place (record world {
          next = record world.next { hub = world.next.hub + 1 };
          hubs = put world.hubs world.next.hub new;
        })
    made_layer place world new o = record {
      hubs = below_put world.next.hub new world.hubs o.hubs;
      given = omega (arith, o.given);
      at = λ hub at. o.at hub
          (sym (others_put world.hubs world.next.hub n new (λ e. absurd (omega (arith, e, o.given)))) ∙ at);
    }

    sending_layer : (place : Option ℕ) (label : Label) (sent : List (ClientKey × Envelope)) (world : World P C)
        → OnLayer place world → OnLayer place (after_sending label sent world)
    sending_layer place label [] world o = o
    sending_layer place label (first ∷ rest) world o = record { hubs = o.hubs; given = o.given; at = o.at }

    layer_change : {f : Option Envelope} {old new : World P C} {some : List (Effect P C)} {sent : List
        (ClientKey × Envelope)} → Change meanings f old some sent new
        → (place : Option ℕ) → Calm some place → OnLayer place old → OnLayer (moved_all some place) new
    layer_change (makes_hub world client scope held active) place calm o = made_layer place world _ o
    layer_change (makes_hub_from world maker hub found) place calm o = made_layer place world _ o
    layer_change (changes_hub world number old new change found fits allowed) place calm o = record {
      hubs = below_replaced 0 world.next.hub number new world.hubs o.hubs;
      given = o.given;
      at = λ hub at. layer_replaced (n == number) place (moved_by change place) world number old new hub found refl
          (λ own h. subst (HasNameAt (moved_by change place)) (sym fits)
          (place_named (held_options world) change place old.stack h)) o
          (sym (found_replaced world.hubs number n new old found) ∙ at);
    }
    layer_change (leaves_hub world number hub change found fits) place calm o = record {
      hubs = o.hubs;
      given = o.given;
      at = λ held at. layer_left (n == number) place (moved_by change place) world number hub held found refl
          (λ own h. subst (HasNameAt (moved_by change place)) fits
          (place_named (held_options world) change place hub.stack h)) o at;
    }
    layer_change (sets_session world number hub session found given) place calm o = record {
      hubs = below_replaced 0 world.next.hub number (with_session hub session) world.hubs o.hubs;
      given = o.given;
      at = λ held at. layer_kept (n == number) place world number hub _ held found refl
          (λ own h. session_on number session place hub own (calm_one (session_named number session) place calm) h) o
          (sym (found_replaced world.hubs number n (with_session hub session) hub found) ∙ at);
    }
    layer_change (notes_event_id world number old new found same) place calm o = record {
      hubs = below_replaced 0 world.next.hub number new world.hubs o.hubs;
      given = o.given;
      at = λ hub at. layer_kept (n == number) place world number old new hub found refl
          (λ own h. subst (HasNameAt place) (sym same) h) o (sym (found_replaced world.hubs number n new old found) ∙ at);
    }
    layer_change (releases_hub world number hub found alone) place calm o = record {
      hubs = below_without 0 world.next.hub number world.hubs o.hubs;
      given = o.given;
      at = λ held at. all_without (λ (x : HubState P). HasNameAt place x.stack) (n == number) held (value_at world.hubs n)
          (λ z zat. o.at z zat) (sym (found_without 0 world.next.hub world.hubs number n o.hubs) ∙ at);
    }
    layer_change (arrives world key client arrival is_off found open_ came) place calm o =
        sending_layer place client.label (send key client (envelopes_on_arrival arrival client)
        (with_client_history world key (after_arrival arrival client))).sent
        (with_client_history world key (after_arrival arrival client))
        (record { hubs = o.hubs; given = o.given; at = o.at })
    layer_change (accepts world key client arrival kind is_off found open_ came) place calm o =
        sending_layer place client.label (send key client (envelopes_on_arrival arrival client)
        (with_client_history world key (after_arrival arrival client))).sent
        (with_client_history world key (after_arrival arrival client))
        (record { hubs = o.hubs; given = o.given; at = o.at })
    layer_change _ place calm o = record { hubs = o.hubs; given = o.given; at = o.at }

    -- ---- one change after another

    unmoved_one : (effect : Effect P C) (place : Option ℕ) → is_moving effect ≡ false → moved effect place ≡ place
    unmoved_one (seen (hub_changed number change)) place h = by_number (n == number) refl change place h
      where
        by_number : (b : Bool) → (n == number) ≡ b → (change : LayerChange P) (place : Option ℕ)
            → is_moving (seen (hub_changed number change)) ≡ false → (if b then moved_by change place else place) ≡ place
        by_number false e change place h = refl
        by_number true e change None h = refl
        by_number true e layer_pushed (Some above) h = neither (n == number) h e
        by_number true e layer_popped (Some above) h = neither (n == number) h e
        by_number true e _ (Some above) h = refl
    unmoved_one _ place h = refl

    unmoved : (some : List (Effect P C)) (place : Option ℕ) → list_any is_moving some ≡ false
        → moved_all some place ≡ place
    unmoved [] place h = refl
    unmoved (effect ∷ rest) place h =
        ap (moved_all rest) (unmoved_one effect place (or_parts (is_moving effect) _ h).0)
        ∙ unmoved rest place (or_parts (is_moving effect) _ h).1

    moved-append : (first second : List (Effect P C)) (place : Option ℕ)
        → moved_all (first ++ second) place ≡ moved_all second (moved_all first place)
    moved-append [] second place = refl
    moved-append (effect ∷ rest) second place = moved-append rest second (moved effect place)

    calm_first : (first second : List (Effect P C)) (place : Option ℕ) → Calm (first ++ second) place
        → Calm first place
    calm_first first second place (inl c) = inl (any_first (is_naming n) first second c)
    calm_first first second place (inr c) = inr (any_first is_moving first second c.0, c.1)

    calm_second : (first second : List (Effect P C)) (place : Option ℕ) → Calm (first ++ second) place
        → Calm second (moved_all first place)
    calm_second first second place (inl c) = inl (any_second (is_naming n) first second c)
    calm_second first second place (inr c) = inr (
      any_second is_moving first second c.0,
      subst IsCovered (sym (unmoved first place (any_first is_moving first second c.0))) c.1,
    )

    layer_changes : {f : Option Envelope} {old new : World P C} {some : List (Effect P C)} {sent : List
        (ClientKey × Envelope)} → Changes meanings f old some sent new
        → (place : Option ℕ) → Calm some place → OnLayer place old → OnLayer (moved_all some place) new
    layer_changes (nothing world) place calm o = o
    layer_changes (one c) place calm o = layer_change c place calm o
    layer_changes (both {new = new} {first = first} {second = second} t u) place calm o =
        subst (λ p. OnLayer p new) (sym (moved-append first second place))
        (layer_changes u (moved_all first place) (calm_second first second place calm)
        (layer_changes t place (calm_first first second place calm) o))

    -- ---- effects that calls tell of

    moved_own : (some : List (Effect P C)) (place : Option ℕ)
        → moved_all (own_effects some) place ≡ moved_all some place
    moved_own [] place = refl
    moved_own (session_named number session ∷ rest) place = moved_own rest place
    moved_own (effect ∷ rest) place = moved_own rest (moved effect place)

    -- ---- calls

    client_moves : (call : ClientCall P C) (made : Reply P C) (place : Option ℕ)
        → moved_all (client_effects meanings call made) place ≡ place
    client_moves (AddClient options transport label now) (reply.Client key) place = refl
    client_moves (AddClient options transport label now) _ place = refl
    client_moves (CloneClient client now) (reply.Client key) place = refl
    client_moves (CloneClient client now) _ place = refl
    client_moves (TakeReport label) (reply.Report report) place = refl
    client_moves (TakeReport label) _ place = refl
    client_moves call made place = refl

    hub_moves : (call : HubCall P) (made : Reply P C) (above : ℕ)
        → moved_all (hub_effects meanings call made) (Some above)
        ≡ place_after (top_change {P = P} {C = C} n (group.Hub call)) above
    hub_moves (NewHub client scope) (reply.Hub key) above = refl
    hub_moves (NewHub client scope) _ above = refl
    hub_moves (NewHubFromTop hub) (reply.Hub key) above = refl
    hub_moves (NewHubFromTop hub) _ above = refl
    hub_moves (PushScope hub) made above = pushed_place (n == hub.number) above
    hub_moves (PopScope hub given now) made above = popped_place P (n == hub.number) above
    hub_moves (StartSession hub fresh) made above = started_place (n == hub.number) above
    hub_moves (EndSessionWithStatus hub status now) made above = ended_place (n == hub.number) above
    hub_moves (Configure hub edits now) made above = other_place (n == hub.number) (Some above)
    hub_moves (AddBreadcrumbs hub breadcrumbs) made above = other_place (n == hub.number) (Some above)
    hub_moves (BindClient hub client) made above = other_place (n == hub.number) (Some above)
    hub_moves call made above = refl

    call_moves : (call : Call P C) (made : Reply P C) (above : ℕ)
        → moved_all (effects meanings call made) (Some above) ≡ place_after (top_change n call) above
    call_moves (group.Client call) made above = client_moves call made (Some above)
    call_moves (group.Hub call) made above = hub_moves call made above
    call_moves (group.Span call) made above = refl

    client_begins : (call : ClientCall P C) (made : Reply P C)
        → list_any (is_begun n) (client_effects meanings call made) ≡ false
    client_begins (AddClient options transport label now) (reply.Client key) = refl
    client_begins (AddClient options transport label now) _ = refl
    client_begins (CloneClient client now) (reply.Client key) = refl
    client_begins (CloneClient client now) _ = refl
    client_begins (TakeReport label) (reply.Report report) = refl
    client_begins (TakeReport label) _ = refl
    client_begins call made = refl

    hub_begins : (call : HubCall P) (made : Reply P C)
        → list_any (is_begun n) (hub_effects meanings call made)
        ≡ is_start (top_change {P = P} {C = C} n (group.Hub call))
    hub_begins (NewHub client scope) (reply.Hub key) = refl
    hub_begins (NewHub client scope) _ = refl
    hub_begins (NewHubFromTop hub) (reply.Hub key) = refl
    hub_begins (NewHubFromTop hub) _ = refl
    hub_begins (PushScope hub) made = no_start (n == hub.number) covered refl
    hub_begins (PopScope hub given now) made = no_start (n == hub.number) popped refl
    hub_begins (StartSession hub fresh) made = start_begins (n == hub.number)
    hub_begins (EndSessionWithStatus hub status now) made = no_start (n == hub.number) ended refl
    hub_begins call made = refl

    call_begins : (call : Call P C) (made : Reply P C)
        → list_any (is_begun n) (effects meanings call made) ≡ is_start (top_change n call)
    call_begins (group.Client call) made = client_begins call made
    call_begins (group.Hub call) made = hub_begins call made
    call_begins (group.Span call) made = refl

    hub_stays : (call : HubCall P) (made : Reply P C) → is_start (top_change {P = P} {C = C} n (group.Hub call)) ≡ true
        → list_any is_moving (hub_effects meanings call made) ≡ false
    hub_stays (StartSession hub fresh) made h = refl
    hub_stays (PushScope hub) made h = never (n == hub.number) covered refl h
    hub_stays (PopScope hub given now) made h = never (n == hub.number) popped refl h
    hub_stays (EndSessionWithStatus hub status now) made h = never (n == hub.number) ended refl h
    hub_stays call made h = absurd cc

    call_stays : (call : Call P C) (made : Reply P C) → is_start (top_change n call) ≡ true
        → list_any is_moving (effects meanings call made) ≡ false
    call_stays (group.Hub call) made h = hub_stays call made h
    call_stays (group.Client call) made h = absurd cc
    call_stays (group.Span call) made h = absurd cc

module _ {P C : Type 0} (gives : P → Partial) (meanings : C → Meanings) (Q : Option SessionKey → Type 0) (none : Q None)
    (n : ℕ) where
  after_call : (call : Call P C) (out : Out (Reply P C)) (world next : World P C) (above : ℕ)
      → StepsTo gives meanings world call (Ok out) next
      → (is_start (top_change n call) ≡ true → IsCovered (Some above))
      → OnLayer Q none meanings n (Some above) world
      → OnLayer Q none meanings n (place_after (top_change n call) above) next
  after_call call out world next above may deep o =
      let trail = trail_of gives meanings call out world next may in
      let begins : list_any (is_begun n) trail.effects ≡ is_start (top_change n call) =
      sym (own_any (is_begun n) (λ number session. refl) trail.effects)
      ∙ (ap (list_any (is_begun n)) trail.same ∙ call_begins Q none meanings n call out.reply) in
      let stays : is_start (top_change n call) ≡ true
      → list_any (is_moving Q none meanings n) trail.effects ≡ false =
      (λ h. sym (own_any (is_moving Q none meanings n) (λ number session. refl) trail.effects)
      ∙ (ap (list_any (is_moving Q none meanings n)) trail.same ∙ call_stays Q none meanings n call out.reply h)) in
      let moves : moved_all Q none meanings n trail.effects (Some above)
      ≡ place_after (top_change n call) above =
      sym (moved_own Q none meanings n trail.effects (Some above))
      ∙ (ap (λ some. moved_all Q none meanings n some (Some above)) trail.same
      ∙ call_moves Q none meanings n call out.reply above) in
      subst (λ p. OnLayer Q none meanings n p next) moves
      (layer_changes Q none meanings n trail.changes (Some above)
      (by_start trail.effects (is_start (top_change n call)) refl (list_any (is_naming n) trail.effects) refl
      (λ h. sym begins ∙ trail.naming n h) stays) o)
    where
      by_start : (some : List (Effect P C)) (b : Bool) → is_start (top_change n call) ≡ b
          → (c : Bool) → list_any (is_naming n) some ≡ c
          → (list_any (is_naming n) some ≡ true → is_start (top_change n call) ≡ true)
          → (is_start (top_change n call) ≡ true
          → list_any (is_moving Q none meanings n) some ≡ false)
          → Calm Q none meanings n some (Some above)
      by_start some b e false naming begun stays = inl naming
      by_start some true e true naming begun stays = inr (stays e, deep e)
      by_start some false e true naming begun stays = neither (is_start (top_change n call)) e (begun naming)

-- ---- an end on a layer without a session that is held

module _ {P C : Type 0} (gives : P → Partial) (meanings : C → Meanings) where
  stale_end : (key : HubKey) (status : SessionStatus) (now : ℕ) (world : World P C) → hub_at world key ≡ None
      → session_calls.end_session_with_status key status now world ≡ refuse Stale world
  unfolding session_calls.end_session_with_status
  stale_end key status now world found = rw found refl

  nameless_end : (key : HubKey) (status : SessionStatus) (now : ℕ) (world : World P C) (hub : HubState P)
      → hub_at world key ≡ Some hub → hub.stack.top.session ≡ None
      → session_calls.end_session_with_status key status now world ≡ reply_with tt [] world
  unfolding session_calls.end_session_with_status
  nameless_end key status now world hub found is = rw found (rw is refl)

  abbrev sent_in : Result (Out (Reply P C)) Refusal → List (ClientKey × Envelope)
  sent_in (Ok out) = out.sent
  sent_in (Err refusal) = []

  silent_as : (key : HubKey) (status : SessionStatus) (now : ℕ) (out : Out (Reply P C)) (world next : World P C)
      → StepsTo gives meanings world (group.Hub (EndSessionWithStatus key status now)) (Ok out) next
      → session_calls.end_session_with_status key status now world ≡ reply_with tt [] world
      → (out.sent ≡ []) × (next ≡ world)
  silent_as key status now out world next may outcome = (
    ap sent_in (sym may.0 ∙ (end_answer gives meanings key status now world
        ∙ ap (λ (o : Outcome P C (Unit {0})). map_answer (λ _. reply.Done) o.answer) outcome)),
    may.1 ∙ (end_after gives meanings key status now world ∙ ap (λ (o : Outcome P C (Unit {0})). o.after) outcome),
  )

  abbrev IsRefused : Result (Out (Reply P C)) Refusal → Type 0
  IsRefused (Ok out) = ⊥
  IsRefused (Err refusal) = Unit {0}

  -- an end that is accepted has a hub
  not_stale : {A : Type 0} (key : HubKey) (status : SessionStatus) (now : ℕ) (out : Out (Reply P C))
      (world next : World P C) → StepsTo gives meanings world (group.Hub (EndSessionWithStatus key status now)) (Ok out) next
      → hub_at world key ≡ None → A
  not_stale key status now out world next may found =
      absurd (subst IsRefused (sym (end_answer gives meanings key status now world
      ∙ ap (λ (o : Outcome P C (Unit {0})). map_answer (λ _. reply.Done) o.answer)
      (stale_end key status now world found)) ∙ may.0) tt)

  module _ (Q : Option SessionKey → Type 0) (none : Q None) (n : ℕ) (Dead : World P C → Type 0)
      (kept : (call : Call P C) (out : Out (Reply P C)) (world next : World P C)
      → StepsTo gives meanings world call (Ok out) next → Dead world → Dead next)
      (gone : (world : World P C) → Dead world → (key : SessionKey) → Q (Some key) → session_at world key ≡ None) where
    silent_at : (key : HubKey) (status : SessionStatus) (now : ℕ) (out : Out (Reply P C)) (world next : World P C)
        → (n == key.number) ≡ true → StepsTo gives meanings world (group.Hub (EndSessionWithStatus key status now)) (Ok out)
        next → OnLayer Q none {C = C} meanings n (Some zero) world → Dead world → (o : Option (HubState P))
        → hub_at world key ≡ o → (out.sent ≡ []) × (next ≡ world)
    silent_at key status now out world next own may o dead None found =
        not_stale key status now out world next may found
    silent_at key status now out world next own may o dead (Some hub) found =
        by_name hub.stack.top.session refl (o.at hub here)
      where
        here : value_at world.hubs n ≡ Some hub
        here = ap (value_at world.hubs) (same_number n key.number own)
            ∙ found_under world.tag world.hubs key.tag key.number hub found

        by_name : (name : Option SessionKey) → hub.stack.top.session ≡ name → Q hub.stack.top.session
            → (out.sent ≡ []) × (next ≡ world)
        by_name None is q = silent_as key status now out world next may (nameless_end key status now world hub found is)
        by_name (Some session) is q =
            silent_as key status now out world next may (end_is gives meanings key status now world hub session found is
            ∙ ap (λ (s : Sending P C). reply_sending tt s)
            (none_ended gives meanings session status now world (gone world dead session (subst Q is q))))

    silent_hub : (call : HubCall P) (out : Out (Reply P C)) (world next : World P C)
        → is_end (top_change {P = P} {C = C} n (group.Hub call)) ≡ true
        → StepsTo gives meanings world (group.Hub call) (Ok out) next → OnLayer Q none {C = C} meanings n (Some zero) world
        → Dead world → (out.sent ≡ []) × (next ≡ world)
    silent_hub (EndSessionWithStatus hub status now) out world next is may o dead =
        by_hub (n == hub.number) refl is
      where
        by_hub : (b : Bool) → (n == hub.number) ≡ b
            → is_end (if b then ended else untouched) ≡ true
            → (out.sent ≡ []) × (next ≡ world)
        by_hub true own is = silent_at hub status now out world next own may o dead (hub_at world hub) refl
        by_hub false own is = absurd cc
    silent_hub (PushScope hub) out world next is may o dead = no_end (n == hub.number) covered refl is
    silent_hub (PopScope hub given now) out world next is may o dead = no_end (n == hub.number) popped refl is
    silent_hub (StartSession hub fresh) out world next is may o dead = no_end (n == hub.number) started refl is
    silent_hub call out world next is may o dead = absurd cc

    silent_call : (call : Call P C) (out : Out (Reply P C)) (world next : World P C)
        → is_end (top_change n call) ≡ true
        → StepsTo gives meanings world call (Ok out) next → OnLayer Q none {C = C} meanings n (Some zero) world
        → Dead world → (out.sent ≡ []) × (next ≡ world)
    silent_call (group.Hub call) out world next is may o dead = silent_hub call out world next is may o dead
    silent_call (group.Client call) out world next is may o dead = absurd cc
    silent_call (group.Span call) out world next is may o dead = absurd cc

    by_change : (call : Call P C) (out : Out (Reply P C)) (world next : World P C) (above : ℕ) (change : TopChange)
        → top_change n call ≡ change → StepsTo gives meanings world call (Ok out) next
        → OnLayer Q none {C = C} meanings n (Some above) world → Dead world → (Rest : ℕ → Type 0)
        → ((more : ℕ) → OnLayer Q none {C = C} meanings n (Some more) next → Rest more)
        → UntilStarted change above ((out.sent ≡ []) × (next ≡ world)) Rest
    by_change call out world next above change is may o dead Rest go =
        by change above is o
      where
        moved_to : (change : TopChange) (above : ℕ) → top_change n call ≡ change
            → (is_start change ≡ true → IsCovered (Some above))
            → OnLayer Q none {C = C} meanings n (Some above) world
            → OnLayer Q none {C = C} meanings n (place_after change above) next
        moved_to change above is deep o =
            subst (λ c. OnLayer Q none {C = C} meanings n (place_after c above) next) is
            (after_call gives meanings Q none n call out world next above may
            (λ h. deep (sym (ap (is_start) is) ∙ h)) o)

        by : (change : TopChange) (above : ℕ) → top_change n call ≡ change
            → OnLayer Q none {C = C} meanings n (Some above) world
            → UntilStarted change above ((out.sent ≡ []) × (next ≡ world)) Rest
        by covered above is o = go (suc above) (moved_to covered above is (λ h. absurd cc) o)
        by popped zero is o = tt
        by popped (suc above) is o = go above (moved_to popped (suc above) is (λ h. absurd cc) o)
        by started zero is o = tt
        by started (suc above) is o = go (suc above) (moved_to started (suc above) is (λ h. tt) o)
        by ended zero is o = (
          silent_call call out world next (ap (is_end) is) may o dead,
          go zero (moved_to ended zero is (λ h. absurd cc) o),
        )
        by ended (suc above) is o = go (suc above) (moved_to ended (suc above) is (λ h. absurd cc) o)
        by untouched above is o = go above (moved_to untouched above is (λ h. absurd cc) o)

    ends_silent : (calls : List (Call P C)) (answers : List (Result (Out (Reply P C)) Refusal))
        (world last : World P C) (run : Run gives meanings world calls answers last) (above : ℕ)
        → OnLayer Q none {C = C} meanings n (Some above) world → Dead world
        → EndsAreSilent gives meanings n above world calls answers last run
    ends_silent [] answers world last run above o dead = tt
    ends_silent (call ∷ calls) [] world last run above o dead = tt
    ends_silent (call ∷ calls) (Err refusal ∷ answers) world last run above o dead =
        ends_silent calls answers run.0 last run.2 above
        (subst (OnLayer Q none {C = C} meanings n (Some above)) (sym run.1.1) o) (subst Dead (sym run.1.1) dead)
    ends_silent (call ∷ calls) (Ok out ∷ answers) world last run above o dead =
        by_change call out world run.0 above (top_change n call) refl run.1 o dead
        (λ more. EndsAreSilent gives meanings n more run.0 calls answers last run.2)
        (λ more m. ends_silent calls answers run.0 last run.2 more m (kept call out world run.0 run.1 dead))

-- ---- the law

module _ {P C : Type 0} (gives : P → Partial) (meanings : C → Meanings) where
  counts_next : (call : Call P C) (answer : Result (Out (Reply P C)) Refusal) (world next : World P C)
      → StepsTo gives meanings world call answer next → Counts world → Counts next
  counts_next call (Ok out) world next may c =
      (watched_next 0 0 (λ o. Unit {0}) (inr (λ o. tt)) tt (λ old new later same h. tt) gives meanings call out world
      next may (record { counts = c; given = omega arith; holds = tt })).counts
  counts_next call (Err refusal) world next may c = subst Counts (sym may.1) c

  same_hub : (o : Option (HubState P)) (x y : HubState P) → o ≡ Some x → o ≡ Some y → x ≡ y
  same_hub o x y p q = cc

  -- the first end leaves the layer with a name of these, if it had one
  first_end : (Q : Option SessionKey → Type 0) (none : Q None) (hub : HubKey) (status : SessionStatus) (now : ℕ)
      (out : Out (Reply P C)) (world next : World P C) (held : HubState P)
      → StepsTo gives meanings world (group.Hub (EndSessionWithStatus hub status now)) (Ok out) next → Counts world
      → hub_at world hub ≡ Some held → Q held.stack.top.session
      → OnLayer Q none {C = C} meanings hub.number (Some zero) next
  first_end Q none hub status now out world next held may c found q =
      let here : value_at world.hubs hub.number ≡ Some held =
      found_under world.tag world.hubs hub.tag hub.number held found in
      subst (λ p. OnLayer Q none {C = C} meanings hub.number p next)
      (sym (ended_place (hub.number == hub.number) zero))
      (after_call gives meanings Q none hub.number (group.Hub (EndSessionWithStatus hub status now)) out world next zero
      may (λ h. never (hub.number == hub.number) ended refl h)
      (record {
        hubs = c.hubs;
        given = found_below 0 world.next.hub hub.number world.hubs held c.hubs here;
        at = λ other at. subst (λ (h : HubState P). Q h.stack.top.session)
            (same_hub (value_at world.hubs hub.number) held other here at) q;
      }))

  -- the first end, where the layer names no session
  end_none : (hub : HubKey) (status : SessionStatus) (now : ℕ) (out : Out (Reply P C)) (calls : List (Call P C))
      (answers : List (Result (Out (Reply P C)) Refusal)) (world next last : World P C) (held : HubState P)
      → StepsTo gives meanings world (group.Hub (EndSessionWithStatus hub status now)) (Ok out) next
      → (run : Run gives meanings next calls answers last) → Counts world → hub_at world hub ≡ Some held
      → held.stack.top.session ≡ None → EndsAreSilent gives meanings hub.number zero next calls answers last run
  end_none hub status now out calls answers world next last held may run c found is =
      let Q : Option SessionKey → Type 0 = (λ name. name ≡ None) in
      ends_silent gives meanings Q refl hub.number (λ w. Unit {0}) (λ call out world next may d. tt)
      (λ w d key q. absurd (no_key key q)) calls answers next last run zero
      (first_end Q refl hub status now out world next held may c found is) tt
    where
      no_key : (key : SessionKey) → Some key ≡ None → ⊥
      no_key key q = absurd cc

  -- the first end, where the layer names a session
  end_some : (hub : HubKey) (status : SessionStatus) (now : ℕ) (out : Out (Reply P C)) (calls : List (Call P C))
      (answers : List (Result (Out (Reply P C)) Refusal)) (world next last : World P C) (held : HubState P)
      (session : SessionKey)
      → StepsTo gives meanings world (group.Hub (EndSessionWithStatus hub status now)) (Ok out) next
      → (run : Run gives meanings next calls answers last) → Counts world → hub_at world hub ≡ Some held
      → held.stack.top.session ≡ Some session → EndsAreSilent gives meanings hub.number zero next calls answers last run
  end_some hub status now out calls answers world next last held session may run c found is =
      let Q : Option SessionKey → Type 0 = (λ name. (name ≡ None) ⊎ (name ≡ Some session)) in
      let n = session.number in
      let here : value_at world.hubs hub.number ≡ Some held =
      found_under world.tag world.hubs hub.tag hub.number held found in
      let g : IsGiven world.tag world.next.session (Some session) =
      subst (IsGiven world.tag world.next.session) is (c.given hub.number held here).0 in
      let ended_is : next ≡ (end_session session (Some status) now world).after =
      may.1 ∙ (end_after gives meanings hub status now world ∙ ap (λ (o : Outcome P C (Unit {0})). o.after)
      (end_is gives meanings hub status now world held session found is)) in
      let gone_now : value_at next.sessions n ≡ None =
      ap (λ (w : World P C). value_at w.sessions n) ended_is
      ∙ ended_gone session (Some status) now world (gone_ 0 n world.sessions c.sessions)
      (λ h. under_by (session.tag == world.tag) (value_at world.sessions n) (eq-eqb session.tag world.tag g.0) h) in
      let w = watched_next n (n + 1) (λ o. Unit {0}) (inr (λ o. tt)) tt (λ old new later same h. tt) gives meanings
      (group.Hub (EndSessionWithStatus hub status now)) out world next may
      (record { counts = c; given = omega (arith, g.1); holds = tt }) in
      ends_silent gives meanings Q (inl refl) hub.number
      (Watched n (n + 1) (λ (o : Option SessionHistory). o ≡ None) (inl (omega arith)) refl
      (λ old new later same h. absurd cc))
      (watched_next n (n + 1) (λ (o : Option SessionHistory). o ≡ None) (inl (omega arith)) refl
      (λ old new later same h. absurd cc) gives meanings)
      (λ world dead key q. none_named world key q dead.holds) calls answers next last run zero
      (first_end Q (inl refl) hub status now out world next held may c found (inr is))
      (record { counts = w.counts; given = w.given; holds = gone_now })
    where
      none_named : (world : World P C) (key : SessionKey) → (Some key ≡ None) ⊎ (Some key ≡ Some session)
          → value_at world.sessions session.number ≡ None → session_at world key ≡ None
      none_named world key (inl q) h = absurd cc
      none_named world key (inr q) h =
          let same : session ≡ key = cc in
          subst (λ k. session_at world k ≡ None) same
          (none_under (session.tag == world.tag) (value_at world.sessions session.number) h)

  second_end : (world : World P C) (calls : List (Call P C)) (answers : List (Result (Out (Reply P C)) Refusal))
      (last : World P C) (run : Run gives meanings world calls answers last) → Counts world
      → SecondEndIsSilent gives meanings world calls answers last run
  second_end world [] answers last run c = tt
  second_end world (call ∷ calls) [] last run c = tt
  second_end world (call ∷ calls) (Err refusal ∷ answers) last run c = tt
  second_end world (call ∷ calls) (Ok out ∷ answers) last run c = λ hub status now is.
      by_hub hub status now (subst (λ call. StepsTo gives meanings world call (Ok out) run.0) is run.1) (hub_at world hub)
      refl
    where
      by_hub : (hub : HubKey) (status : SessionStatus) (now : ℕ)
          → StepsTo gives meanings world (group.Hub (EndSessionWithStatus hub status now)) (Ok out) run.0
          → (o : Option (HubState P)) → hub_at world hub ≡ o
          → EndsAreSilent gives meanings hub.number zero run.0 calls answers last run.2
      by_hub hub status now may None found = not_stale gives meanings hub status now out world run.0 may found
      by_hub hub status now may (Some held) found = by_name held.stack.top.session refl
        where
          by_name : (name : Option SessionKey) → held.stack.top.session ≡ name
              → EndsAreSilent gives meanings hub.number zero run.0 calls answers last run.2
          by_name None is = end_none hub status now out calls answers world run.0 last held may run.2 c found is
          by_name (Some session) is =
              end_some hub status now out calls answers world run.0 last held session may run.2 c found is

  second_ends_silent : (calls : List (Call P C)) (answers : List (Result (Out (Reply P C)) Refusal))
      (world last : World P C) (run : Run gives meanings world calls answers last) → Counts world
      → SecondEndsAreSilent gives meanings world calls answers last run
  second_ends_silent = from_each_call gives meanings (SecondEndIsSilent gives meanings) Counts counts_next second_end

  pub ends_once : EndsOnce gives meanings
  ends_once tag start earlier calls before answers first last reached run =
      second_ends_silent calls answers first last run (counts_run gives meanings tag start earlier before first reached)

  -- the ends of a run from the start
  pub all_ends_silent : (tag start : ℕ) (calls : List (Call P C)) (answers : List (Result (Out (Reply P C)) Refusal))
      (last : World P C) (run : Run gives meanings (starting_world tag start) calls answers last)
      → SecondEndsAreSilent gives meanings (starting_world tag start) calls answers last run
  all_ends_silent tag start calls answers last run =
      second_ends_silent calls answers (starting_world tag start) last run (first_counts gives meanings tag start)
