-- A pop undoes the push whose layer it pops.
use Rattle.std.proofs.Common.{◌≡◌, ◌<◌, refl, ap, ◌∙◌, sym, subst, ℕ, ◌+◌, List, [], ◌∷◌, ◌++◌, Bool, true, false, cond, length, append_assoc, length-append, arith}
use Rattle.std.proofs.lemmas.Bool.{and_parts, or_parts, eq-eqb}
use Rattle.std.proofs.lemmas.List.{append-nil}
use Rattle.std.specs.Prelude.{Option, Some, None, Result, Ok, Err, if◌then◌else◌, ◌==◌, ◌&&◌, ◌||◌, nat_lt}
use Rattle.std.specs.List.{list_any}
use Rattle.std.specs.Option.{option_map, option_and_then}
use Rattle.sentry_plain.specs.Tables.{value_at, put, replace_at, without}
use Rattle.sentry_plain.proofs.NumberLemmas.{same_number, equal_to_itself}
use Rattle.sentry_base.specs.Callbacks.{Partial}
use Rattle.sentry_base.specs.declared.protocol.breadcrumb.Breadcrumb.{Breadcrumb}
use Rattle.sentry_base.specs.declared.protocol.envelope.Envelope.{Envelope}
use Rattle.sentry_base.specs.declared.protocol.keys.ClientKey.{ClientKey}
use Rattle.sentry_base.specs.declared.protocol.keys.HubKey.{HubKey}
use Rattle.sentry_base.specs.declared.protocol.keys.Label.{Label}
use Rattle.sentry_base.specs.declared.protocol.refusal.Refusal.{Refusal}
use Rattle.sentry_base.specs.declared.protocol.refusal.Refusal.TheVariants.{Stale, OutOfOrder}
use Rattle.sentry_options.specs.Meanings.{Meanings}
use Rattle.sentry_options.specs.declared.clientoptions.ClientOptions.{ClientOptions}
use Rattle.sentry_scope.specs.declared.scope.stack.Stack.{Stack}
use Rattle.sentry_scope.specs.declared.scope.stack.StackLayer.{StackLayer}
use Rattle.sentry_scope.specs.Stacks.{layers, push, pop, depth, stack_of, stack_of_any}
use Rattle.sentry_hub_table.specs.declared.hub.HubState.{HubState}
use Rattle.sentry_state.specs.declared.state.Out.{Out}
use Rattle.sentry_state.specs.Worlds.{World, starting_world}
use Rattle.sentry_state.specs.Outcomes.{hub_at, with_hub, require_some, require, reply_with}
use Rattle.sentry_hub_table.specs.Hubs.{with_stack, with_session}
use Rattle.sentry_state.specs.Changes.{with_client_history}
use Rattle.sentry_sending.specs.Sending.{after_sending, send, release_session}
use Rattle.sentry_calls.specs.declared.call.Call.{Call}
use Rattle.sentry_calls.specs.declared.call.Call.TheVariants as group
use Rattle.sentry_calls.specs.declared.call.clients.ClientCall.{ClientCall}
use Rattle.sentry_calls.specs.declared.call.clients.ClientCall.TheVariants.{AddClient, CloneClient, TakeReport}
use Rattle.sentry_calls.specs.declared.call.hubs.HubCall.{HubCall}
use Rattle.sentry_calls.specs.declared.call.hubs.HubCall.TheVariants.{NewHub, NewHubFromTop, PushScope, PopScope}
use Rattle.sentry_calls.specs.declared.call.Reply.{Reply}
use Rattle.sentry_calls.specs.declared.call.Reply.TheVariants as reply
use Rattle.sentry_calls.specs.Layers as layer_calls
use Rattle.sentry_calls.specs.Runs.{StepsTo, Run}
use Rattle.sentry_calls.specs.Steps.{hub_step}
use Rattle.sentry_calls.specs.Replies.{map_answer}
use Rattle.sentry_laws.specs.OwnCalls.{LayerChange, scope_edited, breadcrumbs_came, client_bound, layer_pushed, layer_popped, hub_changed, change_layers, add_under}
use Rattle.sentry_laws.proofs.Effects.{Effect, seen, effects, client_effects, hub_effects}
use Rattle.sentry_laws.proofs.Changes.{Change, Changes, nothing, one, both, held_options, after_arrival, envelopes_on_arrival, makes_hub, makes_hub_from, changes_hub, notes_event_id, releases_hub, arrives, accepts, sets_session}
use Rattle.sentry_laws.specs.PartsOfRuns.{IfElse}
use Rattle.sentry_laws.specs.PushPop.{pops, PopLeaves, UndoesPush, PushesAreUndone, stack_at, PopUndoesPush}
use Rattle.sentry_laws.proofs.Tables.{own_replaced, others_put}
use Rattle.sentry_laws.proofs.Found.{found_replaced, found_without, found_below}
use Rattle.sentry_laws.proofs.Tests.{any_first, any_second}
use Rattle.sentry_laws.proofs.SendingTrails.{found_released}
use Rattle.sentry_laws.proofs.Trails.{found_under, own_any, neither}
use Rattle.sentry_laws.proofs.Keeping.{trail_of, kept_by_call, kept_by_run}
use Rattle.sentry_laws.proofs.Numbered.{IsNumbered, numbered_change, numbered_changes, none_numbered}
use Rattle.sentry_laws.proofs.PartsOfRuns.{from_each_call}

same_depth : (deep given : ℕ) → (deep == given && nat_lt 0 given) ≡ true → deep ≡ given
same_depth deep given top = same_number deep given (and_parts (deep == given) (nat_lt 0 given) top).0

same_value : {X : Type 0} (o : Option X) (x y : X) → o ≡ Some x → o ≡ Some y → x ≡ y
same_value o x y p q = cc

module _ {P : Type 0} where
  -- the stack of all layers of a stack
  pub restored : (below : List (StackLayer P)) (top : StackLayer P) (otherwise : Stack P)
      → stack_of_any (below ++ top ∷ []) otherwise ≡ record { top = top; below = below }
  restored [] top otherwise = refl
  restored (lowest ∷ above) top otherwise = restored-above lowest above top
    where
      restored-above : (lowest : StackLayer P) (above : List (StackLayer P)) (top : StackLayer P)
          → stack_of lowest (above ++ top ∷ []) ≡ record { top = top; below = lowest ∷ above }
      restored-above lowest [] top = refl
      restored-above lowest (layer ∷ above) top = ap (λ (s : Stack P). record { top = s.top; below = lowest ∷ s.below })
          (restored-above layer above top)

  -- the layers but the last
  abbrev pub front : StackLayer P → List (StackLayer P) → List (StackLayer P)
  front x [] = []
  front x (y ∷ ys) = x ∷ front y ys

  front_of : (lowest : StackLayer P) (above : List (StackLayer P)) → (stack_of lowest above).below ≡ front lowest above
  front_of lowest [] = refl
  front_of lowest (layer ∷ above) = ap (λ l. lowest ∷ l) (front_of layer above)

  front-append : (x : StackLayer P) (xs : List (StackLayer P)) (y : StackLayer P) (ys : List (StackLayer P))
      → front x (xs ++ y ∷ ys) ≡ (x ∷ xs) ++ front y ys
  front-append x [] y ys = refl
  front-append x (z ∷ xs) y ys = ap (λ l. x ∷ l) (front-append z xs y ys)

  pub popped_below : (base : List (StackLayer P)) (y : StackLayer P) (ys : List (StackLayer P)) (otherwise : Stack P)
      → (stack_of_any (base ++ y ∷ ys) otherwise).below ≡ base ++ front y ys
  popped_below [] y ys otherwise = front_of y ys
  popped_below (x ∷ xs) y ys otherwise = front_of x (xs ++ y ∷ ys) ∙ front-append x xs y ys

  no_more : (base more : List (StackLayer P)) → length (base ++ more) ≡ length base → more ≡ []
  no_more base [] h = refl
  no_more base (x ∷ more) h = absurd (omega (arith, h, length-append base (x ∷ more)))

module _ {P C : Type 0} where
  -- the call pops a layer of a hub
  abbrev pops_hub : ℕ → Call P C → Bool
  pops_hub n (group.Hub (PopScope hub given now)) = n == hub.number
  pops_hub n call = false

module _ {P C : Type 0} (meanings : C → Meanings) (n : ℕ) (base : List (StackLayer P)) where
  -- the layers stand on these ones
  abbrev StandsOn : Stack P → Type 0
  StandsOn stack = (more : List (StackLayer P)) × (stack.below ≡ base ++ more)

  record OnBase (world : World P C) : Type 0 where
    hub : HubState P
    found : value_at world.hubs n ≡ Some hub
    on : StandsOn hub.stack

  abbrev is_popped : Effect P C → Bool
  is_popped (seen (hub_changed number layer_popped)) = n == number
  is_popped _ = false

  add_on : (o : Option (ClientOptions C)) (breadcrumbs : List Breadcrumb) (b : Bool) (stack : Stack P) → StandsOn stack
      → StandsOn (if b then stack else add_under meanings o breadcrumbs stack)
  add_on o breadcrumbs true stack s = s
  add_on None breadcrumbs false stack s = s
  add_on (Some options) breadcrumbs false stack s = s

  pop_on : (stack : Stack P) (given : ℕ) → depth stack ≡ given → (given == length base) ≡ false → StandsOn stack
      → StandsOn (pop stack)
  unfolding pop
  pop_on stack given deep apart s = pop_more s.0 s.1
    where
      pop_more : (more : List (StackLayer P)) → stack.below ≡ base ++ more → StandsOn (stack_of_any stack.below stack)
      pop_more [] e =
          let same : length stack.below ≡ length base = ap length (e ∙ append-nil base) in
          let t : (given == length base) ≡ true = eq-eqb given (length base) (sym deep ∙ same) in
          let f : true ≡ false = sym t ∙ apart in absurd (false_is f)
        where
          false_is : true ≡ false → ⊥
          false_is e = subst (λ (b : Bool). cond b (Unit {0}) ⊥) e tt
      pop_more (y ∷ ys) e =
          (front y ys, ap (λ (l : List (StackLayer P)). (stack_of_any l stack).below) e ∙ popped_below base y ys stack)

  change_on : (options : ClientKey → Option (ClientOptions C)) (change : LayerChange P) (stack : Stack P)
      → is_popped (seen (hub_changed n change)) ≡ false → StandsOn stack
      → StandsOn (change_layers meanings options change stack)
  change_on options (scope_edited edits) stack not_popped s = s
  change_on options (breadcrumbs_came breadcrumbs) stack not_popped s =
      add_on (option_and_then options stack.top.client) breadcrumbs (length breadcrumbs == 0) stack s
  change_on options (client_bound client) stack not_popped s = s
  change_on options layer_pushed stack not_popped s =
      (s.0 ++ stack.top ∷ [], ap (λ l. l ++ stack.top ∷ []) s.1 ∙ append_assoc base s.0 (stack.top ∷ []))
  change_on options layer_popped stack not_popped s = neither (n == n) not_popped (equal_to_itself n)

  replaced-on : (b : Bool) (world : World P C) (number : ℕ) (old new : HubState P) → value_at world.hubs number ≡ Some old
      → (n == number) ≡ b → (n ≡ number → StandsOn old.stack → StandsOn new.stack) → OnBase world
      → OnBase (record world { hubs = replace_at world.hubs number new })
  replaced-on true world number old new found e goes o =
      let same : n ≡ number = same_number n number e in
      let is : old ≡ o.hub = same_value (value_at world.hubs number) old o.hub found
      (sym (ap (value_at world.hubs) same) ∙ o.found) in
      record {
        hub = new;
        found = ap (value_at (replace_at world.hubs number new)) same ∙ own_replaced world.hubs number new old found;
        on = goes same (subst (λ (h : HubState P). StandsOn h.stack) (sym is) o.on);
      }
  replaced-on false world number old new found e goes o = record {
    hub = o.hub;
    found = found_replaced world.hubs number n new old found
        ∙ (ap (λ (b : Bool). if b then Some new else value_at world.hubs n) e ∙ o.found);
    on = o.on;
  }

  released-on : (b : Bool) (world : World P C) (number : ℕ) (hub : HubState P) → 0 < length base → IsNumbered world
      → value_at world.hubs number ≡ Some hub → depth hub.stack ≡ 0 → (n == number) ≡ b → OnBase world
      → OnBase (record world { hubs = without world.hubs number })
  released-on true world number hub some k found alone e o =
      let same : n ≡ number = same_number n number e in
      let is : hub ≡ o.hub = same_value (value_at world.hubs number) hub o.hub found
      (sym (ap (value_at world.hubs) same) ∙ o.found) in
      let long : length o.hub.stack.below ≡ length (base ++ o.on.0) = ap length o.on.1 in
      let none : length o.hub.stack.below ≡ 0 = sym (ap (λ (h : HubState P). length h.stack.below) is) ∙ alone in
      absurd (omega (arith, long, none, some, length-append base o.on.0))
  released-on false world number hub some k found alone e o = record {
    hub = o.hub;
    found = found_without 0 world.next.hub world.hubs number n k.hubs
        ∙ (ap (λ (b : Bool). if b then None else value_at world.hubs n) e ∙ o.found);
    on = o.on;
  }

  made_on : (world : World P C) (new : HubState P) → IsNumbered world → OnBase world
      → OnBase (record world {
        next = record world.next { hub = world.next.hub + 1 };
        hubs =
            put world.hubs world.next.hub new;
      })
  made_on world new k o =
      let below : n < world.next.hub = found_below 0 world.next.hub n world.hubs o.hub k.hubs o.found in
      record {
        hub = o.hub;
        found = others_put world.hubs world.next.hub n new (λ e. absurd (omega (arith, e, below))) ∙ o.found;
        on = o.on;
      }

  sending_on : (label : Label) (sent : List (ClientKey × Envelope)) (world : World P C) → OnBase world
      → OnBase (after_sending label sent world)
  sending_on label [] world o = o
  sending_on label (first ∷ rest) world o = record { hub = o.hub; found = o.found; on = o.on }

  left_pop : (number : ℕ) (change : LayerChange P) → n ≡ number
      → list_any is_popped (seen (hub_changed number change) ∷ []) ≡ false
      → is_popped (seen (hub_changed n change)) ≡ false
  left_pop number change same h = ap (λ k. is_popped (seen (hub_changed k change))) same ∙ (or_parts _ _ h).0

  on_change : {f : Option Envelope} {old new : World P C} {some : List (Effect P C)} {sent : List
      (ClientKey × Envelope)} → Change meanings f old some sent new
      → 0 < length base → list_any is_popped some ≡ false → IsNumbered old → OnBase old → OnBase new
  on_change (makes_hub world client scope held active) long h k o = made_on world _ k o
  on_change (makes_hub_from world maker hub found) long h k o = made_on world _ k o
  on_change (changes_hub world number old new change found fits allowed) long h k o =
      replaced-on (n == number) world number old new found refl
      (λ same s. subst StandsOn (sym fits) (change_on (held_options world) change old.stack
      (left_pop number change same h) s)) o
  on_change (sets_session world number hub session found given) long h k o =
      replaced-on (n == number) world number hub _ found refl (λ is s. s) o
  on_change (notes_event_id world number old new found same) long h k o =
      replaced-on (n == number) world number old new found refl (λ is s. subst StandsOn (sym same) s) o
  on_change (releases_hub world number hub found alone) long h k o =
      released-on (n == number) world number hub long k found alone refl o
  on_change (arrives world key client arrival is_off found open_ came) long h k o =
      sending_on client.label (send key client (envelopes_on_arrival arrival client)
      (with_client_history world key (after_arrival arrival client))).sent
      (with_client_history world key (after_arrival arrival client))
      (record { hub = o.hub; found = o.found; on = o.on })
  on_change (accepts world key client arrival kind is_off found open_ came) long h k o =
      sending_on client.label (send key client (envelopes_on_arrival arrival client)
      (with_client_history world key (after_arrival arrival client))).sent
      (with_client_history world key (after_arrival arrival client))
      (record { hub = o.hub; found = o.found; on = o.on })
  on_change _ long h k o = record { hub = o.hub; found = o.found; on = o.on }

  on_changes : {f : Option Envelope} {old new : World P C} {some : List (Effect P C)} {sent : List
      (ClientKey × Envelope)} → Changes meanings f old some sent new
      → 0 < length base → list_any is_popped some ≡ false → IsNumbered old → OnBase old → OnBase new
  on_changes (nothing world) long h k o = o
  on_changes (one c) long h k o = on_change c long h k o
  on_changes (both {first = first} {second = second} t u) long h k o =
      on_changes u long (any_second is_popped first second h) (numbered_changes meanings t k)
      (on_changes t long (any_first is_popped first second h) k o)

  -- ---- calls

  client_call_unpopped : (call : ClientCall P C) (made : Reply P C)
      → list_any is_popped (client_effects meanings call made) ≡ false
  client_call_unpopped (AddClient options transport label now) (reply.Client key) = refl
  client_call_unpopped (AddClient options transport label now) _ = refl
  client_call_unpopped (CloneClient client now) (reply.Client key) = refl
  client_call_unpopped (CloneClient client now) _ = refl
  client_call_unpopped (TakeReport label) (reply.Report report) = refl
  client_call_unpopped (TakeReport label) _ = refl
  client_call_unpopped call made = refl

  hub_call_unpopped : (call : HubCall P) (made : Reply P C) → pops_hub {P = P} {C = C} n (group.Hub call) ≡ false
      → list_any is_popped (hub_effects meanings call made) ≡ false
  hub_call_unpopped (NewHub client scope) (reply.Hub key) h = refl
  hub_call_unpopped (NewHub client scope) _ h = refl
  hub_call_unpopped (NewHubFromTop hub) (reply.Hub key) h = refl
  hub_call_unpopped (NewHubFromTop hub) _ h = refl
  hub_call_unpopped (PopScope hub given now) made h = ap (λ b. b || false) h
  hub_call_unpopped call made h = refl

  call_unpopped : (call : Call P C) (made : Reply P C) → pops_hub n call ≡ false
      → list_any is_popped (effects meanings call made) ≡ false
  call_unpopped (group.Client call) made h = client_call_unpopped call made
  call_unpopped (group.Hub call) made h = hub_call_unpopped call made h
  call_unpopped (group.Span call) made h = refl

-- ---- runs

module _ {P C : Type 0} where
  abbrev reply_in : Result (Out (Reply P C)) Refusal → Reply P C
  reply_in (Ok out) = out.reply
  reply_in (Err refusal) = reply.Done

  deep_of : (a b : ℕ) (made : Reply P C) → reply.Depth a ≡ made → made ≡ reply.Depth b → a ≡ b
  deep_of a b made e f = cc

module _ {P C : Type 0} (gives : P → Partial) (meanings : C → Meanings) where
  -- what a push leaves
  record Opened (first open_ : World P C) (n deep : ℕ) : Type 0 where
    hub : HubState P
    found : value_at first.hubs n ≡ Some hub
    deep_is : length (layers hub.stack) ≡ deep
    on : OnBase {C = C} meanings n (layers hub.stack) open_

  opened_from : (first open_ : World P C) (key : HubKey) (deep : ℕ) (opened : Out (Reply P C)) (o : Option (HubState P))
      → hub_at first key ≡ o
      → map_answer (λ pushed_. reply.Depth pushed_.1) (require_some {P = P} {C = C} {T = HubKey × ℕ} Stale first o
      (λ hub. reply_with (key, depth (push hub.stack)) []
      (with_hub first key (with_stack hub (push hub.stack))))).answer ≡ Ok opened
      → open_ ≡ (require_some {P = P} {C = C} {T = HubKey × ℕ} Stale first o
      (λ hub. reply_with (key, depth (push hub.stack)) [] (with_hub first key (with_stack hub (push hub.stack))))).after
      → opened.reply ≡ reply.Depth deep → Opened first open_ key.number deep
  opened_from first open_ key deep opened None at answer after replied = absurd cc
  opened_from first open_ key deep opened (Some hub) at answer after replied =
      let here = found_under first.tag first.hubs key.tag key.number hub at in
      let new : HubState P = with_stack hub (push hub.stack) in
      record {
        hub = hub;
        found = here;
        deep_is = deep_of (length (layers hub.stack)) deep opened.reply (ap reply_in answer) replied;
        on = subst (OnBase meanings key.number (layers hub.stack)) (sym after) (record {
          hub = new;
          found = own_replaced first.hubs key.number new hub here;
          on = ([], sym (append-nil (layers hub.stack)));
        });
      }

  opened_by : (first open_ : World P C) (key : HubKey) (deep : ℕ) (opened : Out (Reply P C)) → StepsTo gives meanings first
      (group.Hub (PushScope key)) (Ok opened) open_
      → opened.reply ≡ reply.Depth deep → Opened first open_ key.number deep
  unfolding hub_step layer_calls.push_scope
  opened_by first open_ key deep opened may replied = opened_from first open_ key deep opened (hub_at first key)
      refl may.0 may.1 replied

  -- what a pop leaves
  record Closed (middle last : World P C) (n deep : ℕ) : Type 0 where
    hub : HubState P
    found : value_at middle.hubs n ≡ Some hub
    deep_is : depth hub.stack ≡ deep
    after : stack_at last n ≡ Some (pop hub.stack)

  closed_require : (middle last : World P C) (key : HubKey) (given now : ℕ) (closed : Out (Reply P C)) (hub : HubState P)
      → hub_at middle key ≡ Some hub → (b : Bool) → (depth hub.stack == given && nat_lt 0 given) ≡ b
      → map_answer (λ _. reply.Done) (require {P = P} {C = C} {T = Unit {0}} OutOfOrder middle b
      (reply_with tt (release_session key.number hub now middle).sent
      (with_hub (release_session key.number hub now middle).after key (with_stack hub (pop hub.stack))))).answer
      ≡ Ok closed
      → last ≡ (require {P = P} {C = C} {T = Unit {0}} OutOfOrder middle b
      (reply_with tt (release_session key.number hub now middle).sent
      (with_hub (release_session key.number hub now middle).after key (with_stack hub (pop hub.stack))))).after
      → Closed middle last key.number given
  closed_require middle last key given now closed hub at false top answer after = absurd cc
  closed_require middle last key given now closed hub at true top answer after =
      let here = found_under middle.tag middle.hubs key.tag key.number hub at in
      record {
        hub = hub;
        found = here;
        deep_is = same_depth (depth hub.stack) given top;
        after = ap (λ (w : World P C). stack_at w key.number) after
            ∙ ap (option_map (λ (h : HubState P). h.stack))
            (own_replaced (release_session key.number hub now middle).after.hubs key.number
            (with_stack hub (pop hub.stack)) (with_session hub None) (found_released key.number hub now middle here));
      }

  closed_from : (middle last : World P C) (key : HubKey) (given now : ℕ) (closed : Out (Reply P C)) (o : Option (HubState P))
      → hub_at middle key ≡ o
      → map_answer (λ _. reply.Done) (require_some {P = P} {C = C} {T = Unit {0}} Stale middle o
      (λ hub. require OutOfOrder middle (depth hub.stack == given && nat_lt 0 given)
      (reply_with tt (release_session key.number hub now middle).sent
      (with_hub (release_session key.number hub now middle).after key (with_stack hub (pop hub.stack)))))).answer
      ≡ Ok closed
      → last ≡ (require_some {P = P} {C = C} {T = Unit {0}} Stale middle o
      (λ hub. require OutOfOrder middle (depth hub.stack == given && nat_lt 0 given)
      (reply_with tt (release_session key.number hub now middle).sent
      (with_hub (release_session key.number hub now middle).after key (with_stack hub (pop hub.stack)))))).after
      → Closed middle last key.number given
  closed_from middle last key given now closed None at answer after = absurd cc
  closed_from middle last key given now closed (Some hub) at answer after =
      closed_require middle last key given now closed hub at (depth hub.stack == given && nat_lt 0 given)
      refl answer after

  closed_by : (middle last : World P C) (key : HubKey) (given now : ℕ) (closed : Out (Reply P C))
      → StepsTo gives meanings middle (group.Hub (PopScope key given now)) (Ok closed) last
      → Closed middle last key.number given
  unfolding hub_step layer_calls.pop_scope
  closed_by middle last key given now closed may = closed_from middle last key given now closed (hub_at middle key)
      refl may.0 may.1

  -- any other pop of the hub leaves it on them
  on_other_pop : (n : ℕ) (base : List (StackLayer P)) (middle last : World P C) (given : ℕ) → Closed middle last n given
      → (given == length base) ≡ false → OnBase {C = C} meanings n base middle → OnBase {C = C} meanings n base last
  on_other_pop n base middle last given c apart m = by_hub (value_at last.hubs n) refl c.after
    where
      below : StandsOn {C = C} meanings n base c.hub.stack
      below = subst (λ (h : HubState P). StandsOn {C = C} meanings n base h.stack)
          (same_value (value_at middle.hubs n) m.hub c.hub m.found c.found) m.on

      by_hub : (o : Option (HubState P)) → value_at last.hubs n ≡ o
          → option_map (λ (hub : HubState P). hub.stack) o ≡ Some (pop c.hub.stack)
          → OnBase {C = C} meanings n base last
      by_hub None at is = absurd cc
      by_hub (Some hub) at is =
          let same : hub.stack ≡ pop c.hub.stack = cc in
          record {
            hub = hub;
            found = at;
            on = subst (StandsOn {C = C} meanings n base) (sym same)
                (pop_on {C = C} meanings n base c.hub.stack given c.deep_is apart below);
          }

  on_pop : (n : ℕ) (base : List (StackLayer P)) (key : HubKey) (given now : ℕ) (out : Out (Reply P C))
      (world next : World P C) → (b : Bool) → (n == key.number) ≡ b
      → pops {P = P} {C = C} n (length base) (group.Hub (PopScope key given now)) ≡ false
      → StepsTo gives meanings world (group.Hub (PopScope key given now)) (Ok out) next
      → (pops_hub {P = P} {C = C} n (group.Hub (PopScope key given now)) ≡ false → OnBase {C = C} meanings n base next)
      → OnBase {C = C} meanings n base world → OnBase {C = C} meanings n base next
  on_pop n base key given now out world next false e keeps may rest o = rest e
  on_pop n base key given now out world next true e keeps may rest o =
      let same : n ≡ key.number = same_number n key.number e in
      let own : (key.number == n) ≡ true = eq-eqb key.number n (sym same) in
      on_other_pop n base world next given
      (subst (λ k. Closed world next k given) (sym same) (closed_by world next key given now out may))
      (sym (ap (λ (b : Bool). b && (given == length base)) own) ∙ keeps) o

  on_next : (n : ℕ) (base : List (StackLayer P)) (call : Call P C) (out : Out (Reply P C)) (world next : World P C)
      → 0 < length base → pops n (length base) call ≡ false → StepsTo gives meanings world call (Ok out) next
      → IsNumbered world → OnBase {C = C} meanings n base world → OnBase {C = C} meanings n base next
  on_next n base call out world next long keeps may k o = by_call call keeps may
    where
      unpopped : (call : Call P C) → StepsTo gives meanings world call (Ok out) next → pops_hub n call ≡ false
          → OnBase {C = C} meanings n base next
      unpopped call may calm =
          let trail = trail_of gives meanings call out world next may in
          on_changes meanings n base trail.changes long
          (sym (own_any (is_popped meanings n base) (λ number session. refl) trail.effects)
          ∙ (ap (list_any (is_popped meanings n base)) trail.same ∙ call_unpopped meanings n base call out.reply calm)) k o

      by_call : (call : Call P C) → pops n (length base) call ≡ false → StepsTo gives meanings world call (Ok out) next
          → OnBase {C = C} meanings n base next
      by_call (group.Hub (PopScope key given now)) keeps may =
          on_pop n base key given now out world next (n == key.number) refl keeps may
          (unpopped (group.Hub (PopScope key given now)) may) o
      by_call call keeps may = unpopped call may refl

  -- the pop of the layer that stands on these leaves them
  left_by : (n : ℕ) (stack : Stack P) (middle last : World P C) (given : ℕ) → Closed middle last n given
      → given ≡ length (layers stack) → OnBase {C = C} meanings n (layers stack) middle → stack_at last n ≡ Some stack
  unfolding pop
  left_by n stack middle last given c deep m =
      let base = layers stack in
      let same : m.hub ≡ c.hub = same_value (value_at middle.hubs n) m.hub c.hub m.found c.found in
      let below : c.hub.stack.below ≡ base ++ m.on.0 = sym (ap (λ (h : HubState P). h.stack.below) same) ∙ m.on.1 in
      let none : m.on.0 ≡ [] = no_more base m.on.0 (sym (ap length below) ∙ (c.deep_is ∙ deep)) in
      let all : c.hub.stack.below ≡ base = below ∙ (ap (λ l. base ++ l) none ∙ append-nil base) in
      c.after ∙ (ap (λ (l : List (StackLayer P)). Some (stack_of_any l c.hub.stack)) all
      ∙ ap Some (restored stack.below stack.top c.hub.stack))

  popped_hub : (n : ℕ) (stack : Stack P) (call : HubCall P) (out : Out (Reply P C)) (world next : World P C)
      → pops {P = P} {C = C} n (length (layers stack)) (group.Hub call) ≡ true
      → StepsTo gives meanings world (group.Hub call) (Ok out) next → OnBase {C = C} meanings n (layers stack) world
      → stack_at next n ≡ Some stack
  popped_hub n stack (PopScope hub given now) out world next is may m =
      let number : hub.number ≡ n = same_number hub.number n (and_parts (hub.number == n) _ is).0 in
      let deep : given ≡ length (layers stack) =
      same_number given (length (layers stack)) (and_parts (hub.number == n) _ is).1 in
      left_by n stack world next given
      (subst (λ k. Closed world next k given) number (closed_by world next hub given now out may)) deep m
  popped_hub n stack call out world next is may m = absurd cc

  popped_by : (n : ℕ) (stack : Stack P) (call : Call P C) (out : Out (Reply P C)) (world next : World P C)
      → pops n (length (layers stack)) call ≡ true → StepsTo gives meanings world call (Ok out) next
      → OnBase {C = C} meanings n (layers stack) world → stack_at next n ≡ Some stack
  popped_by n stack (group.Hub call) out world next is may m = popped_hub n stack call out world next is may m
  popped_by n stack (group.Client call) out world next is may m = absurd cc
  popped_by n stack (group.Span call) out world next is may m = absurd cc

  numbered_by : (call : Call P C) (answer : Result (Out (Reply P C)) Refusal) (world next : World P C)
      → StepsTo gives meanings world call answer next → IsNumbered world → IsNumbered next
  numbered_by = kept_by_call gives meanings IsNumbered (λ given old new some sent c. numbered_change meanings c)

  restores : (n : ℕ) (stack : Stack P) (calls : List (Call P C)) (answers : List (Result (Out (Reply P C)) Refusal))
      (world last : World P C) (run : Run gives meanings world calls answers last) → IsNumbered world
      → OnBase {C = C} meanings n (layers stack) world
      → PopLeaves gives meanings n (length (layers stack)) (Some stack) world calls answers last run
  restores n stack [] answers world last run k m = tt
  restores n stack (call ∷ calls) [] world last run k m = tt
  restores n stack (call ∷ calls) (Err refusal ∷ answers) world last run k m =
      restores n stack calls answers run.0 last run.2 (numbered_by call (Err refusal) world run.0 run.1 k)
      (subst (OnBase {C = C} meanings n (layers stack)) (sym run.1.1) m)
  restores n stack (call ∷ calls) (Ok out ∷ answers) world last run k m =
      by_pop (pops n (length (layers stack)) call) refl
      (λ keeps. restores n stack calls answers run.0 last run.2 (numbered_by call (Ok out) world run.0 run.1 k)
      (on_next n (layers stack) call out world run.0 long keeps run.1 k m))
    where
      long : 0 < length (layers stack)
      long = omega (arith, length-append stack.below (stack.top ∷ []))

      by_pop : (b : Bool) → pops n (length (layers stack)) call ≡ b
          → (b ≡ false → PopLeaves gives meanings n (length (layers stack)) (Some stack) run.0 calls answers last run.2)
          → IfElse b (stack_at run.0 n ≡ Some stack)
          (PopLeaves gives meanings n (length (layers stack)) (Some stack) run.0 calls answers last run.2)
      by_pop true e rest = popped_by n stack call out world run.0 e run.1 m
      by_pop false e rest = rest refl

  undone : (world : World P C) (calls : List (Call P C)) (answers : List (Result (Out (Reply P C)) Refusal))
      (last : World P C) (run : Run gives meanings world calls answers last) → IsNumbered world
      → UndoesPush gives meanings world calls answers last run
  undone world [] answers last run n = tt
  undone world (call ∷ calls) [] last run n = tt
  undone world (call ∷ calls) (Err refusal ∷ answers) last run n = tt
  undone world (call ∷ calls) (Ok out ∷ answers) last run n = λ hub depth is replied.
      let pushed_ = subst (λ c. StepsTo gives meanings world c (Ok out) run.0) is run.1 in
      let o : Opened world run.0 hub.number depth = opened_by world run.0 hub depth out pushed_ replied in
      subst (λ (s : Option (Stack P)). PopLeaves gives meanings hub.number depth s run.0 calls answers last run.2)
      (sym (ap (option_map (λ (h : HubState P). h.stack)) o.found))
      (subst (λ d. PopLeaves gives meanings hub.number d (Some o.hub.stack) run.0 calls answers last run.2) o.deep_is
      (restores hub.number o.hub.stack calls answers run.0 last run.2
      (numbered_by (group.Hub (PushScope hub)) (Ok out) world run.0 pushed_ n) o.on))

  pushes_undone : (calls : List (Call P C)) (answers : List (Result (Out (Reply P C)) Refusal)) (world last : World P C)
      (run : Run gives meanings world calls answers last) → IsNumbered world
      → PushesAreUndone gives meanings world calls answers last run
  pushes_undone = from_each_call gives meanings (UndoesPush gives meanings) IsNumbered
      numbered_by undone

  pub pop_undoes_push : PopUndoesPush gives meanings
  pop_undoes_push tag start earlier calls before answers first last reached run =
      pushes_undone calls answers first last run
      (kept_by_run gives meanings IsNumbered (λ given old new some sent c. numbered_change meanings c) earlier before
      (starting_world tag start) first reached (none_numbered tag start))

  -- the pushes of a run from the start
  pub all_pushes_undone : (tag start : ℕ) (calls : List (Call P C))
      (answers : List (Result (Out (Reply P C)) Refusal)) (last : World P C)
      (run : Run gives meanings (starting_world tag start) calls answers last)
      → PushesAreUndone gives meanings (starting_world tag start) calls answers last run
  all_pushes_undone tag start calls answers last run =
      pushes_undone calls answers (starting_world tag start) last run (none_numbered tag start)
