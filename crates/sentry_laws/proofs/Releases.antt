-- Sessions that are held are named: what the calls keep by which layers give up their sessions.
use Rattle.std.proofs.Common.{◌≡◌, refl, ap, ◌∙◌, sym, subst, ℕ, ◌+◌, List, [], ◌∷◌, Bool, true, false, length, arith, ◌⊎◌, inl, inr}
use Rattle.std.proofs.lemmas.Bool.Decides.{nat_tests}
use Rattle.std.proofs.lemmas.Bool.{and_parts, and_right, or_right}
use Rattle.std.specs.Prelude.{Option, Some, None, if◌then◌else◌, ◌==◌, ◌&&◌, ◌||◌}
use Rattle.std.specs.List.{list_any}
use Rattle.sentry_plain.specs.Tables.{value_at, replace_at, without}
use Rattle.sentry_plain.specs.Texts.{Bytes}
use Rattle.sentry_plain.proofs.NumberLemmas.{same_number}
use Rattle.sentry_base.specs.declared.protocol.keys.SessionKey.{SessionKey}
use Rattle.sentry_base.specs.declared.protocol.keys.TransactionKey.{TransactionKey}
use Rattle.sentry_scope.specs.declared.scope.stack.Stack.{Stack}
use Rattle.sentry_scope.specs.declared.scope.stack.StackLayer.{StackLayer}
use Rattle.sentry_scope.specs.Stacks.{depth, pop, stack_of, stack_of_any, is_session, names_session}
use Rattle.sentry_sessions.specs.Sessions.{closed, session_of, pending_update}
use Rattle.sentry_sessions.specs.declared.session.record.SessionStart.{SessionStart}
use Rattle.sentry_hub_table.specs.declared.hub.HubState.{HubState}
use Rattle.sentry_state.specs.Worlds.{World, SessionHistory}
use Rattle.sentry_state.specs.Outcomes.{session_at, transaction_at, value_under}
use Rattle.sentry_hub_table.specs.Hubs.{with_stack, with_session}
use Rattle.sentry_state.specs.Changes.{with_new_session}
use Rattle.sentry_sending.specs.Sending.{Sending, send_nothing, send_some, is_session_named, end_session, end_unnamed_session, release_session, replace_session}
use Rattle.sentry_span_edits.specs.Setters.{with_edited, with_found_edited}
use Rattle.sentry_span_edits.specs.declared.edit.SpanEdit.{SpanEdit}
use Rattle.sentry_span_edits.specs.declared.edit.SpanEdit.TheVariants.{Name}
use Rattle.sentry_span_table.specs.SpanLists.{TransactionHistory}
use Rattle.sentry_calls.specs.Hubs.{with_renames}
use Rattle.sentry_laws.specs.Reachable.{SessionsAreNamed}
use Rattle.sentry_laws.proofs.Tables.{AreBelow, below_put, own_replaced}
use Rattle.sentry_laws.proofs.Found.{found_put}
use Rattle.sentry_laws.proofs.Tests.{passes_found, passes_raised, passes_without}
use Rattle.sentry_laws.proofs.Numbered.{IsNumbered}
use Rattle.sentry_laws.proofs.Naming.{IsNamed, has_session, is_on, hub_replaced_named, without_before}
use Rattle.sentry_laws.proofs.Parts.{end_part}
use Rattle.sentry_laws.proofs.SendingTrails.{some_sessions, queue_update_sessions, release_hubs, release_tag, release_next, found_released}

-- ---- tests

other_way : (a b : ℕ) (c : Bool) → (a == b) ≡ c → (b == a) ≡ c
other_way a b true e = grind (arith, nat_tests)
other_way a b false e = grind (arith, nat_tests)

or_second : (a b : Bool) → a ≡ false → (a || b) ≡ true → b ≡ true
or_second true b e h = absurd cc
or_second false b e h = h

or_middle : (a b c d : Bool) → (a || d) ≡ true → (d ≡ true → (b || c) ≡ true) → (b || (a || c)) ≡ true
or_middle true b c d h more = or_right b true refl
or_middle false b c d h more = more h

not_next : (tag next key_tag number : ℕ) → ((tag == key_tag) && (next == number)) ≡ false → (key_tag == tag) ≡ true
    → (b : Bool) → (number == next) ≡ b → b ≡ false
not_next tag next key_tag number apart own true e =
    let tags : (tag == key_tag) ≡ true = other_way key_tag tag true own in
    let numbers : (next == number) ≡ true = other_way number next true e in
    let is : ((tag == key_tag) && (next == number)) ≡ true = λ i. tags i && numbers i in
    sym is ∙ apart
not_next tag next key_tag number apart own false e = refl

-- a key that is this one
same_key : (key k : SessionKey) → is_session k (Some key) ≡ true → key ≡ k
same_key key k e =
    let tags : key.tag ≡ k.tag = same_number key.tag k.tag (and_parts (key.tag == k.tag) (key.number == k.number) e).0 in
    let numbers : key.number ≡ k.number =
    same_number key.number k.number (and_parts (key.tag == k.tag) (key.number == k.number) e).1 in
    λ i. record { tag = tags i; number = numbers i }

module _ {P C : Type 0} where
  -- ---- a session that ends

  -- these sessions are left where the session of a key ended, if it was held
  abbrev AreLeft : World P C → SessionKey → List (ℕ × SessionHistory) → Type 0
  AreLeft world key sessions =
      ((session_at world key ≡ None) × (sessions ≡ world.sessions)) ⊎ (sessions ≡ without world.sessions key.number)

  left_by : (world : World P C) (key : SessionKey) (o : Option SessionHistory) (go : SessionHistory → Sending P C)
      → session_at world key ≡ o
      → ((session : SessionHistory) → (go session).after.sessions ≡ without world.sessions key.number)
      → AreLeft world key (send_some world o go).after.sessions
  left_by world key None go found same = inl (found, refl)
  left_by world key (Some session) go found same = inr (same session)

  end_left : (key : SessionKey) (now : ℕ) (world : World P C)
      → AreLeft world key (end_session key None now world).after.sessions
  unfolding end_session
  end_left key now world =
      left_by world key (session_at world key) _ refl (λ session. ap (λ sessions. without sessions key.number)
      (some_sessions world (pending_update (session_of session.start (closed None now ∷ session.history))) _
      (λ update. queue_update_sessions session.start.client update world)))

  end_tag : (key : SessionKey) (now : ℕ) (world : World P C) → (end_session key None now world).after.tag ≡ world.tag
  end_tag key now world = end_part (λ (w : World P C). w.tag) (λ w b. refl) (λ w c. refl) (λ w s. refl) key None now
      world

  -- a session that is held is no other that isn't
  not_held : (world : World P C) (key k : SessionKey) (session : SessionHistory) (b : Bool) → is_session k (Some key) ≡ b
      → session_at world key ≡ None → session_at world k ≡ Some session → b ≡ false
  not_held world key k session true e none found =
      let none_here : None ≡ Some session = sym none ∙ (ap (session_at world) (same_key key k e) ∙ found) in absurd cc
  not_held world key k session false e none found = refl

  others_left : (world : World P C) (key k : SessionKey) (next : ℕ) (sessions : List (ℕ × SessionHistory))
      (session : SessionHistory) → AreBelow 0 next world.sessions → AreLeft world key sessions
      → value_under world.tag sessions k.tag k.number ≡ Some session
      → (session_at world k ≡ Some session) × (is_session k (Some key) ≡ false)
  others_left world key k next sessions session below (inl e) at =
      let found : session_at world k ≡ Some session =
      subst (λ s. value_under world.tag s k.tag k.number ≡ Some session) e.1 at in
      (found, not_held world key k session (is_session k (Some key)) refl e.0 found)
  others_left world key k next sessions session below (inr e) at =
      let before = without_before next world.sessions key.number k.number session (k.tag == world.tag) below
      (subst (λ s. value_under world.tag s k.tag k.number ≡ Some session) e at) in
      (before.1, and_right (key.tag == k.tag) (key.number == k.number) (other_way k.number key.number false before.0))

  -- a session that is still held after another one ended, was held, and is another one
  held_still : (key k : SessionKey) (now : ℕ) (world : World P C) (next : ℕ) (session : SessionHistory)
      → AreBelow 0 next world.sessions → session_at (end_session key None now world).after k ≡ Some session
      → (session_at world k ≡ Some session) × (is_session k (Some key) ≡ false)
  held_still key k now world next session below at =
      others_left world key k next (end_session key None now world).after.sessions session below
      (end_left key now world)
      (subst (λ t. value_under t (end_session key None now world).after.sessions k.tag k.number ≡ Some session)
      (end_tag key now world) at)

  -- ---- a session that a layer gives up

  -- a session that is still held where a layer gave up one of this name, was held, and is another one or still named
  given_up : (name : Option SessionKey) (k : SessionKey) (now : ℕ) (world : World P C) (next : ℕ)
      (session : SessionHistory) → AreBelow 0 next world.sessions
      → session_at (end_unnamed_session name now world).after k ≡ Some session
      → (session_at world k ≡ Some session) × ((is_session k name ≡ false) ⊎ (is_session_named k world.hubs ≡ true))
  unfolding end_unnamed_session
  given_up None k now world next session below at = (at, inl refl)
  given_up (Some key) k now world next session below at = by_name (is_session_named key world.hubs) refl at
    where
      by_key : (b : Bool) → is_session k (Some key) ≡ b → is_session_named key world.hubs ≡ true
          → (is_session k (Some key) ≡ false) ⊎ (is_session_named k world.hubs ≡ true)
      by_key true e named = inr (subst (λ x. is_session_named x world.hubs ≡ true) (same_key key k e) named)
      by_key false e named = inl e

      by_name : (b : Bool) → is_session_named key world.hubs ≡ b
          → session_at (if b then send_nothing world else end_session key None now world).after k ≡ Some session
          → (session_at world k ≡ Some session)
          × ((is_session k (Some key) ≡ false) ⊎ (is_session_named k world.hubs ≡ true))
      by_name true e here = (here, by_key (is_session k (Some key)) refl e)
      by_name false e here = let held = held_still key k now world next session below here in (held.0, inl held.1)

  -- the session of a key stays named, or ended, where the top layer of a hub gave up its session
  pub released_named : (number : ℕ) (hub : HubState P) (now : ℕ) (world : World P C) (next : ℕ) (key : SessionKey)
      → value_at world.hubs number ≡ Some hub → AreBelow 0 next world.sessions → IsNamed world key
      → IsNamed (release_session number hub now world).after key
  released_named number hub now world next key found below h session at =
      let freed : World P C = record world { hubs = replace_at world.hubs number (with_session hub None) } in
      let left = given_up hub.stack.top.session key now freed next session below at in
      ap (is_session_named key) (release_hubs number hub now world) ∙ by_name left.1 (h session left.0)
    where
      by_name : (is_session key hub.stack.top.session ≡ false)
          ⊎ (is_session_named key (replace_at world.hubs number (with_session hub None)) ≡ true)
          → is_session_named key world.hubs ≡ true
          → is_session_named key (replace_at world.hubs number (with_session hub None)) ≡ true
      by_name (inl other) named =
          passes_raised (is_on key) world.hubs number (with_session hub None) hub found
          (or_second (is_session key hub.stack.top.session) (list_any (has_session key) hub.stack.below) other) named
      by_name (inr still) named = still

  -- the same of all sessions
  pub all_released_named : (number : ℕ) (hub : HubState P) (now : ℕ) (world : World P C)
      → value_at world.hubs number ≡ Some hub → IsNumbered world → SessionsAreNamed world
      → SessionsAreNamed (release_session number hub now world).after
  all_released_named number hub now world found n h key =
      released_named number hub now world world.next.session key found n.sessions (h key)

-- ---- calls

module _ {P : Type 0} (key : SessionKey) where
  stack_of_on : (lowest : StackLayer P) (above : List (StackLayer P)) → list_any (has_session key) (lowest ∷ above) ≡ true
      → names_session key (stack_of lowest above) ≡ true
  stack_of_on lowest [] h = h
  stack_of_on lowest (layer ∷ above) h =
      or_middle (has_session key lowest) (has_session key (stack_of layer above).top)
      (list_any (has_session key) (stack_of layer above).below) (list_any (has_session key) (layer ∷ above)) h
      (stack_of_on layer above)

  any_on : (below : List (StackLayer P)) (stack : Stack P) → list_any (has_session key) below ≡ true
      → names_session key (stack_of_any below stack) ≡ true
  any_on [] stack h = absurd cc
  any_on (lowest ∷ above) stack h = stack_of_on lowest above h

  popped_on : (stack : Stack P) → list_any (has_session key) stack.below ≡ true → names_session key (pop stack) ≡ true
  unfolding pop
  popped_on stack h = any_on stack.below stack h

  none_on : (below : List (StackLayer P)) → length below ≡ 0 → list_any (has_session key) below ≡ false
  none_on [] e = refl
  none_on (layer ∷ below) e = absurd (omega arith)

module _ {P C : Type 0} where
  -- a pop
  pub popped_named : (number : ℕ) (hub : HubState P) (now : ℕ) (world : World P C) → value_at world.hubs number ≡ Some hub
      → IsNumbered world → SessionsAreNamed world
      → SessionsAreNamed (record (release_session number hub now world).after {
        hubs = replace_at (release_session number hub now world).after.hubs number (with_stack hub (pop hub.stack));
      })
  popped_named number hub now world found n h =
      hub_replaced_named (release_session number hub now world).after number (with_session hub None)
      (with_stack hub (pop hub.stack)) (found_released number hub now world found) (λ key. popped_on key hub.stack)
      (all_released_named number hub now world found n h)

  -- a release of a hub of one layer
  pub hub_released_named : (number : ℕ) (hub : HubState P) (now : ℕ) (world : World P C)
      → value_at world.hubs number ≡ Some hub → depth hub.stack ≡ 0 → IsNumbered world → SessionsAreNamed world
      → SessionsAreNamed (record (release_session number hub now world).after {
        hubs = without (release_session number hub now world).after.hubs number;
      })
  hub_released_named number hub now world found alone n h key session at =
      passes_without (is_on key) (release_session number hub now world).after.hubs number (with_session hub None)
      (found_released number hub now world found) (none_on key hub.stack.below alone)
      ∙ all_released_named number hub now world found n h key session at

  edited_named : (by : SpanEdit) (number : ℕ) (o : Option TransactionHistory) (world : World P C)
      → SessionsAreNamed world → SessionsAreNamed (with_found_edited by number o world)
  edited_named by number None world h = h
  edited_named by number (Some state) world h = h

  -- other names of transactions
  pub renamed_named : (renames : List (TransactionKey × Bytes)) (world : World P C) → SessionsAreNamed world
      → SessionsAreNamed (with_renames renames world)
  renamed_named [] world h = h
  renamed_named (rename ∷ rest) world h =
      renamed_named rest (with_edited (Name rename.1) rename.0 world)
      (edited_named (Name rename.1) rename.0.number (transaction_at world rename.0) world h)

  -- ---- a session that starts in place of another

  -- another session than the next one was held before it
  started_before : (world : World P C) (start : SessionStart) (key : SessionKey) (session : SessionHistory) (own : Bool)
      → (key.tag == world.tag) ≡ own
      → is_session key (Some (record { tag = world.tag; number = world.next.session })) ≡ false
      → (if own then value_at (with_new_session start world).sessions key.number else None) ≡ Some session
      → (if own then value_at world.sessions key.number else None) ≡ Some session
  started_before world start key session true own apart at =
      sym (found_put world.sessions world.next.session key.number (record { start = start; history = [] })
      ∙ ap (λ b. if b then Some (record { start = start; history = [] }) else value_at world.sessions key.number)
      (not_next world.tag world.next.session key.tag key.number apart own (key.number == world.next.session) refl))
      ∙ at
  started_before world start key session false own apart at = absurd cc

  pub replaced_named : (number : ℕ) (hub : HubState P) (now : ℕ) (start : SessionStart) (world : World P C)
      → value_at world.hubs number ≡ Some hub → IsNumbered world → SessionsAreNamed world
      → SessionsAreNamed (replace_session number hub now start world).after
  replaced_named number hub now start world found n h key session at =
      by_key (is_session key (Some name)) refl
    where
      begun : World P C
      begun = with_new_session start world

      released : World P C
      released = (release_session number hub now begun).after

      name : SessionKey
      name = record { tag = released.tag; number = released.next.session }

      -- the name is that of the next session of the world
      name_is : name ≡ record { tag = world.tag; number = world.next.session }
      name_is = λ i. record {
        tag = release_tag number hub now begun i;
        number = (release_next number hub now begun i).session;
      }

      freed : value_at released.hubs number ≡ Some (with_session hub None)
      freed = found_released number hub now begun found

      before : is_session key (Some name) ≡ false → IsNamed begun key
      before apart held there =
          h key held (started_before world start key held (key.tag == world.tag) refl
          (ap (λ k. is_session key (Some k)) (sym name_is) ∙ apart) there)

      by_key : (b : Bool) → is_session key (Some name) ≡ b
          → is_session_named key (replace_at released.hubs number (with_session hub (Some name))) ≡ true
      by_key true e =
          passes_found (is_on key) (replace_at released.hubs number (with_session hub (Some name))) number
          (with_session hub (Some name))
          (own_replaced released.hubs number (with_session hub (Some name)) (with_session hub None) freed)
          (ap (λ b. b || list_any (has_session key) hub.stack.below) e)
      by_key false e =
          passes_raised (is_on key) released.hubs number (with_session hub (Some name)) (with_session hub None) freed
          (or_right (is_session key (Some name)) (list_any (has_session key) hub.stack.below))
          (released_named number hub now begun (world.next.session + 1) key found
          (below_put world.next.session (record { start = start; history = [] }) world.sessions n.sessions)
          (before e) session at)
