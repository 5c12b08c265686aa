-- What the scopes of layers name as active is held.
use Rattle.std.proofs.Common.{◌≡◌, refl, ap, ◌∙◌, sym, subst, ℕ, List, [], ◌∷◌, Bool, true, false, length}
use Rattle.std.specs.Prelude.{Option, Some, None, Result, ◌==◌, ◌&&◌, is_some, if◌then◌else◌}
use Rattle.std.specs.List.{AllByRecursion, list_any}
use Rattle.std.specs.Option.{option_map, option_and_then}
use Rattle.sentry_plain.specs.Tables.{value_at, put, replace_at, without}
use Rattle.sentry_plain.proofs.NumberLemmas.{same_number, equal_to_itself}
use Rattle.sentry_base.specs.Callbacks.{Partial}
use Rattle.sentry_base.specs.declared.protocol.breadcrumb.Breadcrumb.{Breadcrumb}
use Rattle.sentry_base.specs.declared.protocol.envelope.Envelope.{Envelope}
use Rattle.sentry_base.specs.declared.protocol.keys.ClientKey.{ClientKey}
use Rattle.sentry_base.specs.declared.protocol.keys.Label.{Label}
use Rattle.sentry_base.specs.declared.protocol.keys.SpanKey.{SpanKey}
use Rattle.sentry_base.specs.declared.protocol.keys.TransactionKey.{TransactionKey}
use Rattle.sentry_base.specs.declared.protocol.keys.TransactionOrSpanKey.{TransactionOrSpanKey}
use Rattle.sentry_base.specs.declared.protocol.keys.TransactionOrSpanKey.TheVariants as key_of
use Rattle.sentry_base.specs.declared.protocol.refusal.Refusal.{Refusal}
use Rattle.sentry_hub_table.specs.declared.hub.HubState.{HubState}
use Rattle.sentry_options.specs.Meanings.{Meanings}
use Rattle.sentry_options.specs.declared.clientoptions.ClientOptions.{ClientOptions}
use Rattle.sentry_scope.specs.EditLists.{all_name_held_spans, names_held_span}
use Rattle.sentry_scope.specs.Scopes.{edit, edit_all}
use Rattle.sentry_scope.specs.declared.scope.Scope.{Scope}
use Rattle.sentry_scope.specs.declared.scope.edit.ScopeEdit.{ScopeEdit}
use Rattle.sentry_scope.specs.declared.scope.edit.ScopeEdit.TheVariants as edit_of
use Rattle.sentry_scope.specs.declared.scope.stack.Stack.{Stack}
use Rattle.sentry_scope.specs.declared.scope.stack.StackLayer.{StackLayer}
use Rattle.sentry_sending.specs.Sending.{send, after_sending}
use Rattle.sentry_hub_table.specs.Hubs.{is_span, is_transaction}
use Rattle.sentry_span_table.specs.SpanLists.{TransactionHistory, stored_transaction, with_span_finished}
use Rattle.sentry_span_table.specs.SpanTables.{is_held}
use Rattle.sentry_span_table.specs.declared.table.records.SpanRecord.{SpanRecord}
use Rattle.sentry_span_table.specs.declared.table.records.SpanTable.{SpanTable}
use Rattle.sentry_state.specs.declared.state.Out.{Out}
use Rattle.sentry_state.specs.Changes.{with_client_history}
use Rattle.sentry_state.specs.Outcomes.{value_under}
use Rattle.sentry_state.specs.SpanChanges.{with_new_span, with_new_transaction}
use Rattle.sentry_state.specs.Worlds.{World, map_values, span_table, starting_world}
use Rattle.sentry_calls.specs.Runs.{Run}
use Rattle.sentry_calls.specs.declared.call.Call.{Call}
use Rattle.sentry_calls.specs.declared.call.Reply.{Reply}
use Rattle.sentry_laws.specs.OwnCalls.{LayerChange, scope_edited, breadcrumbs_came, client_bound, layer_pushed, layer_popped, change_layers, add_under}
use Rattle.sentry_laws.proofs.Effects.{Effect}
use Rattle.sentry_laws.proofs.Changes.{Change, SpanChange, changes_transaction, changes_span, keeps_span, drops_transaction, drops_span, held_options, IsAllowed, after_arrival, envelopes_on_arrival, makes_hub, makes_hub_from, changes_hub, sets_session, notes_event_id, releases_hub, arrives, accepts, starts_transaction, starts_span, changes_spans}
use Rattle.sentry_laws.specs.Reachable.{ActiveSpansAreHeld}
use Rattle.sentry_laws.proofs.Found.{found_put, found_replaced, found_without, all_by, all_without}
use Rattle.sentry_laws.proofs.Keeping.{kept_by_run}
use Rattle.sentry_laws.proofs.Layers.{AllLayers, all_map, all_pushed, all_popped}
use Rattle.sentry_laws.proofs.Numbered.{IsNumbered, client_numbered, numbered_change, none_numbered}
use Rattle.std.proofs.lemmas.Bool.{and_parts, or_parts}
use Rattle.sentry_laws.proofs.Tests.{fails_found}
use Rattle.sentry_laws.proofs.Traces.{value_mapped}
use Rattle.sentry_laws.proofs.Trails.{found_under}

-- the name is there, and is this one
abbrev is_named : TransactionOrSpanKey → Option TransactionOrSpanKey → Bool
is_named (key_of.Transaction key) name = is_transaction key name
is_named (key_of.Span key) name = is_span key name

-- ---- what edits name

module _ {P : Type 0} (spans : SpanTable) where
  -- the table holds what the scope names
  abbrev pub IsActiveHeld : StackLayer P → Type 0
  IsActiveHeld layer = is_held spans layer.scope.span ≡ true

  edit_held : (by : ScopeEdit P) (scope : Scope P) → names_held_span spans by ≡ true → is_held spans scope.span ≡ true
      → is_held spans (edit by scope).span ≡ true
  edit_held (edit_of.SetSpan span) scope named h = named
  edit_held (edit_of.Clear trace_id span_id) scope named h = refl
  edit_held _ scope named h = h

  edits_held : (edits : List (ScopeEdit P)) (scope : Scope P) → all_name_held_spans spans edits ≡ true
      → is_held spans scope.span ≡ true → is_held spans (edit_all edits scope).span ≡ true
  edits_held [] scope named h = h
  edits_held (first ∷ rest) scope named h =
      edits_held rest (edit first scope) (and_parts (names_held_span spans first) _ named).1
      (edit_held first scope (and_parts (names_held_span spans first) _ named).0 h)

module _ {P C : Type 0} (meanings : C → Meanings) where
  crumbs_held : (spans : SpanTable) (b : Bool) (o : Option (ClientOptions C)) (breadcrumbs : List Breadcrumb)
      (stack : Stack P) → AllLayers (IsActiveHeld spans) stack
      → AllLayers (IsActiveHeld spans) (if b then stack else add_under meanings o breadcrumbs stack)
  crumbs_held spans true o breadcrumbs stack h = h
  crumbs_held spans false None breadcrumbs stack h = h
  crumbs_held spans false (Some options) breadcrumbs stack h = h

  change_held : (world : World P C) (change : LayerChange P) (stack : Stack P) → IsAllowed world change
      → AllLayers (IsActiveHeld (span_table world)) stack
      → AllLayers (IsActiveHeld (span_table world)) (change_layers meanings (held_options world) change stack)
  change_held world (scope_edited edits) stack allowed h =
      (edits_held (span_table world) edits stack.top.scope allowed h.0, h.1)
  change_held world (breadcrumbs_came breadcrumbs) stack allowed h =
      crumbs_held (span_table world) (length breadcrumbs == 0) (option_and_then (held_options world) stack.top.client)
      breadcrumbs stack h
  change_held world (client_bound client) stack allowed h = h
  change_held world layer_pushed stack allowed h = (h.0, all_pushed (IsActiveHeld (span_table world)) stack h)
  change_held world layer_popped stack allowed h = all_popped (IsActiveHeld (span_table world)) stack h

-- ---- what is held

some_mapped : (m : List (ℕ × TransactionHistory)) (n : ℕ) → is_some (value_at (map_values stored_transaction m) n)
    ≡ is_some (value_at m n)
some_mapped m n = ap is_some (value_mapped stored_transaction m n) ∙ by_some (value_at m n)
  where
    by_some : (o : Option TransactionHistory) → is_some (option_map stored_transaction o) ≡ is_some o
    by_some None = refl
    by_some (Some state) = refl

some_if : {X : Type 0} (b : Bool) (o : Option X) → is_some (if b then o else None) ≡ (b && is_some o)
some_if true o = refl
some_if false o = refl

both_true : (a b c : Bool) → (a && b) ≡ true → (b ≡ true → c ≡ true) → (a && c) ≡ true
both_true true b c h k = k h
both_true false b c h k = h

module _ {P C : Type 0} where
  -- what is held of one table is held of another
  abbrev KeepsHeld : World P C → World P C → Type 0
  KeepsHeld old new = (name : TransactionOrSpanKey) → is_held (span_table old) (Some name) ≡ true
      → is_held (span_table new) (Some name) ≡ true

  -- a transaction is held where its number is, and so is a span
  held_transaction : (world : World P C) (key : TransactionKey) → is_held (span_table world)
      (Some (key_of.Transaction key)) ≡ ((key.tag == world.tag) && is_some (value_at world.transactions key.number))
  held_transaction world key =
      some_if (key.tag == world.tag) (value_at (map_values stored_transaction world.transactions) key.number)
      ∙ ap (λ b. (key.tag == world.tag) && b) (some_mapped world.transactions key.number)

  held_span : (world : World P C) (key : SpanKey) → is_held (span_table world) (Some (key_of.Span key)) ≡
      ((key.tag == world.tag) && is_some (value_at world.spans key.number))
  held_span world key = some_if (key.tag == world.tag) (value_at world.spans key.number)

  keeps_more : (old : World P C) (transactions : List (ℕ × TransactionHistory)) (spans : List (ℕ × SpanRecord)) (next : ℕ)
      → ((n : ℕ) → is_some (value_at old.transactions n) ≡ true → is_some (value_at transactions n) ≡ true)
      → ((n : ℕ) → is_some (value_at old.spans n) ≡ true → is_some (value_at spans n) ≡ true)
      → KeepsHeld old (record old { transactions = transactions; spans = spans })
  keeps_more old transactions spans next ts ss (key_of.Transaction key) h =
      held_transaction (record old { transactions = transactions; spans = spans }) key
      ∙ both_true (key.tag == old.tag) (is_some (value_at old.transactions key.number))
      (is_some (value_at transactions key.number)) (sym (held_transaction old key) ∙ h) (ts key.number)
  keeps_more old transactions spans next ts ss (key_of.Span key) h =
      held_span (record old { transactions = transactions; spans = spans }) key
      ∙ both_true (key.tag == old.tag) (is_some (value_at old.spans key.number)) (is_some (value_at spans key.number))
      (sym (held_span old key) ∙ h) (ss key.number)

apart_numbers : (tag key_tag key_number other_tag other_number : ℕ) → (key_tag == tag) ≡ true
    → (other_tag == tag) ≡ true → ((other_tag == key_tag) && (other_number == key_number)) ≡ false
    → (other_number == key_number) ≡ false
apart_numbers tag key_tag key_number other_tag other_number own own_other apart =
    let tags : other_tag ≡ key_tag = same_number other_tag tag own_other ∙ sym (same_number key_tag tag own) in
    sym (ap (λ t. (t == key_tag) && (other_number == key_number)) tags ∙ ap (λ b. b && (other_number == key_number))
    (equal_to_itself key_tag)) ∙ apart

-- what is found under a key has the tag of the engine
key_tag : {X : Type 0} (tag : ℕ) (m : List (ℕ × X)) (key_tag_ number : ℕ) (x : X)
    → value_under tag m key_tag_ number ≡ Some x → (key_tag_ == tag) ≡ true
key_tag {X} tag m key_tag_ number x at = by_tag (key_tag_ == tag) (value_at m number) at
  where
    by_tag : (b : Bool) (o : Option X) → (if b then o else None) ≡ Some x → b ≡ true
    by_tag true o h = refl
    by_tag false o h = absurd cc

some_put : {X : Type 0} (m : List (ℕ × X)) (n k : ℕ) (x : X) → is_some (value_at m k) ≡ true
    → is_some (value_at (put m n x) k) ≡ true
some_put m n k x h = ap is_some (found_put m n k x) ∙ by_number (k == n)
  where
    by_number : (b : Bool) → is_some (if b then Some x else value_at m k) ≡ true
    by_number true = refl
    by_number false = h

some_replaced : {X : Type 0} (m : List (ℕ × X)) (n k : ℕ) (x y : X) → value_at m n ≡ Some y → is_some (value_at m k)
    ≡ true → is_some (value_at (replace_at m n x) k) ≡ true
some_replaced m n k x y found h = ap is_some (found_replaced m n k x y found) ∙ by_number (k == n)
  where
    by_number : (b : Bool) → is_some (if b then Some x else value_at m k) ≡ true
    by_number true = refl
    by_number false = h

still_named : (spans new : SpanTable) → ((name : TransactionOrSpanKey) → is_held spans (Some name) ≡ true
    → is_held new (Some name) ≡ true) → (name : Option TransactionOrSpanKey) → is_held spans name ≡ true
    → is_held new name ≡ true
still_named spans new keeps None h = refl
still_named spans new keeps (Some name) h = keeps name h

-- ---- worlds

module _ {P C : Type 0} where
  record HoldsActive (world : World P C) : Type 0 where
    numbers : IsNumbered world
    held : (n : ℕ) (hub : HubState P) → value_at world.hubs n ≡ Some hub → AllLayers (IsActiveHeld (span_table world))
        hub.stack

  held_sending : (label : Label) (sent : List (ClientKey × Envelope)) (world : World P C)
      → IsNumbered (after_sending label sent world) → HoldsActive world → HoldsActive (after_sending label sent world)
  held_sending label [] world n h = h
  held_sending label (first ∷ rest) world n h = record { numbers = n; held = h.held }

  hub_put : (world : World P C) (new : HubState P) → AllLayers (IsActiveHeld (span_table world)) new.stack
      → HoldsActive world
      → (k : ℕ) (hub : HubState P) → value_at (put world.hubs world.next.hub new) k ≡ Some hub
      → AllLayers (IsActiveHeld (span_table world)) hub.stack
  hub_put world new good h k hub at =
      all_by (λ (x : HubState P). AllLayers (IsActiveHeld (span_table world)) x.stack) (k == world.next.hub) new hub
      (value_at world.hubs k) good (λ z zat. h.held k z zat) (sym (found_put world.hubs world.next.hub k new) ∙ at)

  hub_replaced : (world : World P C) (number : ℕ) (old new : HubState P) → value_at world.hubs number ≡ Some old
      → AllLayers (IsActiveHeld (span_table world)) new.stack → HoldsActive world
      → (k : ℕ) (hub : HubState P) → value_at (replace_at world.hubs number new) k ≡ Some hub
      → AllLayers (IsActiveHeld (span_table world)) hub.stack
  hub_replaced world number old new found good h k hub at =
      all_by (λ (x : HubState P). AllLayers (IsActiveHeld (span_table world)) x.stack) (k == number) new hub
      (value_at world.hubs k) good (λ z zat. h.held k z zat) (sym (found_replaced world.hubs number k new old found)
      ∙ at)

  -- the hubs stay, and all that was held is held
  spans_changed : (world new : World P C) → new.hubs ≡ world.hubs → KeepsHeld world new → IsNumbered new
      → HoldsActive world → HoldsActive new
  spans_changed world new same keeps n h = record {
    numbers = n;
    held = λ k hub at. all_map (IsActiveHeld (span_table world)) (IsActiveHeld (span_table new))
        (λ layer held. still_named (span_table world) (span_table new) keeps layer.scope.span held)
        (hub.stack.top ∷ hub.stack.below) (h.held k hub (sym (ap (λ m. value_at m k) same) ∙ at));
  }

  -- what layers name is held where something that none of them names was dropped
  unnamed_layers : (world new : World P C) (dropped : TransactionOrSpanKey)
      → ((name : TransactionOrSpanKey) → is_named dropped (Some name) ≡ false → is_held (span_table world) (Some name)
      ≡ true → is_held (span_table new) (Some name) ≡ true)
      → (layers : List (StackLayer P)) → list_any (λ layer. is_named dropped layer.scope.span) layers ≡ false
      → AllByRecursion (IsActiveHeld (span_table world)) layers → AllByRecursion (IsActiveHeld (span_table new)) layers
  unnamed_layers world new dropped keeps [] none h = tt
  unnamed_layers world new dropped keeps (layer ∷ rest) none h = (
    by_name layer.scope.span (or_parts (is_named dropped layer.scope.span) _ none).0 h.0,
    unnamed_layers world new dropped keeps rest (or_parts (is_named dropped layer.scope.span) _ none).1 h.1,
  )
    where
      by_name : (name : Option TransactionOrSpanKey) → is_named dropped name ≡ false → is_held (span_table world)
          name ≡ true → is_held (span_table new) name ≡ true
      by_name None apart held = refl
      by_name (Some name) apart held = keeps name apart held

  dropped_unnamed : (world new : World P C) (dropped : TransactionOrSpanKey)
      → list_any (λ entry. list_any (λ layer. is_named dropped layer.scope.span)
      (entry.1.stack.top ∷ entry.1.stack.below)) world.hubs ≡ false → new.hubs ≡ world.hubs
      → ((name : TransactionOrSpanKey) → is_named dropped (Some name) ≡ false → is_held (span_table world) (Some name)
      ≡ true → is_held (span_table new) (Some name) ≡ true)
      → IsNumbered new → HoldsActive world → HoldsActive new
  dropped_unnamed world new dropped unnamed same keeps n h = record {
    numbers = n;
    held = λ k hub at.
        let found = sym (ap (λ m. value_at m k) same) ∙ at in
        unnamed_layers world new dropped keeps (hub.stack.top ∷ hub.stack.below)
        (fails_found (λ (x : HubState P). list_any (λ layer. is_named dropped layer.scope.span) (x.stack.top ∷ x.stack.below))
        world.hubs k hub found unnamed) (h.held k hub found);
  }

  spans_kept : (world : World P C) (transactions : List (ℕ × TransactionHistory)) (spans : List (ℕ × SpanRecord))
      → SpanChange world transactions spans
      → IsNumbered (record world { transactions = transactions; spans = spans }) → HoldsActive world
      → HoldsActive (record world { transactions = transactions; spans = spans })
  spans_kept world transactions spans (changes_transaction number old new found traced finished) n h =
      spans_changed world _ refl
      (keeps_more world transactions spans 0 (λ k. some_replaced world.transactions number k new old found)
      (λ k held. held)) n h
  spans_kept world transactions spans (changes_span number old new found of_ traced) n h =
      spans_changed world _ refl (keeps_more world transactions spans 0 (λ k held. held)
      (λ k. some_replaced world.spans number k new old found)) n h
  spans_kept world transactions spans (keeps_span number held state found at) n h =
      spans_changed world _ refl (keeps_more world transactions spans 0
      (λ k. some_replaced world.transactions held.transaction.number k (with_span_finished held.span state) state
      (found_under world.tag world.transactions held.transaction.tag held.transaction.number state at))
      (λ k held. held)) n h
  spans_kept world transactions spans (drops_transaction key state at unnamed spanless) n h =
      dropped_unnamed world _ (key_of.Transaction key) unnamed refl keeps n h
    where
      new : World P C
      new = record world { transactions = without world.transactions key.number }

      keeps : (name : TransactionOrSpanKey) → is_named (key_of.Transaction key) (Some name) ≡ false
          → is_held (span_table world) (Some name) ≡ true → is_held (span_table new) (Some name) ≡ true
      keeps (key_of.Transaction other) apart held =
          let was : ((other.tag == world.tag) && is_some (value_at world.transactions other.number)) ≡ true =
          sym (held_transaction world other) ∙ held in
          let tag = (and_parts (other.tag == world.tag) _ was).0 in
          let number = apart_numbers world.tag key.tag key.number other.tag other.number
          (key_tag world.tag world.transactions key.tag key.number state at) tag apart in
          held_transaction new other
          ∙ (ap (λ o. (other.tag == world.tag) && is_some o)
          (found_without 0 world.next.transaction world.transactions key.number other.number h.numbers.transactions
          ∙ ap (λ b. if b then None else value_at world.transactions other.number) number) ∙ was)
      keeps (key_of.Span other) apart held = held
  spans_kept world transactions spans (drops_span key found_ at unnamed) n h =
      dropped_unnamed world _ (key_of.Span key) unnamed refl keeps n h
    where
      new : World P C
      new = record world { spans = without world.spans key.number }

      keeps : (name : TransactionOrSpanKey) → is_named (key_of.Span key) (Some name) ≡ false
          → is_held (span_table world) (Some name) ≡ true → is_held (span_table new) (Some name) ≡ true
      keeps (key_of.Transaction other) apart held = held
      keeps (key_of.Span other) apart held =
          let was : ((other.tag == world.tag) && is_some (value_at world.spans other.number)) ≡ true =
          sym (held_span world other) ∙ held in
          let tag = (and_parts (other.tag == world.tag) _ was).0 in
          let number = apart_numbers world.tag key.tag key.number other.tag other.number
          (key_tag world.tag world.spans key.tag key.number found_ at) tag apart in
          held_span new other ∙ (ap (λ o. (other.tag == world.tag) && is_some o)
          (found_without 0 world.next.span world.spans key.number other.number h.numbers.spans
          ∙ ap (λ b. if b then None else value_at world.spans other.number) number) ∙ was)

module _ {P C : Type 0} (meanings : C → Meanings) where
  held_by : {given : Option Envelope} {old new : World P C} {some : List (Effect P C)} {sent : List
      (ClientKey × Envelope)} → Change meanings given old some sent new → IsNumbered new → HoldsActive old
      → HoldsActive new
  held_by (makes_hub world client scope held active) n h = record { numbers = n; held = hub_put world _ (active, tt) h }
  held_by (makes_hub_from world maker hub found) n h =
      record { numbers = n; held = hub_put world _ ((h.held maker hub found).0, tt) h }
  held_by (changes_hub world number old new change found fits allowed) n h = record {
    numbers = n;
    held = hub_replaced world number old new found (subst (AllLayers (IsActiveHeld (span_table world))) (sym fits)
        (change_held meanings world change old.stack allowed (h.held number old found))) h;
  }
  held_by (sets_session world number hub session found given) n h =
      record { numbers = n; held = hub_replaced world number hub _ found (h.held number hub found) h }
  held_by (notes_event_id world number old new found same) n h = record {
    numbers = n;
    held = hub_replaced world number old new found (subst (AllLayers (IsActiveHeld (span_table world))) (sym same)
        (h.held number old found)) h;
  }
  held_by (releases_hub world number hub found alone) n h = record {
    numbers = n;
    held = λ k other at. all_without (λ (x : HubState P). AllLayers (IsActiveHeld (span_table world)) x.stack) (k == number)
        other (value_at world.hubs k) (λ z zat. h.held k z zat)
        (sym (found_without 0 world.next.hub world.hubs number k h.numbers.hubs) ∙ at);
  }
  held_by (arrives world key client arrival is_off found open_ came) n h =
      held_sending client.label (send key client (envelopes_on_arrival arrival client)
      (with_client_history world key (after_arrival arrival client))).sent
      (with_client_history world key (after_arrival arrival client)) n
      (record { numbers = client_numbered world key (after_arrival arrival client) h.numbers; held = h.held })
  held_by (accepts world key client arrival kind is_off found open_ came) n h =
      held_sending client.label (send key client (envelopes_on_arrival arrival client)
      (with_client_history world key (after_arrival arrival client))).sent
      (with_client_history world key (after_arrival arrival client)) n
      (record { numbers = client_numbered world key (after_arrival arrival client) h.numbers; held = h.held })
  held_by (starts_transaction world state new_) n h =
      spans_changed world (with_new_transaction state world) refl
      (λ name held. keeps_more world (put world.transactions world.next.transaction state) world.spans 0
      (λ k. some_put world.transactions world.next.transaction k state) (λ k held. held) name held) n h
  held_by (starts_span world parent place held found of_ traced) n h =
      spans_changed world (with_new_span held world) refl (λ name was. keeps_more world world.transactions
      (put world.spans world.next.span held) 0 (λ k held. held) (λ k. some_put world.spans world.next.span k held)
      name was) n h
  held_by (changes_spans world transactions spans change) n h = spans_kept world transactions spans change n h
  held_by _ n h = record { numbers = n; held = h.held }

  held_change : {given : Option Envelope} {old new : World P C} {some : List (Effect P C)} {sent : List
      (ClientKey × Envelope)} → Change meanings given old some sent new → HoldsActive old → HoldsActive new
  held_change c h = held_by c (numbered_change meanings c h.numbers) h

module _ {P C : Type 0} (gives : P → Partial) (meanings : C → Meanings) where
  pub active_spans_held : (tag start : ℕ) (calls : List (Call P C)) (answers : List (Result (Out (Reply P C)) Refusal))
      (last : World P C)
      → Run gives meanings (starting_world tag start) calls answers last → ActiveSpansAreHeld last
  active_spans_held tag start calls answers last run number hub found =
      (kept_by_run gives meanings HoldsActive (λ given old new some sent c. held_change meanings c) calls answers
      (starting_world tag start) last run
      (record { numbers = none_numbered tag start; held = λ n hub at. absurd cc })).held number hub found
