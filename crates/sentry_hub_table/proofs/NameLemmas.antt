-- How many layers name something, after a hub is changed.
use Rattle.std.proofs.Common.{◌≡◌, refl, ap, ◌∙◌, sym, ℕ, ◌+◌, ◌<◌, ◌≤◌, List, [], ◌∷◌, length, take, get_or, length-append, Bool, true, false, arith}
use Rattle.std.specs.Prelude.{Option, Some, None, ◌||◌, nat_lt, count_by, vec_capacity}
use Rattle.std.specs.Option.{is_some}
use Rattle.std.specs.List.{sum_by, list_any}
use Rattle.std.specs.Map.{values_of}
use Rattle.std.specs.Ordering.{nat_cmp}
use Rattle.std.specs.BTreeMap.{is_at}
use Rattle.std.proofs.lemmas.Map.Entries.{sum_by-set_value}
use Rattle.std.proofs.lemmas.List.Sums.{sum_by-cons, sum_by_push, sum_by_more_le, count_by-le-length}
use Rattle.sentry_base.specs.declared.protocol.keys.ClientKey.{ClientKey}
use Rattle.sentry_base.specs.declared.protocol.keys.SessionKey.{SessionKey}
use Rattle.sentry_base.specs.declared.protocol.keys.TransactionOrSpanKey.{TransactionOrSpanKey}
use Rattle.sentry_base.specs.declared.protocol.keys.TransactionOrSpanKey.TheVariants.{Transaction, Span}
use Rattle.sentry_plain.specs.Counts.{one_if}
use Rattle.sentry_plain.specs.Tables.{value_at, replace_at, put, without}
use Rattle.sentry_plain.proofs.NumberLemmas.{positive}
use Rattle.sentry_plain.proofs.CountLemmas.{one_passes}
use Rattle.sentry_plain.proofs.ChangeLemmas.{sum_put, sum_without, sum_without_none, weighs_at_most}
use Rattle.sentry_scope.specs.Stacks.{is_client, is_session, stack_of, stack_of_any, push, pop, depth}
use Rattle.sentry_scope.specs.declared.scope.stack.Stack.{Stack}
use Rattle.sentry_scope.specs.declared.scope.stack.StackLayer.{StackLayer}
use Rattle.sentry_hub_table.specs.Hubs.{is_transaction, is_span}
use Rattle.sentry_hub_table.specs.Tallies.{is_named, tally_at, tally_total, Keeps, Raises, Lowers}
use Rattle.sentry_hub_table.specs.Names.{client_name, session_name, transaction_name, span_name, layers_passing, height, over_hubs, all_layers_passing, all_layers, Counts, LowersBy, HasLayers, HasName}
use Rattle.sentry_hub_table.specs.declared.hub.HubState.{HubState}
use Rattle.sentry_hub_table.specs.declared.tally.Key.{Key}
use Rattle.sentry_hub_table.specs.declared.tally.Tally.{Tally}
use Rattle.sentry_hub_table.proofs.TallyLemmas.{key_itself}

-- ---- the kinds of names

-- the record that is named is that of the key
pub client_is : (key : Key) (client : Option ClientKey)
    → is_named key (client_name client) ≡ is_client (record { tag = key.tag; number = key.number }) client
client_is key None = refl
client_is key (Some named) = refl

pub session_is : (key : Key) (session : Option SessionKey)
    → is_named key (session_name session) ≡ is_session (record { tag = key.tag; number = key.number }) session
session_is key None = refl
session_is key (Some named) = refl

pub transaction_is : (key : Key) (span : Option TransactionOrSpanKey)
    → is_named key (transaction_name span) ≡ is_transaction (record { tag = key.tag; number = key.number }) span
transaction_is key None = refl
transaction_is key (Some (Transaction named)) = refl
transaction_is key (Some (Span named)) = refl

pub span_is : (key : Key) (span : Option TransactionOrSpanKey)
    → is_named key (span_name span) ≡ is_span (record { tag = key.tag; number = key.number }) span
span_is key None = refl
span_is key (Some (Transaction named)) = refl
span_is key (Some (Span named)) = refl

-- ---- sums

one_at_most : (b : Bool) → one_if b ≤ 1
one_at_most true = omega arith
one_at_most false = omega arith

module _ {X : Type 0} where
  -- a sum of less is less
  pub sum_by_at_most : (f g : X → ℕ) → ((x : X) → f x ≤ g x) → (xs : List X) → sum_by f xs ≤ sum_by g xs
  sum_by_at_most f g less [] = omega arith
  sum_by_at_most f g less (x ∷ xs) =
      let here = less x in
      let rest = sum_by_at_most f g less xs in
      let of_f = sum_by-cons f x xs in
      let of_g = sum_by-cons g x xs in
      omega arith

-- one that is named is one
named_one : (key : Key) (name : Option Key) → name ≡ Some key → one_if (is_named key name) ≡ 1
named_one key name is = ap (λ n. one_if (is_named key n)) is ∙ ap one_if (key_itself key)

module _ {P : Type 0} where
  at_most_height : (test : StackLayer P → Bool) (stack : Stack P) → layers_passing test stack ≤ height stack
  at_most_height test stack =
      let top = one_at_most (test stack.top) in
      let below = count_by-le-length test stack.below in
      omega arith

  -- a hub is replaced
  replaced : (weigh : Stack P → ℕ) (hubs : List (ℕ × HubState P)) (number : ℕ) (hub after : HubState P)
      → value_at hubs number ≡ Some hub
      → over_hubs weigh (replace_at hubs number after) + weigh hub.stack ≡ over_hubs weigh hubs + weigh after.stack
  replaced weigh hubs number hub after h =
      sum_by-set_value (λ (h : HubState P). weigh h.stack) (is_at (nat_cmp number)) hubs hub after h

  gone : (weigh : Stack P → ℕ) (hubs : List (ℕ × HubState P)) (number : ℕ) (hub : HubState P) → value_at hubs number ≡ Some hub
      → over_hubs weigh (without hubs number) + weigh hub.stack ≡ over_hubs weigh hubs
  gone weigh hubs number hub h = sum_without (λ (h : HubState P). weigh h.stack) hubs number hub h

  none_gone : (weigh : Stack P → ℕ) (hubs : List (ℕ × HubState P)) (number : ℕ) → value_at hubs number ≡ None
      → over_hubs weigh (without hubs number) ≡ over_hubs weigh hubs
  none_gone weigh hubs number h = sum_without_none (λ (h : HubState P). weigh h.stack) hubs number h

  come : (weigh : Stack P → ℕ) (hubs : List (ℕ × HubState P)) (number : ℕ) (hub : HubState P) → value_at hubs number ≡ None
      → over_hubs weigh (put hubs number hub) ≡ over_hubs weigh hubs + weigh hub.stack
  come weigh hubs number hub h = sum_put (λ (h : HubState P). weigh h.stack) hubs number hub h

  -- a hub is part of all
  part : (weigh : Stack P → ℕ) (hubs : List (ℕ × HubState P)) (number : ℕ) (hub : HubState P) → value_at hubs number ≡ Some hub
      → weigh hub.stack ≤ over_hubs weigh hubs
  part weigh hubs number hub h = weighs_at_most (λ (h : HubState P). weigh h.stack) hubs number hub h

  -- a hub has no more layers than all
  pub height_at_most : (hubs : List (ℕ × HubState P)) (number : ℕ) (hub : HubState P) → value_at hubs number ≡ Some hub
      → height hub.stack ≤ all_layers hubs
  height_at_most hubs number hub h = part height hubs number hub h

  -- a layer that passes no test leaves room
  room_at : (test : StackLayer P → Bool) (hubs : List (ℕ × HubState P)) (number : ℕ) (hub : HubState P) → value_at hubs number ≡ Some hub
      → all_layers_passing test hubs + 1 ≤ all_layers hubs + one_if (test hub.stack.top)
  room_at test hubs number hub h =
      let passing = gone (layers_passing test) hubs number hub h in
      let all = gone height hubs number hub h in
      let others : over_hubs (layers_passing test) (without hubs number) ≤ over_hubs height (without hubs number) =
      sum_by_at_most (λ (h : HubState P). layers_passing test h.stack) (λ (h : HubState P). height h.stack)
      (λ (h : HubState P). at_most_height test h.stack) (values_of (without hubs number)) in
      let below = count_by-le-length test hub.stack.below in
      omega arith

  -- ---- stacks

  passing_pushed : (test : StackLayer P → Bool) (stack : Stack P)
      → layers_passing test (push stack) ≡ layers_passing test stack + one_if (test stack.top)
  passing_pushed test stack =
      let below : count_by test (push stack).below ≡ count_by test stack.below + one_if (test stack.top) =
      sum_by_push (λ (layer : StackLayer P). one_if (test layer)) stack.below stack.top in
      omega arith

  height_pushed : (stack : Stack P) → height (push stack) ≡ height stack + 1
  height_pushed stack = let all = length-append stack.below (stack.top ∷ []) in omega arith

  passing_stack_of : (test : StackLayer P → Bool) (lowest : StackLayer P) (above : List (StackLayer P))
      → layers_passing test (stack_of lowest above) ≡ one_if (test lowest) + count_by test above
  passing_stack_of test lowest [] = refl
  passing_stack_of test lowest (layer ∷ above) =
      let rest = passing_stack_of test layer above in
      let below = sum_by-cons (λ (l : StackLayer P). one_if (test l)) lowest (stack_of layer above).below in
      let all = sum_by-cons (λ (l : StackLayer P). one_if (test l)) layer above in
      omega arith

  height_stack_of : (lowest : StackLayer P) (above : List (StackLayer P)) → height (stack_of lowest above) ≡ 1 + length above
  height_stack_of lowest [] = refl
  height_stack_of lowest (layer ∷ above) = let rest = height_stack_of layer above in omega arith

  popped-at : (test : StackLayer P → Bool) (below : List (StackLayer P)) (otherwise : Stack P) → 0 < length below
      → (layers_passing test (stack_of_any below otherwise) ≡ count_by test below)
      × (height (stack_of_any below otherwise) ≡ length below)
  popped-at test [] otherwise some = absurd (omega arith)
  popped-at test (lowest ∷ above) otherwise some = (
    passing_stack_of test lowest above ∙ sym (sum_by-cons (λ (l : StackLayer P). one_if (test l)) lowest above),
    height_stack_of lowest above ∙ omega arith,
  )

  passing_popped : (test : StackLayer P → Bool) (stack : Stack P) → 0 < depth stack
      → layers_passing test stack ≡ layers_passing test (pop stack) + one_if (test stack.top)
  unfolding pop
  passing_popped test stack some = let rest = (popped-at test stack.below stack some).0 in omega arith

  pub height_popped : (stack : Stack P) → 0 < depth stack → height stack ≡ height (pop stack) + 1
  unfolding pop
  height_popped stack some = let rest = (popped-at (λ _. false) stack.below stack some).1 in omega arith

  -- ---- one kind of names

  module _ (name : StackLayer P → Option Key) where
    -- a layer on top that names a record is counted
    pub has_name : (hubs : List (ℕ × HubState P)) (number : ℕ) (hub : HubState P) → value_at hubs number ≡ Some hub
        → (tally : Tally) → Counts tally name hubs → HasName tally (name hub.stack.top)
    has_name hubs number hub h tally counts key is =
        let here = part (layers_passing (λ layer. is_named key (name layer))) hubs number hub h in
        let one : one_if (is_named key (name hub.stack.top)) ≡ 1 = named_one key (name hub.stack.top) is in
        let each = counts.each key in
        omega arith

    -- once the name of a layer on top is taken away, there is room for another
    pub has_room : (hubs : List (ℕ × HubState P)) (number : ℕ) (hub : HubState P) → value_at hubs number ≡ Some hub
        → (tally lowered : Tally) → Counts tally name hubs → Lowers tally lowered (name hub.stack.top)
        → tally_total lowered < vec_capacity lowered.late
    has_room hubs number hub h tally lowered counts lowers =
        let room = room_at (λ layer. is_some (name layer)) hubs number hub h in
        let capacity = counts.room in
        let total = counts.total in
        let less = lowers.total in
        let same = lowers.room in
        omega arith

    -- a name is replaced by another
    pub renamed : (hubs : List (ℕ × HubState P)) (number : ℕ) (hub after : HubState P) → value_at hubs number ≡ Some hub
        → after.stack.below ≡ hub.stack.below
        → (old lowered raised : Tally) → Counts old name hubs
        → Lowers old lowered (name hub.stack.top) → Raises lowered raised (name after.stack.top)
        → Counts raised name (replace_at hubs number after)
    renamed hubs number hub after h same old lowered raised counts lowers raises = record {
      each = λ key.
          let base = counts.each key in
          let down = lowers.each key in
          let up = raises.each key in
          let sums = replaced (layers_passing (λ layer. is_named key (name layer))) hubs number hub after h in
          let below : count_by (λ layer. is_named key (name layer)) after.stack.below
          ≡ count_by (λ layer. is_named key (name layer)) hub.stack.below = ap (count_by (λ layer. is_named key (name layer))) same in
          omega arith;
      total =
          let base = counts.total in
          let down = lowers.total in
          let up = raises.total in
          let sums = replaced (layers_passing (λ layer. is_some (name layer))) hubs number hub after h in
          let below : count_by (λ layer. is_some (name layer)) after.stack.below
          ≡ count_by (λ layer. is_some (name layer)) hub.stack.below = ap (count_by (λ layer. is_some (name layer))) same in
          omega arith;
      room =
          let base = counts.room in
          let down = lowers.room in
          let up = raises.room in
          let sums = replaced height hubs number hub after h in
          let below : length after.stack.below ≡ length hub.stack.below = ap length same in
          omega arith;
    }

    -- no name is replaced
    pub kept_name : (hubs : List (ℕ × HubState P)) (number : ℕ) (hub after : HubState P) → value_at hubs number ≡ Some hub
        → after.stack.below ≡ hub.stack.below → name after.stack.top ≡ name hub.stack.top
        → (old : Tally) → Counts old name hubs → Counts old name (replace_at hubs number after)
    kept_name hubs number hub after h same top old counts = record {
      each = λ key.
          let base = counts.each key in
          let sums = replaced (layers_passing (λ layer. is_named key (name layer))) hubs number hub after h in
          let here : one_if (is_named key (name after.stack.top)) ≡ one_if (is_named key (name hub.stack.top)) = ap (λ n. one_if (is_named key n)) top in
          let below : count_by (λ layer. is_named key (name layer)) after.stack.below
          ≡ count_by (λ layer. is_named key (name layer)) hub.stack.below = ap (count_by (λ layer. is_named key (name layer))) same in
          omega arith;
      total =
          let base = counts.total in
          let sums = replaced (layers_passing (λ layer. is_some (name layer))) hubs number hub after h in
          let here : one_if (is_some (name after.stack.top)) ≡ one_if (is_some (name hub.stack.top)) = ap (λ (n : Option Key). one_if (is_some n)) top in
          let below : count_by (λ layer. is_some (name layer)) after.stack.below
          ≡ count_by (λ layer. is_some (name layer)) hub.stack.below = ap (count_by (λ layer. is_some (name layer))) same in
          omega arith;
      room =
          let base = counts.room in
          let sums = replaced height hubs number hub after h in
          let below : length after.stack.below ≡ length hub.stack.below = ap length same in
          omega arith;
    }

    -- there is more room
    pub kept_counts : (hubs : List (ℕ × HubState P)) (old new : Tally) → Counts old name hubs → Keeps old new → Counts new name hubs
    kept_counts hubs old new counts keeps = record {
      each = λ key. keeps.each key ∙ counts.each key;
      total = keeps.total ∙ counts.total;
      room = let base = counts.room in let more = keeps.room in omega arith;
    }

    -- with room for one more layer than there are, there is room for one more name
    pub has_room_for : (hubs : List (ℕ × HubState P)) (tally : Tally) → Counts tally name hubs → all_layers hubs + 1 ≤ vec_capacity tally.late
        → tally_total tally < vec_capacity tally.late
    has_room_for hubs tally counts room =
        let total = counts.total in
        let most : all_layers_passing (λ layer. is_some (name layer)) hubs ≤ all_layers hubs =
        sum_by_at_most (λ (h : HubState P). layers_passing (λ layer. is_some (name layer)) h.stack) (λ (h : HubState P). height h.stack)
        (λ (h : HubState P). at_most_height (λ layer. is_some (name layer)) h.stack) (values_of hubs) in
        omega arith

    -- a layer comes
    pub grown : (hubs : List (ℕ × HubState P)) (number : ℕ) (hub after : HubState P) → value_at hubs number ≡ Some hub
        → after.stack ≡ push hub.stack
        → (old new : Tally) → Counts old name hubs → all_layers hubs + 1 ≤ vec_capacity old.late → Raises old new (name hub.stack.top)
        → Counts new name (replace_at hubs number after)
    grown hubs number hub after h pushed old new counts room raises = record {
      each = λ key.
          let base = counts.each key in
          let up = raises.each key in
          let sums = replaced (layers_passing (λ layer. is_named key (name layer))) hubs number hub after h in
          let more = ap (layers_passing (λ layer. is_named key (name layer))) pushed ∙ passing_pushed (λ layer. is_named key (name layer)) hub.stack in
          omega arith;
      total =
          let base = counts.total in
          let up = raises.total in
          let sums = replaced (layers_passing (λ layer. is_some (name layer))) hubs number hub after h in
          let more = ap (layers_passing (λ layer. is_some (name layer))) pushed ∙ passing_pushed (λ layer. is_some (name layer)) hub.stack in
          omega arith;
      room =
          let up = raises.room in
          let sums = replaced height hubs number hub after h in
          let more = ap height pushed ∙ height_pushed hub.stack in
          omega arith;
    }

    -- a layer goes
    pub shrunk : (hubs : List (ℕ × HubState P)) (number : ℕ) (hub after : HubState P) → value_at hubs number ≡ Some hub
        → 0 < depth hub.stack → after.stack ≡ pop hub.stack
        → (old new : Tally) → Counts old name hubs → Lowers old new (name hub.stack.top)
        → Counts new name (replace_at hubs number after)
    shrunk hubs number hub after h some popped old new counts lowers = record {
      each = λ key.
          let base = counts.each key in
          let down = lowers.each key in
          let sums = replaced (layers_passing (λ layer. is_named key (name layer))) hubs number hub after h in
          let same = ap (layers_passing (λ layer. is_named key (name layer))) popped in
          let less = passing_popped (λ layer. is_named key (name layer)) hub.stack some in
          omega arith;
      total =
          let base = counts.total in
          let down = lowers.total in
          let sums = replaced (layers_passing (λ layer. is_some (name layer))) hubs number hub after h in
          let same = ap (layers_passing (λ layer. is_some (name layer))) popped in
          let less = passing_popped (λ layer. is_some (name layer)) hub.stack some in
          omega arith;
      room =
          let base = counts.room in
          let down = lowers.room in
          let sums = replaced height hubs number hub after h in
          let same = ap height popped in
          let less = height_popped hub.stack some in
          omega arith;
    }

    -- a hub of one layer comes
    pub with_hub : (hubs : List (ℕ × HubState P)) (number : ℕ) (hub : HubState P) → value_at hubs number ≡ None → length hub.stack.below ≡ 0
        → (old new : Tally) → Counts old name hubs → all_layers hubs + 1 ≤ vec_capacity old.late → Raises old new (name hub.stack.top)
        → Counts new name (put hubs number hub)
    with_hub hubs number hub h one old new counts room raises = record {
      each = λ key.
          let base = counts.each key in
          let up = raises.each key in
          let sums = come (layers_passing (λ layer. is_named key (name layer))) hubs number hub h in
          let below = count_by-le-length (λ layer. is_named key (name layer)) hub.stack.below in
          omega arith;
      total =
          let base = counts.total in
          let up = raises.total in
          let sums = come (layers_passing (λ layer. is_some (name layer))) hubs number hub h in
          let below = count_by-le-length (λ layer. is_some (name layer)) hub.stack.below in
          omega arith;
      room =
          let up = raises.room in
          let sums = come height hubs number hub h in
          omega arith;
    }

    -- the layers below the top of a hub are counted, once the top is not
    pub has_layers : (hubs : List (ℕ × HubState P)) (number : ℕ) (hub : HubState P) → value_at hubs number ≡ Some hub
        → (old lowered : Tally) → Counts old name hubs → Lowers old lowered (name hub.stack.top) → HasLayers lowered name hub.stack.below
    has_layers hubs number hub h old lowered counts lowers key =
        let here = part (layers_passing (λ layer. is_named key (name layer))) hubs number hub h in
        let each = counts.each key in
        let down = lowers.each key in
        omega arith

    -- a hub goes
    pub without_hub : (hubs : List (ℕ × HubState P)) (number : ℕ) (hub : HubState P) → value_at hubs number ≡ Some hub
        → (old lowered new : Tally) → Counts old name hubs
        → Lowers old lowered (name hub.stack.top) → LowersBy lowered new name hub.stack.below
        → Counts new name (without hubs number)
    without_hub hubs number hub h old lowered new counts lowers below = record {
      each = λ key.
          let base = counts.each key in
          let down = lowers.each key in
          let further = below.each key in
          let sums = gone (layers_passing (λ layer. is_named key (name layer))) hubs number hub h in
          omega arith;
      total =
          let base = counts.total in
          let down = lowers.total in
          let further = below.total in
          let sums = gone (layers_passing (λ layer. is_some (name layer))) hubs number hub h in
          omega arith;
      room =
          let base = counts.room in
          let down = lowers.room in
          let further = below.room in
          let sums = gone height hubs number hub h in
          omega arith;
    }

    -- nothing goes where nothing stands
    pub without_none : (hubs : List (ℕ × HubState P)) (number : ℕ) → value_at hubs number ≡ None
        → (old : Tally) → Counts old name hubs → Counts old name (without hubs number)
    without_none hubs number h old counts = record {
      each = λ key. counts.each key ∙ sym (none_gone (layers_passing (λ layer. is_named key (name layer))) hubs number h);
      total = counts.total ∙ sym (none_gone (layers_passing (λ layer. is_some (name layer))) hubs number h);
      room =
          let base = counts.room in
          let sums = none_gone height hubs number h in
          omega arith;
    }

    -- the layer at an index is counted still, once those before it are not
    pub has_name_left : (layers : List (StackLayer P)) (i : ℕ) (layer : StackLayer P) → i < length layers → get_or layers i layer ≡ layer
        → (old now : Tally) → HasLayers old name layers → LowersBy old now name (take i layers) → HasName now (name layer)
    has_name_left layers i layer inside at old now has lowers key is =
        let all = has key in
        let so_far = lowers.each key in
        let next = sum_by_more_le (λ (l : StackLayer P). one_if (is_named key (name l))) layers i layer inside in
        let here : one_if (is_named key (name (get_or layers i layer))) ≡ 1 =
        ap (λ (l : StackLayer P). one_if (is_named key (name l))) at ∙ named_one key (name layer) is in
        omega arith

  -- ---- all layers

  -- a layer comes, or goes
  pub layers_replaced : (hubs : List (ℕ × HubState P)) (number : ℕ) (hub after : HubState P) → value_at hubs number ≡ Some hub
      → all_layers (replace_at hubs number after) + height hub.stack ≡ all_layers hubs + height after.stack
  layers_replaced hubs number hub after h = replaced height hubs number hub after h

  pub layers_pushed : (hubs : List (ℕ × HubState P)) (number : ℕ) (hub after : HubState P) → value_at hubs number ≡ Some hub
      → after.stack ≡ push hub.stack → all_layers (replace_at hubs number after) ≡ all_layers hubs + 1
  layers_pushed hubs number hub after h pushed =
      let sums = replaced height hubs number hub after h in
      let more = ap height pushed ∙ height_pushed hub.stack in omega arith

  pub layers_popped : (hubs : List (ℕ × HubState P)) (number : ℕ) (hub after : HubState P) → value_at hubs number ≡ Some hub
      → 0 < depth hub.stack → after.stack ≡ pop hub.stack → all_layers (replace_at hubs number after) + 1 ≡ all_layers hubs
  layers_popped hubs number hub after h some popped =
      let sums = replaced height hubs number hub after h in
      let same = ap height popped in
      let less = height_popped hub.stack some in omega arith

  pub layers_kept : (hubs : List (ℕ × HubState P)) (number : ℕ) (hub after : HubState P) → value_at hubs number ≡ Some hub
      → after.stack.below ≡ hub.stack.below → all_layers (replace_at hubs number after) ≡ all_layers hubs
  layers_kept hubs number hub after h same =
      let sums = replaced height hubs number hub after h in
      let below : length after.stack.below ≡ length hub.stack.below = ap length same in omega arith

  pub layers_come : (hubs : List (ℕ × HubState P)) (number : ℕ) (hub : HubState P) → value_at hubs number ≡ None → length hub.stack.below ≡ 0
      → all_layers (put hubs number hub) ≡ all_layers hubs + 1
  layers_come hubs number hub h one = let sums = come height hubs number hub h in omega arith

  pub layers_gone : (hubs : List (ℕ × HubState P)) (number : ℕ) (hub : HubState P) → value_at hubs number ≡ Some hub
      → all_layers (without hubs number) + height hub.stack ≡ all_layers hubs
  layers_gone hubs number hub h = gone height hubs number hub h

  pub no_layers_gone : (hubs : List (ℕ × HubState P)) (number : ℕ) → value_at hubs number ≡ None
      → all_layers (without hubs number) ≡ all_layers hubs
  no_layers_gone hubs number h = none_gone height hubs number h

  -- ---- whether something is named at all

  any_passes : (test : StackLayer P → Bool) (layers : List (StackLayer P)) → nat_lt 0 (count_by test layers) ≡ list_any test layers
  any_passes test [] = refl
  any_passes test (layer ∷ layers) =
      ap (nat_lt 0) (sum_by-cons (λ (l : StackLayer P). one_if (test l)) layer layers)
      ∙ (positive (one_if (test layer)) (count_by test layers)
      ∙ (λ i. one_passes (test layer) i || any_passes test layers i))

  any_in_stack : (test : StackLayer P → Bool) (stack : Stack P) → nat_lt 0 (layers_passing test stack) ≡ list_any test (stack.top ∷ stack.below)
  any_in_stack test stack =
      positive (one_if (test stack.top)) (count_by test stack.below) ∙ (λ i. one_passes (test stack.top) i || any_passes test stack.below i)

  any_in_hubs : (test : StackLayer P → Bool) (hubs : List (ℕ × HubState P))
      → nat_lt 0 (all_layers_passing test hubs) ≡ list_any (λ (entry : ℕ × HubState P). list_any test (entry.1.stack.top ∷ entry.1.stack.below)) hubs
  any_in_hubs test [] = refl
  any_in_hubs test (e ∷ es) =
      ap (nat_lt 0) (sum_by-cons (λ (h : HubState P). layers_passing test h.stack) e.1 (values_of es))
      ∙ (positive (layers_passing test e.1.stack) (all_layers_passing test es)
      ∙ (λ i. any_in_stack test e.1.stack i || any_in_hubs test es i))

  -- a number above 0 says that a layer of a hub passes the test
  pub counts_any : (name : StackLayer P → Option Key) (test : StackLayer P → Bool) (key : Key) → ((layer : StackLayer P) → is_named key (name layer) ≡ test layer)
      → (hubs : List (ℕ × HubState P)) (tally : Tally) → Counts tally name hubs
      → nat_lt 0 (tally_at tally key) ≡ list_any (λ (entry : ℕ × HubState P). list_any test (entry.1.stack.top ∷ entry.1.stack.below)) hubs
  counts_any name test key same hubs tally counts =
      ap (nat_lt 0) (counts.each key)
      ∙ (ap (λ (t : StackLayer P → Bool). nat_lt 0 (all_layers_passing t hubs)) (λ i layer. same layer i)
      ∙ any_in_hubs test hubs)
