-- Spans have the trace ids of their transactions.
use Rattle.std.proofs.Common.{◌≡◌, refl, ap, ◌∙◌, sym, subst, ℕ, zero, suc, List, [], ◌∷◌, ◌++◌, Bool, true, false, arith, take}
use Rattle.std.specs.Prelude.{Option, Some, None, Result, ◌==◌, ◌&&◌, is_some, if◌then◌else◌}
use Rattle.std.specs.List.{AllByRecursion}
use Rattle.std.specs.BTreeMap.{is_at}
use Rattle.std.specs.Option.{option_map}
use Rattle.std.specs.Ordering.{nat_cmp}
use Rattle.sentry_plain.specs.Tables.{value_at, replace_at}
use Rattle.sentry_plain.proofs.NumberLemmas.{same_number, equal_to_itself}
use Rattle.sentry_base.specs.Callbacks.{Partial}
use Rattle.sentry_base.specs.declared.protocol.envelope.Envelope.{Envelope}
use Rattle.sentry_base.specs.declared.protocol.ids.TraceId.{TraceId}
use Rattle.sentry_base.specs.declared.protocol.keys.ClientKey.{ClientKey}
use Rattle.sentry_base.specs.declared.protocol.keys.Label.{Label}
use Rattle.sentry_base.specs.declared.protocol.keys.TransactionKey.{TransactionKey}
use Rattle.sentry_base.specs.declared.protocol.keys.TransactionOrSpanKey.{TransactionOrSpanKey}
use Rattle.sentry_base.specs.declared.protocol.keys.TransactionOrSpanKey.TheVariants as key_of
use Rattle.sentry_base.specs.declared.protocol.refusal.Refusal.{Refusal}
use Rattle.sentry_base.specs.declared.protocol.span.Span.{Span}
use Rattle.sentry_options.specs.Meanings.{Meanings}
use Rattle.sentry_sending.specs.Sending.{send, after_sending}
use Rattle.sentry_span_table.specs.SpanLists.{TransactionHistory, stored_transaction, with_span_finished, kept_spans, spans_left}
use Rattle.sentry_span_table.specs.SpanTables.{place_in, place_of_transaction, place_of_span, is_same_transaction}
use Rattle.sentry_span_table.specs.declared.table.records.SpanPlace.{SpanPlace}
use Rattle.sentry_span_table.specs.declared.table.records.SpanRecord.{SpanRecord}
use Rattle.sentry_span_table.specs.declared.table.records.TracingState.{TracingState}
use Rattle.sentry_span_table.specs.declared.table.records.TracingState.TheVariants.{Enabled, Disabled}
use Rattle.sentry_span_table.specs.declared.table.records.TransactionRecord.{TransactionRecord}
use Rattle.sentry_span_table.specs.declared.table.records.Unfinished.{Unfinished}
use Rattle.sentry_state.specs.declared.state.Out.{Out}
use Rattle.sentry_state.specs.Changes.{with_client_history}
use Rattle.sentry_state.specs.Outcomes.{transaction_at, span_at}
use Rattle.sentry_state.specs.SpanChanges.{with_new_transaction, with_new_span}
use Rattle.sentry_state.specs.Worlds.{World, map_values, span_table, starting_world}
use Rattle.sentry_calls.specs.Runs.{Run}
use Rattle.sentry_calls.specs.declared.call.Call.{Call}
use Rattle.sentry_calls.specs.declared.call.Reply.{Reply}
use Rattle.sentry_laws.proofs.Effects.{Effect}
use Rattle.sentry_laws.proofs.Changes.{Change, SpanChange, changes_transaction, changes_span, keeps_span, drops_transaction, drops_span, after_arrival, envelopes_on_arrival, arrives, accepts, starts_transaction, starts_span, changes_spans}
use Rattle.sentry_laws.specs.Traces.{KeptSpansAreInTrace, HeldSpansAreInTrace}
use Rattle.sentry_laws.proofs.Found.{found_put, found_replaced, found_without, all_by, all_without}
use Rattle.sentry_laws.proofs.Keeping.{kept_by_run}
use Rattle.sentry_laws.proofs.Numbered.{IsNumbered, client_numbered, numbered_change, none_numbered}
use Rattle.sentry_laws.proofs.Numbers.{free_from}
use Rattle.sentry_laws.proofs.Tests.{fails_found}
use Rattle.sentry_laws.proofs.Trails.{found_under}

-- ---- lists of spans

-- all these spans have the trace id
abbrev pub AreIn : TraceId → List Span → Type 0
AreIn trace_id spans = AllByRecursion (λ (span : Span). span.trace_id ≡ trace_id) spans

in_taken : (trace_id : TraceId) (n : ℕ) (spans : List Span) → AreIn trace_id spans → AreIn trace_id (take n spans)
in_taken trace_id zero spans h = tt
in_taken trace_id (suc n) [] h = tt
in_taken trace_id (suc n) (first ∷ rest) h = (h.0, in_taken trace_id n rest h.1)

pub in_kept : (trace_id : TraceId) (tracing : TracingState) (n : ℕ) (spans : List Span) → AreIn trace_id spans
    → AreIn trace_id (kept_spans tracing n spans)
in_kept trace_id (Enabled sampled rate) n spans h = in_taken trace_id n spans h
in_kept trace_id (Disabled decision) n spans h = tt

in_left : (trace_id : TraceId) (unfinished : Option Unfinished) (spans : List Span) → AreIn trace_id spans
    → AreIn trace_id (spans_left unfinished spans)
in_left trace_id None spans h = tt
in_left trace_id (Some unfinished) spans h = h

in_more : (trace_id : TraceId) (spans : List Span) (span : Span) → AreIn trace_id spans → span.trace_id ≡ trace_id
    → AreIn trace_id (spans ++ span ∷ [])
in_more trace_id [] span h k = (k, tt)
in_more trace_id (first ∷ rest) span h k = (h.0, in_more trace_id rest span h.1 k)

-- ---- tables of plain values

mapped-if : {X Y : Type 0} (f : X → Y) (b : Bool) (x : X) (o : Option X) (p : Option Y) → p ≡ option_map f o
    → (if b then Some (f x) else p) ≡ option_map f (if b then Some x else o)
mapped-if f true x o p h = refl
mapped-if f false x o p h = h

pub value_mapped : {X Y : Type 0} (f : X → Y) (m : List (ℕ × X)) (n : ℕ) → value_at (map_values f m) n ≡ option_map f
    (value_at m n)
value_mapped f [] n = refl
value_mapped f (e ∷ es) n = mapped-if f (is_at (nat_cmp n) e.0) e.1 (value_at es n) (value_at (map_values f es) n)
    (value_mapped f es n)

-- what is known of a value that is there
mapped_there : {X Y : Type 0} (f : X → Y) (o : Option X) (y : Y) → option_map f o ≡ Some y → (x : X) × (o ≡ Some x)
    × (f x ≡ y)
mapped_there f None y e = absurd cc
mapped_there f (Some x) y e = (x, refl, cc)

-- ---- one change

finished_context : (span : Span) (state : TransactionHistory) → (with_span_finished span state).context ≡ state.context
finished_context span state = by_open (is_some state.unfinished)
  where
    by_open : (b : Bool) → (if b then record state { finished = state.finished ++ span ∷ [] } else state).context
        ≡ state.context
    by_open true = refl
    by_open false = refl

in_finished : (trace_id : TraceId) (span : Span) (state : TransactionHistory) → AreIn trace_id state.finished
    → span.trace_id ≡ trace_id → AreIn trace_id (with_span_finished span state).finished
in_finished trace_id span state h k = by_open (is_some state.unfinished)
  where
    by_open : (b : Bool) → AreIn trace_id
        (if b then record state { finished = state.finished ++ span ∷ [] } else state).finished
    by_open true = in_more trace_id state.finished span h k
    by_open false = h

module _ {P C : Type 0} where
  -- the transaction of the span is held, and has its trace id
  abbrev pub Belongs : World P C → SpanRecord → Type 0
  Belongs world held = (state : TransactionHistory) × (transaction_at world held.transaction ≡ Some state)
      × (held.span.trace_id ≡ state.context.trace_id)

  pub record IsTraced (world : World P C) : Type 0 where
    pub numbers : IsNumbered world
    pub kept : (n : ℕ) (state : TransactionHistory) → value_at world.transactions n ≡ Some state
        → AreIn state.context.trace_id state.finished
    pub held : (n : ℕ) (held : SpanRecord) → value_at world.spans n ≡ Some held → Belongs world held

  traced_sending : (label : Label) (sent : List (ClientKey × Envelope)) (world : World P C)
      → IsNumbered (after_sending label sent world) → IsTraced world → IsTraced (after_sending label sent world)
  traced_sending label [] world n t = t
  traced_sending label (first ∷ rest) world n t = record { numbers = n; kept = t.kept; held = t.held }

  own_tag : (world : World P C) (key : TransactionKey) (state : TransactionHistory)
      → transaction_at world key ≡ Some state → (key.tag == world.tag) ≡ true
  own_tag world key state at = by_tag (key.tag == world.tag) at
    where
      by_tag : (b : Bool) → (if b then value_at world.transactions key.number else None) ≡ Some state → b ≡ true
      by_tag true h = refl
      by_tag false h = absurd cc

  -- a transaction that is found where its table changed
  found_after : (world : World P C) (key : TransactionKey) (state other : TransactionHistory)
      (transactions : List (ℕ × TransactionHistory)) → transaction_at world key ≡ Some state
      → value_at transactions key.number ≡ Some other
      → (if key.tag == world.tag then value_at transactions key.number else None) ≡ Some other
  found_after world key state other transactions at there =
      ap (λ b. if b then value_at transactions key.number else None) (own_tag world key state at) ∙ there

  -- a transaction after one changed that keeps its trace id
  after_changed : (world : World P C) (number : ℕ) (old new : TransactionHistory) (key : TransactionKey)
      (state : TransactionHistory) → value_at world.transactions number ≡ Some old
      → new.context.trace_id ≡ old.context.trace_id → transaction_at world key ≡ Some state
      → (other : TransactionHistory)
      × ((if key.tag == world.tag then value_at (replace_at world.transactions number new) key.number else None)
      ≡ Some other) × (other.context.trace_id ≡ state.context.trace_id)
  after_changed world number old new key state found traced at = by_number (key.number == number) refl
    where
      here : value_at world.transactions key.number ≡ Some state
      here = found_under world.tag world.transactions key.tag key.number state at

      by_number : (b : Bool) → (key.number == number) ≡ b
          → (other : TransactionHistory)
          × ((if key.tag == world.tag then value_at (replace_at world.transactions number new) key.number else None)
          ≡ Some other) × (other.context.trace_id ≡ state.context.trace_id)
      by_number true e =
          let both_ : Some old ≡ Some state =
          sym found ∙ (ap (value_at world.transactions) (sym (same_number key.number number e)) ∙ here) in
          let same : old ≡ state = cc in (
            new,
            found_after world key state new _ at (found_replaced world.transactions number key.number new old found
                ∙ ap (λ b. if b then Some new else value_at world.transactions key.number) e),
            traced ∙ ap (λ (s : TransactionHistory). s.context.trace_id) same,
          )
      by_number false e = (
        state,
        found_after world key state state _ at
            (found_replaced world.transactions number key.number new old found
            ∙ (ap (λ b. if b then Some new else value_at world.transactions key.number) e ∙ here)),
        refl,
      )

  changed_traced : (world : World P C) (number : ℕ) (old new : TransactionHistory) → value_at world.transactions number
      ≡ Some old → new.context.trace_id ≡ old.context.trace_id
      → AreIn new.context.trace_id new.finished
      → IsNumbered (record world { transactions = replace_at world.transactions number new }) → IsTraced world
      → IsTraced (record world { transactions = replace_at world.transactions number new })
  changed_traced world number old new found traced kept numbers t = record {
    numbers = numbers;
    kept = λ k state at. all_by (λ (s : TransactionHistory). AreIn s.context.trace_id s.finished) (k == number) new state
        (value_at world.transactions k) kept (λ z zat. t.kept k z zat)
        (sym (found_replaced world.transactions number k new old found) ∙ at);
    held = λ k held at.
        let b = t.held k held at in
        let after = after_changed world number old new held.transaction b.0 found traced b.1 in
        (after.0, after.1, b.2 ∙ sym after.2);
  }

  other_number : (world : World P C) (key other : TransactionKey) → (key.tag == world.tag) ≡ true
      → (other.tag == world.tag) ≡ true → is_same_transaction key other ≡ false → (other.number == key.number) ≡ false
  other_number world key other own own_other apart =
      let tags : other.tag ≡ key.tag = same_number other.tag world.tag own_other
      ∙ sym (same_number key.tag world.tag own) in
      sym (ap (λ t. (t == key.tag) && (other.number == key.number)) tags ∙ ap (λ b. b && (other.number == key.number))
      (equal_to_itself key.tag)) ∙ apart

  traced_spans : (world : World P C) (transactions : List (ℕ × TransactionHistory)) (spans : List (ℕ × SpanRecord))
      → SpanChange world transactions spans
      → IsNumbered (record world { transactions = transactions; spans = spans }) → IsTraced world
      → IsTraced (record world { transactions = transactions; spans = spans })
  traced_spans world transactions spans (changes_transaction number old new found traced finished) n t =
      changed_traced world number old new found traced (subst (λ id. AreIn id new.finished) (sym traced)
      (subst (AreIn old.context.trace_id) (sym finished) (t.kept number old found))) n t
  traced_spans world transactions spans (changes_span number old new found of_ traced) n t = record {
    numbers = n;
    kept = t.kept;
    held = λ k held at. all_by (Belongs world) (k == number) new held (value_at world.spans k)
        (let b = t.held number old found in (b.0, ap (transaction_at world) of_ ∙ b.1, traced ∙ b.2))
        (λ z zat. t.held k z zat) (sym (found_replaced world.spans number k new old found) ∙ at);
  }
  traced_spans world transactions spans (keeps_span number held state found at) n t =
      let here = found_under world.tag world.transactions held.transaction.tag held.transaction.number state at in
      let b = t.held number held found in
      let both_ : Some b.0 ≡ Some state = sym b.1 ∙ at in
      let same : b.0 ≡ state = cc in
      let traced : held.span.trace_id ≡ state.context.trace_id = b.2 ∙ ap (λ (s : TransactionHistory). s.context.trace_id)
      same in
      let context : (with_span_finished held.span state).context.trace_id ≡ state.context.trace_id =
      ap (λ c. c.trace_id) (finished_context held.span state) in
      changed_traced world held.transaction.number state (with_span_finished held.span state) here context
      (subst (λ id. AreIn id (with_span_finished held.span state).finished) (sym context)
      (in_finished state.context.trace_id held.span state (t.kept held.transaction.number state here) traced)) n t
  traced_spans world transactions spans (drops_transaction key state at unnamed spanless) n t = record {
    numbers = n;
    kept = λ k other found. all_without (λ (s : TransactionHistory). AreIn s.context.trace_id s.finished)
        (k == key.number) other (value_at world.transactions k) (λ z zat. t.kept k z zat)
        (sym (found_without 0 world.next.transaction world.transactions key.number k t.numbers.transactions) ∙ found);
    held = λ k held found.
        let b = t.held k held found in
        let apart : (held.transaction.number == key.number) ≡ false =
        other_number world key held.transaction (own_tag world key state at) (own_tag world held.transaction b.0 b.1)
        (fails_found (λ (h : SpanRecord). is_same_transaction key h.transaction) world.spans k held found spanless) in (
          b.0,
          found_after world held.transaction b.0 b.0 _ b.1
              (found_without 0 world.next.transaction world.transactions key.number held.transaction.number t.numbers.transactions
              ∙ (ap (λ b. if b then None else value_at world.transactions held.transaction.number) apart
              ∙ found_under world.tag world.transactions held.transaction.tag held.transaction.number b.0 b.1)),
          b.2,
        );
  }
  traced_spans world transactions spans (drops_span key held at unnamed) n t = record {
    numbers = n;
    kept = t.kept;
    held = λ k other found. all_without (Belongs world) (k == key.number) other (value_at world.spans k)
        (λ z zat. t.held k z zat)
        (sym (found_without 0 world.next.span world.spans key.number k t.numbers.spans) ∙ found);
  }

  started_traced : (world : World P C) (state : TransactionHistory) → state.finished ≡ []
      → IsNumbered (with_new_transaction state world) → IsTraced world → IsTraced (with_new_transaction state world)
  started_traced world state new_ n t = record {
    numbers = n;
    kept = λ k other at. all_by (λ (s : TransactionHistory). AreIn s.context.trace_id s.finished)
        (k == world.next.transaction) state other (value_at world.transactions k)
        (subst (AreIn state.context.trace_id) (sym new_) tt) (λ z zat. t.kept k z zat)
        (sym (found_put world.transactions world.next.transaction k state) ∙ at);
    held = λ k held at.
        let b = t.held k held at in
        let here = found_under world.tag world.transactions held.transaction.tag held.transaction.number b.0 b.1 in (
          b.0,
          found_after world held.transaction b.0 b.0 _ b.1
              (found_put world.transactions world.next.transaction held.transaction.number state
              ∙ (ap (λ b. if b then Some state else value_at world.transactions held.transaction.number)
              (old_number held.transaction.number b.0 here) ∙ here)),
          b.2,
        );
  }
    where
      old_number : (number : ℕ) (other : TransactionHistory) → value_at world.transactions number ≡ Some other
          → (number == world.next.transaction) ≡ false
      old_number number other here = by_number (number == world.next.transaction) refl
        where
          by_number : (b : Bool) → (number == world.next.transaction) ≡ b → b ≡ false
          by_number true e =
              let none : value_at world.transactions world.next.transaction ≡ None =
              free_from world.next.transaction world.transactions t.numbers.transactions world.next.transaction
              (omega arith) in
              let there : value_at world.transactions world.next.transaction ≡ Some other =
              ap (value_at world.transactions) (sym (same_number number world.next.transaction e)) ∙ here in
              absurd cc
          by_number false e = refl

  -- what starts at a place belongs to the transaction there
  at_place : (world : World P C) (parent : TransactionOrSpanKey) (place : SpanPlace) → IsTraced world
      → place_in (span_table world) parent ≡ Some place
      → (state : TransactionHistory) × (transaction_at world place.transaction ≡ Some state)
      × (place.trace_id ≡ state.context.trace_id)
  at_place world (key_of.Transaction key) place t found = by_tag (key.tag == world.tag) refl found
    where
      by_tag : (b : Bool) → (key.tag == world.tag) ≡ b → option_map (place_of_transaction key)
          (if b then value_at (map_values stored_transaction world.transactions) key.number else None) ≡ Some place
          → (state : TransactionHistory) × (transaction_at world place.transaction ≡ Some state)
          × (place.trace_id ≡ state.context.trace_id)
      by_tag false e h = absurd cc
      by_tag true e h =
          let held = mapped_there (place_of_transaction key) (value_at (map_values stored_transaction world.transactions)
          key.number) place h in
          let state = mapped_there stored_transaction (value_at world.transactions key.number) held.0
          (sym (value_mapped stored_transaction world.transactions key.number) ∙ held.1) in
          let place_is : place_of_transaction key held.0 ≡ place = held.2 in (
            state.0,
            ap (transaction_at world) (ap (λ (p : SpanPlace). p.transaction) (sym place_is))
                ∙ (ap (λ b. if b then value_at world.transactions key.number else None) e ∙ state.1),
            ap (λ (p : SpanPlace). p.trace_id) (sym place_is) ∙ ap (λ (h : TransactionRecord). h.context.trace_id)
                (sym state.2),
          )
  at_place world (key_of.Span key) place t found =
      let held = mapped_there place_of_span (span_at world key) place found in
      let b = t.held key.number held.0 (found_under world.tag world.spans key.tag key.number held.0 held.1) in (
        b.0,
        ap (transaction_at world) (ap (λ (p : SpanPlace). p.transaction) (sym held.2))
            ∙ b.1,
        ap (λ (p : SpanPlace). p.trace_id) (sym held.2) ∙ b.2,
      )

  span_traced : (world : World P C) (parent : TransactionOrSpanKey) (place : SpanPlace) (new : SpanRecord)
      → place_in (span_table world) parent ≡ Some place → new.transaction ≡ place.transaction
      → new.span.trace_id ≡ place.trace_id
      → IsNumbered (with_new_span new world) → IsTraced world → IsTraced (with_new_span new world)
  span_traced world parent place new found of_ traced n t = record {
    numbers = n;
    kept = t.kept;
    held = λ k held at. all_by (Belongs world) (k == world.next.span) new held (value_at world.spans k)
        (let p = at_place world parent place t found in (p.0, ap (transaction_at world) of_ ∙ p.1, traced ∙ p.2))
        (λ z zat. t.held k z zat) (sym (found_put world.spans world.next.span k new) ∙ at);
  }

module _ {P C : Type 0} (meanings : C → Meanings) where
  traced_by : {given : Option Envelope} {old new : World P C} {some : List (Effect P C)} {sent : List
      (ClientKey × Envelope)} → Change meanings given old some sent new → IsNumbered new → IsTraced old → IsTraced new
  traced_by (arrives world key client arrival is_off found open_ came) n t =
      traced_sending client.label (send key client (envelopes_on_arrival arrival client)
      (with_client_history world key (after_arrival arrival client))).sent
      (with_client_history world key (after_arrival arrival client)) n
      (record {
        numbers = client_numbered world key (after_arrival arrival client) t.numbers;
        kept = t.kept;
        held =
            t.held;
      })
  traced_by (accepts world key client arrival kind is_off found open_ came) n t =
      traced_sending client.label (send key client (envelopes_on_arrival arrival client)
      (with_client_history world key (after_arrival arrival client))).sent
      (with_client_history world key (after_arrival arrival client)) n
      (record {
        numbers = client_numbered world key (after_arrival arrival client) t.numbers;
        kept = t.kept;
        held =
            t.held;
      })
  traced_by (starts_transaction world state new_) n t = started_traced world state new_ n t
  traced_by (starts_span world parent place held found of_ traced) n t =
      span_traced world parent place held found of_ traced n t
  traced_by (changes_spans world transactions spans change) n t = traced_spans world transactions spans change n t
  traced_by _ n t = record { numbers = n; kept = t.kept; held = t.held }

  pub traced_change : {given : Option Envelope} {old new : World P C} {some : List (Effect P C)} {sent : List
      (ClientKey × Envelope)} → Change meanings given old some sent new → IsTraced old → IsTraced new
  traced_change c t = traced_by c (numbered_change meanings c t.numbers) t

module _ {P C : Type 0} (gives : P → Partial) (meanings : C → Meanings) where
  pub none_traced : (tag start : ℕ) → IsTraced (starting_world {P = P} {C = C} tag start)
  none_traced tag start =
      record { numbers = none_numbered tag start; kept = λ n state at. absurd cc; held = λ n held at. absurd cc }

  traced_run : (tag start : ℕ) (calls : List (Call P C)) (answers : List (Result (Out (Reply P C)) Refusal))
      (last : World P C)
      → Run gives meanings (starting_world tag start) calls answers last → IsTraced last
  traced_run tag start calls answers last run =
      kept_by_run gives meanings IsTraced (λ given old new some sent c. traced_change meanings c) calls answers
      (starting_world tag start) last run (none_traced tag start)

  pub kept_in_trace : (tag start : ℕ) (calls : List (Call P C)) (answers : List (Result (Out (Reply P C)) Refusal))
      (last : World P C)
      → Run gives meanings (starting_world tag start) calls answers last → KeptSpansAreInTrace last
  kept_in_trace tag start calls answers last run key transaction at =
      let t = traced_run tag start calls answers last run in
      let found = mapped_there stored_transaction (transaction_at last key) transaction at in
      let state = found.0 in
      subst (λ (held : TransactionRecord). AllByRecursion (λ (span : Span). span.trace_id ≡ held.context.trace_id)
      held.spans) found.2
      (in_left state.context.trace_id state.unfinished _
      (in_kept state.context.trace_id state.tracing state.max_spans state.finished
      (t.kept key.number state (found_under last.tag last.transactions key.tag key.number state found.1))))

  pub held_in_trace : (tag start : ℕ) (calls : List (Call P C)) (answers : List (Result (Out (Reply P C)) Refusal))
      (last : World P C)
      → Run gives meanings (starting_world tag start) calls answers last → HeldSpansAreInTrace last
  held_in_trace tag start calls answers last run key held at =
      let b = (traced_run tag start calls answers last run).held key.number held
      (found_under last.tag last.spans key.tag key.number held at) in
      (stored_transaction b.0, ap (option_map stored_transaction) b.1, b.2)
