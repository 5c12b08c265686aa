-- What a client accepts is what the calls bring to it.
use Rattle.std.proofs.Common.{◌≡◌, refl, ap, ◌∙◌, sym, subst, ℕ, List, [], ◌∷◌, ◌++◌, Bool, true, false, inl, inr}
use Rattle.std.proofs.lemmas.List.{append-nil}
use Rattle.std.proofs.Math.Bool.{and-false}
use Rattle.std.specs.Prelude.{Option, Some, None, Result, Ok, Err, if◌then◌else◌, ◌==◌, ◌&&◌, ◌||◌, not}
use Rattle.std.specs.List.{list_any}
use Rattle.std.specs.Option.{option_map, option_to_list}
use Rattle.sentry_plain.specs.Tables.{value_at}
use Rattle.sentry_plain.proofs.NumberLemmas.{same_number}
use Rattle.sentry_base.specs.Callbacks.{Partial}
use Rattle.sentry_base.specs.declared.protocol.envelope.Envelope.{Envelope}
use Rattle.sentry_base.specs.declared.protocol.keys.ClientKey.{ClientKey}
use Rattle.sentry_base.specs.declared.protocol.keys.HubKey.{HubKey}
use Rattle.sentry_base.specs.declared.protocol.keys.Label.{Label}
use Rattle.sentry_base.specs.declared.protocol.log.Log.{Log}
use Rattle.sentry_base.specs.declared.protocol.metric.Metric.{Metric}
use Rattle.sentry_base.specs.declared.protocol.metric.MetricDraft.{MetricDraft}
use Rattle.sentry_base.specs.declared.protocol.refusal.Refusal.{Refusal}
use Rattle.sentry_base.specs.declared.protocol.refusal.Refusal.TheVariants.{Stale}
use Rattle.sentry_options.specs.Meanings.{Meanings}
use Rattle.sentry_batches.specs.Batches.{BatchEntry, accept, accepted_items, tick_history, batch_on}
use Rattle.sentry_scope.specs.declared.scope.Scope as declared_scope
use Rattle.sentry_span_table.specs.SpanTables.{is_held}
use Rattle.sentry_batches.specs.declared.batcher.TheConstants.{BATCH_INTERVAL}
use Rattle.sentry_telemetry.specs.Flushes.{is_flushed, batch_envelopes}
use Rattle.sentry_telemetry.specs.Telemetry.{client_log, client_metric, keep_log, keep_metric, accept_log, accept_metric}
use Rattle.sentry_sending.specs.Sending.{send, send_nothing, send_some, after_sending}
use Rattle.sentry_state.specs.declared.state.ClientState.{ClientState}
use Rattle.sentry_state.specs.declared.state.Out.{Out}
use Rattle.sentry_state.specs.Clients.{queues_from}
use Rattle.sentry_state.specs.Outcomes.{Outcome, require, require_some, let_some, client_at, hub_at}
use Rattle.sentry_state.specs.Changes.{with_client_history, with_log_entry, with_metric_entry}
use Rattle.sentry_state.specs.Worlds.{World, ClientHistory, QueueHistories, stored_client, span_table, starting_world}
use Rattle.sentry_calls.specs.declared.call.Call.{Call}
use Rattle.sentry_calls.specs.declared.call.Call.TheVariants as group
use Rattle.sentry_calls.specs.declared.call.clients.ClientCall.{ClientCall}
use Rattle.sentry_calls.specs.declared.call.clients.ClientCall.TheVariants.{AddClient, CloneClient, TakeReport, ClientCaptureLog, ClientCaptureMetric}
use Rattle.sentry_calls.specs.declared.call.hubs.HubCall.{HubCall}
use Rattle.sentry_calls.specs.declared.call.hubs.HubCall.TheVariants.{NewHub, NewHubFromTop, CaptureLog, CaptureMetric}
use Rattle.sentry_calls.specs.declared.call.Reply.{Reply}
use Rattle.sentry_calls.specs.declared.call.Reply.TheVariants as reply
use Rattle.sentry_calls.specs.Telemetry as telemetry
use Rattle.sentry_calls.specs.Runs.{StepsTo, Run}
use Rattle.sentry_calls.specs.Steps.{client_step, hub_step}
use Rattle.sentry_calls.specs.Replies.{map_answer}
use Rattle.sentry_laws.specs.Closed.{closes}
use Rattle.sentry_laws.specs.Accepted.{comes_to, comes_under, comes_on, logs_by, metrics_by, AcceptsByCalls, AcceptsLogsByCalls, AcceptsMetricsByCalls}
use Rattle.sentry_laws.proofs.Effects.{Came, a_log, a_metric, effects, client_effects, hub_effects}
use Rattle.sentry_laws.proofs.Changes.{kind_of, Arrival, log_came, metric_came, session_ended, flush_came, after_arrival}
use Rattle.sentry_laws.proofs.Closings.{IsClosedBy, closed_next, none_closed}
use Rattle.sentry_laws.proofs.Found.{found_replaced, found_below}
use Rattle.sentry_laws.proofs.Keeping.{trail_of}
use Rattle.sentry_laws.proofs.Numbered.{IsNumbered, numbered_changes, none_numbered}
use Rattle.sentry_laws.proofs.OneClient.{Follows, follows_call, is_mine}
use Rattle.sentry_laws.proofs.Trails.{found_under}

-- the client with this number, if it is held, is closed or not
abbrev IsKnown : {P C : Type 0} → ℕ → Bool → World P C → Type 0
IsKnown {P} {C} n closed world = (c : ClientHistory C) → value_at world.clients n ≡ Some c → c.closed ≡ closed

module _ {T C : Type 0} (history : QueueHistories → List (BatchEntry T)) (kind : Came)
    (new_history : (now : ℕ) → history (queues_from now) ≡ [])
    (arrival_keeps : (arrival : Arrival) (client : ClientHistory C) → (kind_of arrival ≡ Some kind → ⊥)
    → accepted_items (history (after_arrival arrival client).queues) ≡ accepted_items (history client.queues)) where
  abbrev accepted_by : ClientHistory C → List T
  accepted_by client = accepted_items (history client.queues)

  -- the client with this number, if it is held, accepted these items so far
  abbrev Accepted : {P : Type 0} → (C → Meanings) → ℕ → List T → World P C → Type 0
  Accepted {P} meanings n items world =
      Follows kind (λ client. accepted_by client ≡ items)
      (λ arrival client open_ other h. arrival_keeps arrival client other ∙ h)
      (items ≡ [])
      (λ none client now queues open_. ap accepted_items (ap history queues ∙ new_history now) ∙ sym none)
      {P = P} meanings n world

  -- ---- one call

  -- what clients accept by the way from one world to the next
  abbrev Brings : {P : Type 0} → ℕ → World P C → World P C → List T → Type 0
  Brings n world next brought =
      (after : ClientHistory C) → value_at next.clients n ≡ Some after
      → ((before : ClientHistory C) → value_at world.clients n ≡ Some before
      → accepted_by after ≡ accepted_by before ++ brought)
      × (value_at world.clients n ≡ None → accepted_by after ≡ [])

  module _ {P : Type 0} (gives : P → Partial) (meanings : C → Meanings)
      (brought : ℕ → Bool → World P C → Call P C → List T)
      (brings_none : (n : ℕ) (closed : Bool) (call : Call P C) (made : Reply P C) (world : World P C)
      → list_any (is_mine kind) (effects meanings call made) ≡ false → brought n closed world call ≡ [])
      (brings : (n : ℕ) (closed : Bool) (call : Call P C) (out : Out (Reply P C)) (world next : World P C)
      → list_any (is_mine kind) (effects meanings call out.reply) ≡ true
      → StepsTo gives meanings world call (Ok out) next → IsKnown n closed world
      → Brings n world next (brought n closed world call)) where
    call_brings : (call : Call P C) (out : Out (Reply P C)) (world next : World P C)
        → StepsTo gives meanings world call (Ok out) next → IsNumbered world → (n : ℕ) (closed : Bool)
        → IsKnown n closed world → Brings n world next (brought n closed world call)
    call_brings call out world next may numbered n closed known =
        by_client (value_at world.clients n) refl
      where
        told_mine : (items : List T) → list_any (is_mine kind) (effects meanings call out.reply) ≡ false
            → Accepted {P = P} meanings n items world
            → (c : ClientHistory C) → value_at next.clients n ≡ Some c → accepted_by c ≡ items
        told_mine items none a =
            (follows_call kind (λ client. accepted_by client ≡ items)
            (λ arrival client open_ other h. arrival_keeps arrival client other ∙ h)
            (items ≡ [])
            (λ none client now queues open_. ap accepted_items (ap history queues ∙ new_history now) ∙ sym none)
            gives meanings call out world next may none n a).so_far

        by_client : (o : Option (ClientHistory C)) → value_at world.clients n ≡ o
            → Brings n world next (brought n closed world call)
        by_client (Some c) at =
            by_mine (list_any (is_mine kind) (effects meanings call out.reply)) refl
          where
            first_ : Accepted {P = P} meanings n (accepted_by c) world
            first_ = record {
              so_far = λ d found. let both_ : Some c ≡ Some d = sym at ∙ found in same_accepted c d both_;
              given = inl (found_below 0 world.next.client n world.clients c numbered.clients at);
              clients = numbered.clients;
            }
              where
                same_accepted : (c d : ClientHistory C) → Some c ≡ Some d → accepted_by d ≡ accepted_by c
                same_accepted c d e = let same : c ≡ d = cc in ap accepted_by (sym same)

            by_mine : (b : Bool) → list_any (is_mine kind) (effects meanings call out.reply) ≡ b
                → Brings n world next (brought n closed world call)
            by_mine true e = brings n closed call out world next e may known
            by_mine false e = λ after found. (
              λ before held.
                  let both_ : Some c ≡ Some before = sym at ∙ held in
                  let same : c ≡ before = cc in
                  told_mine (accepted_by c) e first_ after found
                  ∙ (ap accepted_by same ∙ sym (ap (λ l. accepted_by before ++ l)
                  (brings_none n closed call out.reply world e) ∙ append-nil (accepted_by before))),
              λ none. let no : Some c ≡ None = sym at ∙ none in absurd cc,
            )
        by_client None at =
            by_mine (list_any (is_mine kind) (effects meanings call out.reply)) refl
          where
            first_ : Accepted {P = P} meanings n [] world
            first_ = record {
              so_far = λ d found. let no : None ≡ Some d = sym at ∙ found in absurd cc;
              given = inr refl;
              clients = numbered.clients;
            }

            by_mine : (b : Bool) → list_any (is_mine kind) (effects meanings call out.reply) ≡ b
                → Brings n world next (brought n closed world call)
            by_mine true e = brings n closed call out world next e may known
            by_mine false e = λ after found. (
              λ before held. let no : None ≡ Some before = sym at ∙ held in absurd cc,
              λ none. told_mine [] e first_ after found,
            )

    accepts_run : (calls : List (Call P C)) (answers : List (Result (Out (Reply P C)) Refusal))
        (world last : World P C) (run : Run gives meanings world calls answers last) → IsNumbered world
        → (n : ℕ) (closed : Bool) → IsClosedBy {P = P} n closed world
        → AcceptsByCalls gives meanings history brought n closed world calls answers last run
    accepts_run [] answers world last run m n closed k = tt
    accepts_run (call ∷ calls) [] world last run m n closed k = tt
    accepts_run (call ∷ calls) (Err refusal ∷ answers) world last run m n closed k =
        accepts_run calls answers run.0 last run.2 (subst IsNumbered (sym run.1.1) m) n closed
        (subst (IsClosedBy n closed) (sym run.1.1) k)
    accepts_run (call ∷ calls) (Ok out ∷ answers) world last run m n closed k = (
      λ after found. call_brings call out world run.0 run.1 m n closed (λ c at. (k.so_far c at).0) after found,
      accepts_run calls answers run.0 last run.2
          (numbered_changes meanings (trail_of gives meanings call out world run.0 run.1).changes m) n
          (closed || closes n call) (closed_next gives meanings call out world run.0 run.1 m n closed k),
    )

-- ---- what an answer shows of a call

module _ {P C Y : Type 0} (make : Y → Reply P C) (out : Out (Reply P C)) (R : World P C → Type 0) where
  -- where the call is answered so, the world after it is so
  record Lands (outcome : Outcome P C Y) : Type 0 where
    lands : map_answer make outcome.answer ≡ Ok out → R outcome.after

  lands_some : {X : Type 0} (refusal : Refusal) (world : World P C) (o : Option X) {go : X → Outcome P C Y}
      → ((x : X) → o ≡ Some x → Lands (go x)) → Lands (require_some refusal world o go)
  lands_some refusal world None h = record { lands = λ e. absurd cc }
  lands_some refusal world (Some x) h = h x refl

  lands_client : (refusal : Refusal) (world : World P C) (o : Option (ClientHistory C)) (go : ClientState C → Outcome P C Y)
      → ((client : ClientHistory C) → o ≡ Some client → Lands (go (stored_client client)))
      → Lands (require_some refusal world (option_map stored_client o) go)
  lands_client refusal world None go h = record { lands = λ e. absurd cc }
  lands_client refusal world (Some client) go h = h client refl

  lands_require : (refusal : Refusal) (world : World P C) (b : Bool) {go : Outcome P C Y} → Lands go
      → Lands (require refusal world b go)
  lands_require refusal world true h = h
  lands_require refusal world false h = record { lands = λ e. absurd cc }

  lands_let : {X : Type 0} (o : Option X) {otherwise : Outcome P C Y} {go : X → Outcome P C Y}
      → (o ≡ None → Lands otherwise) → ((x : X) → o ≡ Some x → Lands (go x)) → Lands (let_some o otherwise go)
  lands_let None k h = k refl
  lands_let (Some x) k h = h x refl

  lands_let_client : (o : Option (ClientHistory C)) (otherwise : Outcome P C Y) (go : ClientState C → Outcome P C Y)
      → (o ≡ None → Lands otherwise)
      → ((client : ClientHistory C) → o ≡ Some client → Lands (go (stored_client client)))
      → Lands (let_some (option_map stored_client o) otherwise go)
  lands_let_client None otherwise go k h = k refl
  lands_let_client (Some client) otherwise go k h = h client refl

sending_clients : {P C : Type 0} (label : Label) (sent : List (ClientKey × Envelope)) (world : World P C)
    → (after_sending label sent world).clients ≡ world.clients
sending_clients label [] world = refl
sending_clients label (first ∷ rest) world = refl

if_same : {X : Type 0} (b : Bool) (x : X) → (if b then x else x) ≡ x
if_same true x = refl
if_same false x = refl

-- whether a client is closed counts only if it is the one
open_test : (b x y : Bool) → (b ≡ true → x ≡ y) → (b && not x) ≡ (b && not y)
open_test true x y h = ap not (h refl)
open_test false x y h = refl

-- ---- an item that was kept

module _ {T C : Type 0} (history : QueueHistories → List (BatchEntry T)) (arrival_of : T → Arrival)
    (mine : (x : T) (client : ClientHistory C)
    → accepted_items (history (after_arrival (arrival_of x) client).queues)
    ≡ accepted_items (history client.queues) ++ x ∷ []) where
  abbrev accepted_of : ClientHistory C → List T
  accepted_of client = accepted_items (history client.queues)

  -- the clients where an item was kept, or not
  abbrev kept_client : ℕ → ClientKey → ClientHistory C → Option T → Option (ClientHistory C) → Option (ClientHistory C)
  kept_client n key client None old = old
  kept_client n key client (Some x) old =
      if client.closed then old else (if n == key.number then Some (after_arrival (arrival_of x) client) else old)

  abbrev BringsAt : ℕ → Option (ClientHistory C) → Option (ClientHistory C) → List T → Type 0
  BringsAt n old new brought =
      (after : ClientHistory C) → new ≡ Some after
      → ((before : ClientHistory C) → old ≡ Some before → accepted_of after ≡ accepted_of before ++ brought)
      × (old ≡ None → accepted_of after ≡ [])

  unchanged : (n : ℕ) (old : Option (ClientHistory C)) (brought : List T) → brought ≡ [] → BringsAt n old old brought
  unchanged n old brought none = λ after found. (
    λ before held.
        let both_ : Some after ≡ Some before = sym found ∙ held in
        let same : after ≡ before = cc in
        ap accepted_of same
        ∙ sym (ap (λ l. accepted_of before ++ l) none ∙ append-nil (accepted_of before)),
    λ gone_. let no : Some after ≡ None = sym found ∙ gone_ in absurd cc,
  )

  no_item : (b : Bool) → (if b then option_to_list {X = T} None else []) ≡ []
  no_item true = refl
  no_item false = refl

  kept_brings : (n : ℕ) (key : ClientKey) (client : ClientHistory C) (o : Option T) (old : Option (ClientHistory C))
      → ((n == key.number) ≡ true → old ≡ Some client)
      → BringsAt n old (kept_client n key client o old)
      (if (n == key.number) && not client.closed then option_to_list o else [])
  kept_brings n key client None old here = unchanged n old _ (no_item ((n == key.number) && not client.closed))
  kept_brings n key client (Some x) old here =
      by_case client.closed (n == key.number) here
    where
      by_case : (closed own : Bool) → (own ≡ true → old ≡ Some client)
          → BringsAt n old (if closed then old else (if own then Some (after_arrival (arrival_of x) client) else old))
          (if own && not closed then x ∷ [] else [])
      by_case true own here = unchanged n old _ (ap (λ b. if b then x ∷ [] else []) (and-false own))
      by_case false false here = unchanged n old [] refl
      by_case false true here = λ after found. (
        λ before held.
            let is : after_arrival (arrival_of x) client ≡ after = cc in
            let both_ : Some client ≡ Some before = sym (here refl) ∙ held in
            let same : client ≡ before = cc in
            ap accepted_of (sym is) ∙ (mine x client ∙ ap (λ c. accepted_of c ++ x ∷ []) same),
        λ gone_. let no : Some client ≡ None = sym (here refl) ∙ gone_ in absurd cc,
      )

-- ---- logs

module _ {P C : Type 0} where
  kept_log : (key : ClientKey) (label : Label) (o : Option Log) (world : World P C) (client : ClientHistory C)
      → client_at world key ≡ Some client → (n : ℕ)
      → value_at (keep_log key label o world).after.clients n
      ≡ kept_client {C = C} (λ q. q.logs) log_came (λ x client. refl) n key client o (value_at world.clients n)
  unfolding keep_log accept_log
  kept_log key label None world client found n = refl
  kept_log key label (Some item) world client found n = by_found (client_at world key) found
    where
      by_closed : (b : Bool)
          → value_at (if b then send_nothing world else send key client (batch_envelopes (batch_on client.options.plain.max_batch_items (accept item) client.queues.logs) None)
          (with_client_history world key (with_log_entry (accept item) client))).after.clients n
          ≡ (if b then value_at world.clients n
          else (if n == key.number then Some (after_arrival (log_came item) client) else value_at world.clients n))
      by_closed true = refl
      by_closed false =
          ap (λ (t : List (ℕ × ClientHistory C)). value_at t n)
          (sending_clients client.label (send key client (batch_envelopes (batch_on client.options.plain.max_batch_items (accept item) client.queues.logs) None)
          (with_client_history world key (with_log_entry (accept item) client))).sent
          (with_client_history world key (with_log_entry (accept item) client)))
          ∙ found_replaced world.clients key.number n (after_arrival (log_came item) client) client
          (found_under world.tag world.clients key.tag key.number client found)

      by_found : (o : Option (ClientHistory C)) → o ≡ Some client
          → value_at (send_some world o (λ c. if c.closed then send_nothing world else send key c (batch_envelopes (batch_on c.options.plain.max_batch_items (accept item) c.queues.logs) None)
          (with_client_history world key (with_log_entry (accept item) c)))).after.clients n
          ≡ (if client.closed then value_at world.clients n
          else (if n == key.number then Some (after_arrival (log_came item) client) else value_at world.clients n))
      by_found None e = absurd cc
      by_found (Some c) e =
          let same : client ≡ c = cc in
          subst (λ (c : ClientHistory C). value_at (if c.closed then send_nothing world else send key c (batch_envelopes (batch_on c.options.plain.max_batch_items (accept item) c.queues.logs) None)
          (with_client_history world key (with_log_entry (accept item) c))).after.clients n
          ≡ (if client.closed then value_at world.clients n
          else (if n == key.number then Some (after_arrival (log_came item) client) else value_at world.clients n))) same
          (by_closed client.closed)

  log_comes : (n : ℕ) (closed : Bool) (key : ClientKey) (world : World P C) (client : ClientHistory C)
      (item : ClientHistory C → Option Log) → client_at world key ≡ Some client → IsKnown n closed world
      → BringsAt {C = C} (λ q. q.logs) log_came (λ x client. refl) n (value_at world.clients n)
      (value_at (keep_log key client.label (item client) world).after.clients n)
      (comes_to n closed key (client_at world key) item)
  log_comes n closed key world client item found known =
      let here : (n == key.number) ≡ true → value_at world.clients n ≡ Some client =
      λ own. ap (value_at world.clients) (same_number n key.number own)
      ∙ found_under world.tag world.clients key.tag key.number client found in
      subst (λ l. BringsAt {C = C} (λ q. q.logs) log_came (λ x client. refl) n (value_at world.clients n)
      (value_at (keep_log key client.label (item client) world).after.clients n) l)
      (sym (ap (λ o. comes_to n closed key o item) found))
      (subst (λ b. BringsAt {C = C} (λ q. q.logs) log_came (λ x client. refl) n (value_at world.clients n)
      (value_at (keep_log key client.label (item client) world).after.clients n)
      (if b then option_to_list (item client) else []))
      (open_test (n == key.number) client.closed closed (λ own. known client (here own)))
      (subst (λ o. BringsAt {C = C} (λ q. q.logs) log_came (λ x client. refl) n (value_at world.clients n) o
      (if (n == key.number) && not client.closed then option_to_list (item client) else []))
      (sym (kept_log key client.label (item client) world client found n))
      (kept_brings (λ q. q.logs) log_came (λ x client. refl) n key client (item client) (value_at world.clients n) here)))

module _ {P C : Type 0} (gives : P → Partial) (meanings : C → Meanings) where
  log_none : (n : ℕ) (closed : Bool) (call : Call P C) (made : Reply P C) (world : World P C)
      → list_any (is_mine a_log) (effects meanings call made) ≡ false → logs_by meanings n closed world call ≡ []
  log_none n closed (group.Client call) made world h = by_client call h
    where
      by_client : (call : ClientCall P C) → list_any (is_mine a_log) (client_effects meanings call made) ≡ false
          → logs_by meanings n closed world (group.Client call) ≡ []
      by_client (ClientCaptureLog key log scope) h = absurd cc
      by_client call h = refl
  log_none n closed (group.Hub call) made world h = by_hub call h
    where
      by_hub : (call : HubCall P) → list_any (is_mine {P = P} {C = C} a_log) (hub_effects meanings call made) ≡ false
          → logs_by meanings n closed world (group.Hub call) ≡ []
      by_hub (CaptureLog key log) h = absurd cc
      by_hub call h = refl
  log_none n closed (group.Span call) made world h = refl

  client_log_lands : (n : ℕ) (closed : Bool) (key : ClientKey) (log : Log) (scope : declared_scope.Scope P) (out : Out (Reply P C)) (world : World P C)
      → IsKnown n closed world → Lands {Y = Unit {0}} (λ _. reply.Done) out
      (λ after. BringsAt {C = C} (λ q. q.logs) log_came (λ x client. refl) n (value_at world.clients n)
      (value_at after.clients n) (logs_by meanings n closed world (group.Client (ClientCaptureLog key log scope))))
      (telemetry.client_capture_log meanings key log scope world)
  unfolding telemetry.client_capture_log
  client_log_lands n closed key log scope out world known =
      lands_client (λ _. reply.Done) out _ Stale world (client_at world key) _ (λ client found.
      lands_require (λ _. reply.Done) out _ Stale world (is_held (span_table world) scope.span)
      (record { lands = λ e. log_comes n closed key world client (λ client. client_log meanings (span_table world) (stored_client client) scope log) found known }))

  hub_log_lands : (n : ℕ) (closed : Bool) (key : HubKey) (log : Log) (out : Out (Reply P C)) (world : World P C)
      → IsKnown n closed world → Lands {Y = Unit {0}} (λ _. reply.Done) out
      (λ after. BringsAt {C = C} (λ q. q.logs) log_came (λ x client. refl) n (value_at world.clients n)
      (value_at after.clients n) (logs_by meanings n closed world (group.Hub (CaptureLog key log))))
      (telemetry.capture_log meanings key log world)
  unfolding telemetry.capture_log
  hub_log_lands n closed key log out world known =
      lands_some (λ _. reply.Done) out _ Stale world (hub_at world key) (λ hub found.
      lands_let (λ _. reply.Done) out _ hub.stack.top.client
      (λ none. record {
        lands = λ e. unchanged (λ q. q.logs) log_came (λ x client. refl) n (value_at world.clients n) _
            (ap (λ o. comes_on n closed world o (λ scope client. client_log meanings (span_table world) (stored_client client) scope log)) found
            ∙ ap (λ o. comes_under n closed world o (λ client. client_log meanings (span_table world) (stored_client client) hub.stack.top.scope log)) none);
      })
      (λ client_key named_.
      lands_let_client (λ _. reply.Done) out _ (client_at world client_key) _ _
      (λ none. record {
        lands = λ e. unchanged (λ q. q.logs) log_came (λ x client. refl) n (value_at world.clients n) _
            (ap (λ o. comes_on n closed world o (λ scope client. client_log meanings (span_table world) (stored_client client) scope log)) found
            ∙ (ap (λ o. comes_under n closed world o (λ client. client_log meanings (span_table world) (stored_client client) hub.stack.top.scope log)) named_
            ∙ ap (λ o. comes_to n closed client_key o (λ client. client_log meanings (span_table world) (stored_client client) hub.stack.top.scope log)) none));
      })
      (λ client held. record {
        lands = λ e.
            subst (λ l. BringsAt {C = C} (λ q. q.logs) log_came (λ x client. refl) n (value_at world.clients n)
            (value_at (keep_log client_key client.label (client_log meanings (span_table world) (stored_client client) hub.stack.top.scope log) world).after.clients n) l)
            (sym (ap (λ o. comes_on n closed world o (λ scope client. client_log meanings (span_table world) (stored_client client) scope log)) found
            ∙ ap (λ o. comes_under n closed world o (λ client. client_log meanings (span_table world) (stored_client client) hub.stack.top.scope log)) named_))
            (log_comes n closed client_key world client (λ client. client_log meanings (span_table world) (stored_client client) hub.stack.top.scope log) held known);
      })))

  log_brings : (n : ℕ) (closed : Bool) (call : Call P C) (out : Out (Reply P C)) (world next : World P C)
      → list_any (is_mine a_log) (effects meanings call out.reply) ≡ true → StepsTo gives meanings world call (Ok out) next
      → IsKnown n closed world
      → BringsAt {C = C} (λ q. q.logs) log_came (λ x client. refl) n (value_at world.clients n)
      (value_at next.clients n) (logs_by meanings n closed world call)
  unfolding client_step hub_step
  log_brings n closed (group.Client call) out world next h may known = by_client call out.reply h may.0 may.1
    where
      by_client : (call : ClientCall P C) (made : Reply P C)
          → list_any (is_mine a_log) (client_effects meanings call made) ≡ true
          → (client_step gives meanings call world).answer ≡ Ok out
          → next ≡ (client_step gives meanings call world).after
          → BringsAt {C = C} (λ q. q.logs) log_came (λ x client. refl) n (value_at world.clients n)
          (value_at next.clients n) (logs_by meanings n closed world (group.Client call))
      by_client (ClientCaptureLog key log scope) made h answered is =
          subst (λ (w : World P C). BringsAt {C = C} (λ q. q.logs) log_came (λ x client. refl) n
          (value_at world.clients n) (value_at w.clients n) (logs_by meanings n closed world (group.Client (ClientCaptureLog key log scope))))
          (sym is) ((client_log_lands n closed key log scope out world known).lands answered)
      by_client (AddClient options transport label now) (reply.Client key) h answered is = absurd cc
      by_client (AddClient options transport label now) _ h answered is = absurd cc
      by_client (CloneClient client now) (reply.Client key) h answered is = absurd cc
      by_client (CloneClient client now) _ h answered is = absurd cc
      by_client (TakeReport label) (reply.Report report) h answered is = absurd cc
      by_client (TakeReport label) _ h answered is = absurd cc
      by_client call made h answered is = absurd cc
  log_brings n closed (group.Hub call) out world next h may known = by_hub call out.reply h may.0 may.1
    where
      by_hub : (call : HubCall P) (made : Reply P C)
          → list_any (is_mine {P = P} {C = C} a_log) (hub_effects meanings call made) ≡ true
          → (hub_step gives meanings call world).answer ≡ Ok out
          → next ≡ (hub_step gives meanings call world).after
          → BringsAt {C = C} (λ q. q.logs) log_came (λ x client. refl) n (value_at world.clients n)
          (value_at next.clients n) (logs_by meanings n closed world (group.Hub call))
      by_hub (CaptureLog key log) made h answered is =
          subst (λ (w : World P C). BringsAt {C = C} (λ q. q.logs) log_came (λ x client. refl) n
          (value_at world.clients n) (value_at w.clients n) (logs_by meanings n closed world (group.Hub (CaptureLog key log))))
          (sym is) ((hub_log_lands n closed key log out world known).lands answered)
      by_hub (NewHub client scope) (reply.Hub key) h answered is = absurd cc
      by_hub (NewHub client scope) _ h answered is = absurd cc
      by_hub (NewHubFromTop hub) (reply.Hub key) h answered is = absurd cc
      by_hub (NewHubFromTop hub) _ h answered is = absurd cc
      by_hub call made h answered is = absurd cc
  log_brings n closed (group.Span call) out world next h may known = absurd cc

  logs_keep : (arrival : Arrival) (client : ClientHistory C) → (kind_of arrival ≡ Some a_log → ⊥)
      → accepted_items (after_arrival arrival client).queues.logs ≡ accepted_items client.queues.logs
  logs_keep (log_came item) client other = absurd (other refl)
  logs_keep (metric_came item) client other = refl
  logs_keep (session_ended update) client other = refl
  logs_keep (flush_came flush) client other =
      ticked (is_flushed flush BATCH_INTERVAL client.queues.log_tick) client.queues.logs
    where
      ticked : (b : Bool) (history : List (BatchEntry Log))
          → accepted_items (tick_history b history) ≡ accepted_items history
      ticked true history = refl
      ticked false history = refl

  pub accepts_logs : (tag start : ℕ) (calls : List (Call P C)) (answers : List (Result (Out (Reply P C)) Refusal))
      (last : World P C) (run : Run gives meanings (starting_world tag start) calls answers last)
      → AcceptsLogsByCalls gives meanings (starting_world tag start) calls answers last run
  accepts_logs tag start calls answers last run n =
      accepts_run (λ q. q.logs) a_log (λ now. refl) logs_keep gives meanings (logs_by meanings) log_none log_brings
      calls answers (starting_world tag start) last run (none_numbered tag start) n false (none_closed tag start n)

-- ---- metrics

module _ {P C : Type 0} where
  kept_metric : (key : ClientKey) (label : Label) (o : Option Metric) (world : World P C) (client : ClientHistory C)
      → client_at world key ≡ Some client → (n : ℕ)
      → value_at (keep_metric key label o world).after.clients n
      ≡ kept_client {C = C} (λ q. q.metrics) metric_came (λ x client. refl) n key client o (value_at world.clients n)
  unfolding keep_metric accept_metric
  kept_metric key label None world client found n = refl
  kept_metric key label (Some item) world client found n = by_found (client_at world key) found
    where
      by_closed : (b : Bool)
          → value_at (if b then send_nothing world else send key client (batch_envelopes None (batch_on client.options.plain.max_batch_items (accept item) client.queues.metrics))
          (with_client_history world key (with_metric_entry (accept item) client))).after.clients n
          ≡ (if b then value_at world.clients n
          else (if n == key.number then Some (after_arrival (metric_came item) client) else value_at world.clients n))
      by_closed true = refl
      by_closed false =
          ap (λ (t : List (ℕ × ClientHistory C)). value_at t n)
          (sending_clients client.label (send key client (batch_envelopes None (batch_on client.options.plain.max_batch_items (accept item) client.queues.metrics))
          (with_client_history world key (with_metric_entry (accept item) client))).sent
          (with_client_history world key (with_metric_entry (accept item) client)))
          ∙ found_replaced world.clients key.number n (after_arrival (metric_came item) client) client
          (found_under world.tag world.clients key.tag key.number client found)

      by_found : (o : Option (ClientHistory C)) → o ≡ Some client
          → value_at (send_some world o (λ c. if c.closed then send_nothing world else send key c (batch_envelopes None (batch_on c.options.plain.max_batch_items (accept item) c.queues.metrics))
          (with_client_history world key (with_metric_entry (accept item) c)))).after.clients n
          ≡ (if client.closed then value_at world.clients n
          else (if n == key.number then Some (after_arrival (metric_came item) client) else value_at world.clients n))
      by_found None e = absurd cc
      by_found (Some c) e =
          let same : client ≡ c = cc in
          subst (λ (c : ClientHistory C). value_at (if c.closed then send_nothing world else send key c (batch_envelopes None (batch_on c.options.plain.max_batch_items (accept item) c.queues.metrics))
          (with_client_history world key (with_metric_entry (accept item) c))).after.clients n
          ≡ (if client.closed then value_at world.clients n
          else (if n == key.number then Some (after_arrival (metric_came item) client) else value_at world.clients n))) same
          (by_closed client.closed)

  metric_comes : (n : ℕ) (closed : Bool) (key : ClientKey) (world : World P C) (client : ClientHistory C)
      (item : ClientHistory C → Option Metric) → client_at world key ≡ Some client → IsKnown n closed world
      → BringsAt {C = C} (λ q. q.metrics) metric_came (λ x client. refl) n (value_at world.clients n)
      (value_at (keep_metric key client.label (item client) world).after.clients n)
      (comes_to n closed key (client_at world key) item)
  metric_comes n closed key world client item found known =
      let here : (n == key.number) ≡ true → value_at world.clients n ≡ Some client =
      λ own. ap (value_at world.clients) (same_number n key.number own)
      ∙ found_under world.tag world.clients key.tag key.number client found in
      subst (λ l. BringsAt {C = C} (λ q. q.metrics) metric_came (λ x client. refl) n (value_at world.clients n)
      (value_at (keep_metric key client.label (item client) world).after.clients n) l)
      (sym (ap (λ o. comes_to n closed key o item) found))
      (subst (λ b. BringsAt {C = C} (λ q. q.metrics) metric_came (λ x client. refl) n (value_at world.clients n)
      (value_at (keep_metric key client.label (item client) world).after.clients n)
      (if b then option_to_list (item client) else []))
      (open_test (n == key.number) client.closed closed (λ own. known client (here own)))
      (subst (λ o. BringsAt {C = C} (λ q. q.metrics) metric_came (λ x client. refl) n (value_at world.clients n) o
      (if (n == key.number) && not client.closed then option_to_list (item client) else []))
      (sym (kept_metric key client.label (item client) world client found n))
      (kept_brings (λ q. q.metrics) metric_came (λ x client. refl) n key client (item client) (value_at world.clients n) here)))

module _ {P C : Type 0} (gives : P → Partial) (meanings : C → Meanings) where
  metric_none : (n : ℕ) (closed : Bool) (call : Call P C) (made : Reply P C) (world : World P C)
      → list_any (is_mine a_metric) (effects meanings call made) ≡ false → metrics_by meanings n closed world call ≡ []
  metric_none n closed (group.Client call) made world h = by_client call h
    where
      by_client : (call : ClientCall P C) → list_any (is_mine a_metric) (client_effects meanings call made) ≡ false
          → metrics_by meanings n closed world (group.Client call) ≡ []
      by_client (ClientCaptureMetric key draft scope now) h = absurd cc
      by_client call h = refl
  metric_none n closed (group.Hub call) made world h = by_hub call h
    where
      by_hub : (call : HubCall P) → list_any (is_mine {P = P} {C = C} a_metric) (hub_effects meanings call made) ≡ false
          → metrics_by meanings n closed world (group.Hub call) ≡ []
      by_hub (CaptureMetric key draft now) h = absurd cc
      by_hub call h = refl
  metric_none n closed (group.Span call) made world h = refl

  client_metric_lands : (n : ℕ) (closed : Bool) (key : ClientKey) (draft : MetricDraft) (scope : declared_scope.Scope P) (now : ℕ) (out : Out (Reply P C)) (world : World P C)
      → IsKnown n closed world → Lands {Y = Unit {0}} (λ _. reply.Done) out
      (λ after. BringsAt {C = C} (λ q. q.metrics) metric_came (λ x client. refl) n (value_at world.clients n)
      (value_at after.clients n) (metrics_by meanings n closed world (group.Client (ClientCaptureMetric key draft scope now))))
      (telemetry.client_capture_metric meanings key draft scope now world)
  unfolding telemetry.client_capture_metric
  client_metric_lands n closed key draft scope now out world known =
      lands_client (λ _. reply.Done) out _ Stale world (client_at world key) _ (λ client found.
      lands_require (λ _. reply.Done) out _ Stale world (is_held (span_table world) scope.span)
      (record { lands = λ e. metric_comes n closed key world client (λ client. client_metric meanings (span_table world) (stored_client client) scope now draft) found known }))

  hub_metric_lands : (n : ℕ) (closed : Bool) (key : HubKey) (draft : MetricDraft) (now : ℕ) (out : Out (Reply P C)) (world : World P C)
      → IsKnown n closed world → Lands {Y = Unit {0}} (λ _. reply.Done) out
      (λ after. BringsAt {C = C} (λ q. q.metrics) metric_came (λ x client. refl) n (value_at world.clients n)
      (value_at after.clients n) (metrics_by meanings n closed world (group.Hub (CaptureMetric key draft now))))
      (telemetry.capture_metric meanings key draft now world)
  unfolding telemetry.capture_metric
  hub_metric_lands n closed key draft now out world known =
      lands_some (λ _. reply.Done) out _ Stale world (hub_at world key) (λ hub found.
      lands_let (λ _. reply.Done) out _ hub.stack.top.client
      (λ none. record {
        lands = λ e. unchanged (λ q. q.metrics) metric_came (λ x client. refl) n (value_at world.clients n) _
            (ap (λ o. comes_on n closed world o (λ scope client. client_metric meanings (span_table world) (stored_client client) scope now draft)) found
            ∙ ap (λ o. comes_under n closed world o (λ client. client_metric meanings (span_table world) (stored_client client) hub.stack.top.scope now draft)) none);
      })
      (λ client_key named_.
      lands_let_client (λ _. reply.Done) out _ (client_at world client_key) _ _
      (λ none. record {
        lands = λ e. unchanged (λ q. q.metrics) metric_came (λ x client. refl) n (value_at world.clients n) _
            (ap (λ o. comes_on n closed world o (λ scope client. client_metric meanings (span_table world) (stored_client client) scope now draft)) found
            ∙ (ap (λ o. comes_under n closed world o (λ client. client_metric meanings (span_table world) (stored_client client) hub.stack.top.scope now draft)) named_
            ∙ ap (λ o. comes_to n closed client_key o (λ client. client_metric meanings (span_table world) (stored_client client) hub.stack.top.scope now draft)) none));
      })
      (λ client held. record {
        lands = λ e.
            subst (λ l. BringsAt {C = C} (λ q. q.metrics) metric_came (λ x client. refl) n (value_at world.clients n)
            (value_at (keep_metric client_key client.label (client_metric meanings (span_table world) (stored_client client) hub.stack.top.scope now draft) world).after.clients n) l)
            (sym (ap (λ o. comes_on n closed world o (λ scope client. client_metric meanings (span_table world) (stored_client client) scope now draft)) found
            ∙ ap (λ o. comes_under n closed world o (λ client. client_metric meanings (span_table world) (stored_client client) hub.stack.top.scope now draft)) named_))
            (metric_comes n closed client_key world client (λ client. client_metric meanings (span_table world) (stored_client client) hub.stack.top.scope now draft) held known);
      })))

  metric_brings : (n : ℕ) (closed : Bool) (call : Call P C) (out : Out (Reply P C)) (world next : World P C)
      → list_any (is_mine a_metric) (effects meanings call out.reply) ≡ true → StepsTo gives meanings world call (Ok out) next
      → IsKnown n closed world
      → BringsAt {C = C} (λ q. q.metrics) metric_came (λ x client. refl) n (value_at world.clients n)
      (value_at next.clients n) (metrics_by meanings n closed world call)
  unfolding client_step hub_step
  metric_brings n closed (group.Client call) out world next h may known = by_client call out.reply h may.0 may.1
    where
      by_client : (call : ClientCall P C) (made : Reply P C)
          → list_any (is_mine a_metric) (client_effects meanings call made) ≡ true
          → (client_step gives meanings call world).answer ≡ Ok out
          → next ≡ (client_step gives meanings call world).after
          → BringsAt {C = C} (λ q. q.metrics) metric_came (λ x client. refl) n (value_at world.clients n)
          (value_at next.clients n) (metrics_by meanings n closed world (group.Client call))
      by_client (ClientCaptureMetric key draft scope now) made h answered is =
          subst (λ (w : World P C). BringsAt {C = C} (λ q. q.metrics) metric_came (λ x client. refl) n
          (value_at world.clients n) (value_at w.clients n) (metrics_by meanings n closed world (group.Client (ClientCaptureMetric key draft scope now))))
          (sym is) ((client_metric_lands n closed key draft scope now out world known).lands answered)
      by_client (AddClient options transport label now) (reply.Client key) h answered is = absurd cc
      by_client (AddClient options transport label now) _ h answered is = absurd cc
      by_client (CloneClient client now) (reply.Client key) h answered is = absurd cc
      by_client (CloneClient client now) _ h answered is = absurd cc
      by_client (TakeReport label) (reply.Report report) h answered is = absurd cc
      by_client (TakeReport label) _ h answered is = absurd cc
      by_client call made h answered is = absurd cc
  metric_brings n closed (group.Hub call) out world next h may known = by_hub call out.reply h may.0 may.1
    where
      by_hub : (call : HubCall P) (made : Reply P C)
          → list_any (is_mine {P = P} {C = C} a_metric) (hub_effects meanings call made) ≡ true
          → (hub_step gives meanings call world).answer ≡ Ok out
          → next ≡ (hub_step gives meanings call world).after
          → BringsAt {C = C} (λ q. q.metrics) metric_came (λ x client. refl) n (value_at world.clients n)
          (value_at next.clients n) (metrics_by meanings n closed world (group.Hub call))
      by_hub (CaptureMetric key draft now) made h answered is =
          subst (λ (w : World P C). BringsAt {C = C} (λ q. q.metrics) metric_came (λ x client. refl) n
          (value_at world.clients n) (value_at w.clients n) (metrics_by meanings n closed world (group.Hub (CaptureMetric key draft now))))
          (sym is) ((hub_metric_lands n closed key draft now out world known).lands answered)
      by_hub (NewHub client scope) (reply.Hub key) h answered is = absurd cc
      by_hub (NewHub client scope) _ h answered is = absurd cc
      by_hub (NewHubFromTop hub) (reply.Hub key) h answered is = absurd cc
      by_hub (NewHubFromTop hub) _ h answered is = absurd cc
      by_hub call made h answered is = absurd cc
  metric_brings n closed (group.Span call) out world next h may known = absurd cc

  metrics_keep : (arrival : Arrival) (client : ClientHistory C) → (kind_of arrival ≡ Some a_metric → ⊥)
      → accepted_items (after_arrival arrival client).queues.metrics ≡ accepted_items client.queues.metrics
  metrics_keep (metric_came item) client other = absurd (other refl)
  metrics_keep (log_came item) client other = refl
  metrics_keep (session_ended update) client other = refl
  metrics_keep (flush_came flush) client other =
      ticked (is_flushed flush BATCH_INTERVAL client.queues.metric_tick) client.queues.metrics
    where
      ticked : (b : Bool) (history : List (BatchEntry Metric))
          → accepted_items (tick_history b history) ≡ accepted_items history
      ticked true history = refl
      ticked false history = refl

  pub accepts_metrics : (tag start : ℕ) (calls : List (Call P C)) (answers : List (Result (Out (Reply P C)) Refusal))
      (last : World P C) (run : Run gives meanings (starting_world tag start) calls answers last)
      → AcceptsMetricsByCalls gives meanings (starting_world tag start) calls answers last run
  accepts_metrics tag start calls answers last run n =
      accepts_run (λ q. q.metrics) a_metric (λ now. refl) metrics_keep gives meanings (metrics_by meanings) metric_none metric_brings
      calls answers (starting_world tag start) last run (none_numbered tag start) n false (none_closed tag start n)
