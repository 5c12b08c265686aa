-- What an occupied slot sent is what its client accepted, but for the queue.
use Rattle.std.proofs.Common.{◌≡◌, ◌≢◌, ◌<◌, ◌≤◌, refl, ap, ◌∙◌, sym, subst, ℕ, ◌+◌, List, [], ◌∷◌, ◌++◌, Bool, true, false, append_assoc, arith, ◌⊎◌, inl, inr}
use Rattle.std.proofs.lemmas.Bool.Decides.{nat_tests}
use Rattle.std.proofs.lemmas.List.{append-nil}
use Rattle.std.proofs.lemmas.Bool.{and_parts, or_parts}
use Rattle.std.specs.Prelude.{Option, Some, None, Result, Ok, Err, if◌then◌else◌, ◌==◌, ◌&&◌, ◌||◌, not, is_some}
use Rattle.std.specs.List.{list_any, AllByRecursion}
use Rattle.std.specs.Option.{option_map, option_to_list}
use Rattle.sentry_plain.specs.Tables.{value_at, put, without}
use Rattle.sentry_plain.proofs.NumberLemmas.{same_number}
use Rattle.sentry_base.specs.Callbacks.{Partial}
use Rattle.sentry_base.specs.declared.protocol.client_report.ClientReport.{ClientReport}
use Rattle.sentry_base.specs.declared.protocol.envelope.Envelope.{Envelope}
use Rattle.sentry_base.specs.declared.protocol.envelope.EnvelopeItem.{EnvelopeItem}
use Rattle.sentry_base.specs.declared.protocol.envelope.EnvelopeItem.TheVariants as item
use Rattle.sentry_base.specs.declared.protocol.keys.ClientKey.{ClientKey}
use Rattle.sentry_base.specs.declared.protocol.keys.Label.{Label}
use Rattle.sentry_base.specs.declared.protocol.refusal.Refusal.{Refusal}
use Rattle.sentry_base.specs.declared.protocol.refusal.Refusal.TheVariants.{Stale, StillNamed}
use Rattle.sentry_options.specs.Meanings.{Meanings}
use Rattle.sentry_batches.specs.Batches.{BatchEntry, cut, batches, items_of, queued_items, accepted_items, IsBatch}
use Rattle.sentry_batches.proofs.BatchLemmas.{batches_sized, batches_joined}
use Rattle.sentry_client_reports.specs.LossBooks.{LossEntry, report_point}
use Rattle.sentry_state.specs.declared.state.Out.{Out}
use Rattle.sentry_state.specs.declared.state.ClientState.{ClientState}
use Rattle.sentry_state.specs.Worlds.{World, ClientHistory, QueueHistories, stored_client, span_table, starting_world}
use Rattle.sentry_state.specs.Outcomes.{Outcome, IsAnswer, require, require_some, client_at, stored_client_at}
use Rattle.sentry_state.specs.Clients.{queues_from, clone_from, is_client_named, has_session_of}
use Rattle.sentry_span_table.specs.SpanTables.{has_transaction_of}
use Rattle.sentry_calls.specs.Replies.{map_answer}
use Rattle.sentry_telemetry.specs.declared.flushes.Flush.TheVariants.{All}
use Rattle.sentry_telemetry.specs.Flushes.{flush_queues, is_closing}
use Rattle.sentry_base.specs.Envelopes.{with_report}
use Rattle.sentry_state.specs.Books.{pending_report, with_entry}
use Rattle.sentry_state.specs.Changes.{with_client_history}
use Rattle.sentry_sending.specs.Sending.{for_client, envelopes_from, after_sending, send}
use Rattle.sentry_calls.specs.Clients.{drop_client}
use Rattle.sentry_calls.specs.declared.call.Call.{Call}
use Rattle.sentry_calls.specs.declared.call.Call.TheVariants as group
use Rattle.sentry_calls.specs.declared.call.clients.ClientCall.TheVariants.{DropClient}
use Rattle.sentry_calls.specs.declared.call.Reply.TheVariants as reply
use Rattle.sentry_calls.specs.declared.call.Reply.{Reply}
use Rattle.sentry_calls.specs.Runs.{StepsTo, Run}
use Rattle.sentry_calls.specs.Steps.{step, client_step, needs}
use Rattle.sentry_laws.proofs.Effects.{Effect, effects}
use Rattle.sentry_laws.proofs.Changes.{Change, Changes, nothing, one, both, is_batch_or_report, after_arrival, envelopes_on_arrival, Arrival, log_came, metric_came, session_ended, flush_came, adds_client, clones_client, drops_client, arrives, accepts, mails}
use Rattle.sentry_laws.specs.SentItems.{handed_in, batches_among, batches_for, batches_by, batches_sent, SendsAccepted, AreSent, what_waits, IsSentBy, SendsAtEachCall}
use Rattle.sentry_laws.specs.Closed.{closes, HasNothingWaiting}
use Rattle.sentry_laws.proofs.Closings.{IsClosedBy, closed_next, none_closed}
use Rattle.sentry_laws.proofs.Dropping.{Drops, is_dropped, own_dropped, call_drops, held_changes}
use Rattle.sentry_laws.proofs.Keeping.{trail_of}
use Rattle.sentry_laws.proofs.Numbered.{IsNumbered, numbered_changes, none_numbered}
use Rattle.sentry_laws.proofs.Tables.{AreBelow, below_put, below_replaced, below_without, others_put}
use Rattle.sentry_laws.proofs.Found.{found_put, found_replaced, found_without, found_below}
use Rattle.sentry_laws.proofs.Trails.{found_under, Trail, TellsBy}
use Rattle.sentry_laws.proofs.Calls.{told_step}

unequal : (n k : ℕ) → n ≢ k → (n == k) ≡ false
unequal n k h = grind (arith, nat_tests)

module _ {C : Type 0} where
  -- only a flush empties a slot, and nothing fills it again
  was_occupied : (arrival : Arrival) (client : ClientHistory C) → (after_arrival arrival client).occupied ≡ true
      → client.occupied ≡ true
  was_occupied (flush_came flush) client h = (and_parts _ _ h).0
  was_occupied _ client h = h

-- a flush that empties a slot closes the client
open_by : (closing occupied closed : Bool) → closed ≡ false → (occupied && not closing) ≡ true
    → (closed || closing) ≡ false
open_by true true closed h e = absurd cc
open_by true false closed h e = absurd cc
open_by false occupied true h e = absurd cc
open_by false occupied false h e = refl

slot_by : (closing occupied closed : Bool) → occupied ≡ true
    → ((occupied && not closing) ≡ true) ⊎ ((closed || closing) ≡ true)
slot_by true occupied true h = inr refl
slot_by true occupied false h = inr refl
slot_by false true closed h = inl refl
slot_by false false closed h = absurd cc

module _ {C : Type 0} where
  open_after : (arrival : Arrival) (client : ClientHistory C) → client.closed ≡ false
      → (after_arrival arrival client).occupied ≡ true → (after_arrival arrival client).closed ≡ false
  open_after (log_came log) client h e = h
  open_after (metric_came metric) client h e = h
  open_after (session_ended update) client h e = h
  open_after (flush_came flush) client h e = open_by (is_closing flush) client.occupied client.closed h e

  -- a slot that was occupied stays so, or its client is closed
  slot_after : (arrival : Arrival) (client : ClientHistory C) → client.occupied ≡ true
      → ((after_arrival arrival client).occupied ≡ true) ⊎ ((after_arrival arrival client).closed ≡ true)
  slot_after (log_came log) client h = inl h
  slot_after (metric_came metric) client h = inl h
  slot_after (session_ended update) client h = inl h
  slot_after (flush_came flush) client h = slot_by (is_closing flush) client.occupied client.closed h

-- how many items a client has in a batch
abbrev pub limit_of : {C : Type 0} → ClientHistory C → ℕ
limit_of client = client.options.plain.max_batch_items

module _ {T : Type 0} (batch_in : EnvelopeItem → Option (List T)) where
  -- the batches in envelopes, of whatever client
  abbrev pub all_batches : List Envelope → List (List T)
  all_batches [] = []
  all_batches (envelope ∷ rest) = batches_among batch_in envelope.items ++ all_batches rest

  pub all_batches-append : (xs ys : List Envelope) → all_batches (xs ++ ys) ≡ all_batches xs ++ all_batches ys
  all_batches-append [] ys = refl
  all_batches-append (x ∷ xs) ys =
      ap (λ l. batches_among batch_in x.items ++ l) (all_batches-append xs ys)
      ∙ sym (append_assoc (batches_among batch_in x.items) (all_batches xs) (all_batches ys))

  among-append : (xs : List EnvelopeItem) (added : EnvelopeItem) → batch_in added ≡ None → batches_among batch_in
      (xs ++ added ∷ []) ≡ batches_among batch_in xs
  among-append [] added none = ap (λ (o : Option (List T)). option_to_list o ++ []) none
  among-append (x ∷ xs) added none = ap (λ l. option_to_list (batch_in x) ++ l) (among-append xs added none)

  module _ (batch_is : (i : EnvelopeItem) → is_batch_or_report i ≡ false → batch_in i ≡ None)
      (report_is : (report : ClientReport) → batch_in (item.ClientReport report) ≡ None) where
    among_none : (items : List EnvelopeItem) → list_any is_batch_or_report items ≡ false
        → batches_among batch_in items ≡ []
    among_none [] h = refl
    among_none (first ∷ rest) h =
        ap (λ (o : Option (List T)). option_to_list o ++ batches_among batch_in rest) (batch_is first (or_parts _ _ h).0)
        ∙ among_none rest (or_parts _ _ h).1

    reported : (report : Option ClientReport) (envelope : Envelope) → batches_among batch_in
        (with_report report envelope).items ≡ batches_among batch_in envelope.items
    reported None envelope = refl
    reported (Some report) envelope = among-append envelope.items (item.ClientReport report) (report_is report)

    addressed : (n : ℕ) (key : ClientKey) (b : Bool) → (n == key.number) ≡ b → (report : Option ClientReport)
        (envelopes : List Envelope)
        → batches_for batch_in n (for_client key report envelopes) ≡ (if b then all_batches envelopes else [])
    addressed n key true e report [] = refl
    addressed n key false e report [] = refl
    addressed n key true e report (first ∷ rest) =
        ap (λ (b : Bool). (if b then batches_among batch_in (with_report report first).items else [])
        ++ batches_for batch_in n (for_client key None rest)) e
        ∙ (ap (λ l. l ++ batches_for batch_in n (for_client key None rest)) (reported report first)
        ∙ ap (λ l. batches_among batch_in first.items ++ l) (addressed n key true e None rest))
    addressed n key false e report (first ∷ rest) =
        ap (λ (b : Bool). (if b then batches_among batch_in (with_report report first).items else [])
        ++ batches_for batch_in n (for_client key None rest)) e
        ∙ addressed n key false e None rest

    from_slot : (n : ℕ) (key : ClientKey) (occupied b : Bool) → (n == key.number) ≡ b → (report : Option ClientReport)
        (envelopes : List Envelope)
        → batches_for batch_in n (envelopes_from occupied key report envelopes) ≡
        (if b && occupied then all_batches envelopes else [])
    from_slot n key true true e report envelopes = addressed n key true e report envelopes
    from_slot n key true false e report envelopes = addressed n key false e report envelopes
    from_slot n key false true e report envelopes = refl
    from_slot n key false false e report envelopes = refl

    -- nothing more
    none_by : (f : Option Envelope) (total : ℕ → List (List T)) (n : ℕ) → total n ++ batches_by batch_in f n []
        ≡ total n
    none_by (Some given) total n = append-nil (total n)
    none_by None total n = append-nil (total n)

    mailed_none : (f : Option Envelope) (key : ClientKey) (report : Option ClientReport) (envelope : Envelope)
        → (f ≡ Some envelope) ⊎ ((f ≡ None) × (list_any is_batch_or_report envelope.items ≡ false)) → (n : ℕ)
        → batches_by batch_in f n ((key, with_report report envelope) ∷ []) ≡ []
    mailed_none (Some given) key report envelope none n = refl
    mailed_none None key report envelope (inl e) n = absurd cc
    mailed_none None key report envelope (inr none) n =
        mailed-at (n == key.number) (reported report envelope ∙ among_none envelope.items none.1)
      where
        mailed-at : (b : Bool) {l : List (List T)} → l ≡ [] → (if b then l else []) ++ [] ≡ []
        mailed-at true e = ap (λ l. l ++ []) e
        mailed-at false e = refl

    for-append : (n : ℕ) (sent more : List (ClientKey × Envelope)) → batches_for batch_in n (sent ++ more)
        ≡ batches_for batch_in n sent ++ batches_for batch_in n more
    for-append n [] more = refl
    for-append n (first ∷ rest) more =
        let here = if n == first.0.number then batches_among batch_in first.1.items else [] in
        ap (λ l. here ++ l) (for-append n rest more)
        ∙ sym (append_assoc here (batches_for batch_in n rest) (batches_for batch_in n more))

    by-append : (f : Option Envelope) (n : ℕ) (sent more : List (ClientKey × Envelope)) → batches_by batch_in f n
        (sent ++ more) ≡ batches_by batch_in f n sent ++ batches_by batch_in f n more
    by-append (Some given) n sent more = refl
    by-append None n sent more = for-append n sent more

    module _ {C : Type 0} (history : QueueHistories → List (BatchEntry T)) (new_history : (now : ℕ)
        → history (queues_from now) ≡ [])
        (arrival_is : (arrival : Arrival) (client : ClientHistory C)
        → batches (limit_of (after_arrival arrival client)) (history (after_arrival arrival client).queues) ≡ batches
        (limit_of client) (history client.queues) ++ all_batches (envelopes_on_arrival arrival client)) where
      added-at : (b : Bool) (total : ℕ → List (List T)) (n next : ℕ) (x client : ClientHistory C)
          (o : Option (ClientHistory C)) → (n == next) ≡ b → history x.queues ≡ [] → (n ≡ next → total n ≡ [])
          → (o ≡ Some client → total n ≡ batches (limit_of client) (history client.queues)) → (if b then Some x else o)
          ≡ Some client → total n ≡ batches (limit_of client) (history client.queues)
      added-at true total n next x client o e new_ none_ rest found =
          let same : x ≡ client = cc in none_ (same_number n next e)
          ∙ (sym (ap (batches (limit_of x)) new_)
          ∙ ap (λ (c : ClientHistory C). batches (limit_of c) (history c.queues)) same)
      added-at false total n next x client o e new_ none_ rest found = rest found

      opened-at : (b : Bool) (x c : ClientHistory C) (o : Option (ClientHistory C)) → x.closed ≡ false
          → (o ≡ Some c → c.closed ≡ false) → (if b then Some x else o) ≡ Some c → c.closed ≡ false
      opened-at true x c o opened rest found =
          let same : x ≡ c = cc in subst (λ (y : ClientHistory C). y.closed ≡ false) same opened
      opened-at false x c o opened rest found = rest found

      stays-open : (b : Bool) (old c : ClientHistory C) (arrival : Arrival) (o : Option (ClientHistory C))
          → old.closed ≡ false → (o ≡ Some c → c.closed ≡ false)
          → (if b then Some (after_arrival arrival old) else o) ≡ Some c → c.occupied ≡ true → c.closed ≡ false
      stays-open true old c arrival o opened rest found occupied =
          let same : after_arrival arrival old ≡ c = cc in
          subst (λ (y : ClientHistory C). y.closed ≡ false) same
          (open_after arrival old opened (subst (λ (y : ClientHistory C). y.occupied ≡ true) (sym same) occupied))
      stays-open false old c arrival o opened rest found occupied = rest found

      dropped-at : (b : Bool) (c : ClientHistory C) (o : Option (ClientHistory C)) (A : Type 0) → (o ≡ Some c → A)
          → (if b then None else o) ≡ Some c → A
      dropped-at true c o A rest found = absurd cc
      dropped-at false c o A rest found = rest found

      -- something comes to the queues of a client
      arrived-at : (b : Bool) (total more : ℕ → List (List T)) (n number : ℕ) (arrival : Arrival)
          (old c : ClientHistory C) (o : Option (ClientHistory C)) → (n == number) ≡ b
          → more n ≡ (if b && old.occupied then all_batches (envelopes_on_arrival arrival old) else [])
          → (old.occupied ≡ true → total number ≡ batches (limit_of old) (history old.queues))
          → (o ≡ Some c → total n ≡ batches (limit_of c) (history c.queues))
          → (if b then Some (after_arrival arrival old) else o) ≡ Some c → c.occupied ≡ true
          → total n ++ more n ≡ batches (limit_of c) (history c.queues)
      arrived-at true total more n number arrival old c o e m here rest found occupied =
          let same : after_arrival arrival old ≡ c = cc in
          let was : old.occupied ≡ true =
          was_occupied arrival old (subst (λ (x : ClientHistory C). x.occupied ≡ true) (sym same) occupied) in
          ap (λ l. total n ++ l)
          (m ∙ ap (λ (b : Bool). if b then all_batches (envelopes_on_arrival arrival old) else []) was)
          ∙ (ap (λ l. l ++ all_batches (envelopes_on_arrival arrival old)) (ap total (same_number n number e)
          ∙ here was)
          ∙ (sym (arrival_is arrival old) ∙ ap (λ (x : ClientHistory C). batches (limit_of x) (history x.queues)) same))
      arrived-at false total more n number arrival old c o e m here rest found occupied =
          ap (λ l. total n ++ l) m ∙ (append-nil (total n) ∙ rest found)

      -- these batches are what the clients handed out so far
      record Holds {P : Type 0} (total : ℕ → List (List T)) (world : World P C) : Type 0 where
        sent : (n : ℕ) (client : ClientHistory C) → value_at world.clients n ≡ Some client → client.occupied ≡ true
            → total n ≡ batches (limit_of client) (history client.queues)
        open_slot : (n : ℕ) (client : ClientHistory C) → value_at world.clients n ≡ Some client → client.occupied ≡ true
            → client.closed ≡ false
        fresh : (n : ℕ) → world.next.client ≤ n → total n ≡ []
        clients : AreBelow 0 world.next.client world.clients

      module _ {P : Type 0} where
        same_total : (total other : ℕ → List (List T)) (world : World P C) → ((n : ℕ) → other n ≡ total n)
            → Holds total world → Holds other world
        same_total total other world same h = record {
          sent = λ n client found occupied. same n ∙ h.sent n client found occupied;
          open_slot = h.open_slot;
          fresh = λ n high. same n ∙ h.fresh n high;
          clients = h.clients;
        }

        none_holds : (f : Option Envelope) (total : ℕ → List (List T)) (world : World P C) → Holds total world
            → Holds (λ n. total n ++ batches_by batch_in f n []) world
        none_holds f total world h = same_total total (λ n. total n ++ batches_by batch_in f n []) world
            (none_by f total) h

        added_holds : (total : ℕ → List (List T)) (world : World P C) (client : ClientHistory C)
            (books : List (ℕ × List LossEntry)) → history client.queues ≡ [] → client.closed ≡ false → Holds total world
            → Holds total (record world {
              next = record world.next { client = world.next.client + 1 };
              clients =
                  put world.clients world.next.client client;
              books = books;
            })
        added_holds total world client books new_ opened h = record {
          sent = λ n c found occupied. added-at (n == world.next.client) total n world.next.client client c
              (value_at world.clients n) refl new_
              (λ e. h.fresh n (omega (arith, e))) (λ at. h.sent n c at occupied)
              (sym (found_put world.clients world.next.client n client) ∙ found);
          open_slot = λ n c found occupied. opened-at (n == world.next.client) client c (value_at world.clients n) opened
              (λ at. h.open_slot n c at occupied) (sym (found_put world.clients world.next.client n client) ∙ found);
          fresh = λ n high. h.fresh n (omega (arith, high));
          clients = below_put world.next.client client world.clients h.clients;
        }

        dropped_holds : (total : ℕ → List (List T)) (world : World P C) (number : ℕ) → Holds total world
            → Holds total (record world { clients = without world.clients number })
        dropped_holds total world number h = record {
          sent = λ n c found occupied. dropped-at (n == number) c (value_at world.clients n)
              (total n ≡ batches (limit_of c) (history c.queues)) (λ at. h.sent n c at occupied)
              (sym (found_without 0 world.next.client world.clients number n h.clients) ∙ found);
          open_slot = λ n c found occupied. dropped-at (n == number) c (value_at world.clients n) (c.closed ≡ false)
              (λ at. h.open_slot n c at occupied)
              (sym (found_without 0 world.next.client world.clients number n h.clients) ∙ found);
          fresh = h.fresh;
          clients = below_without 0 world.next.client number world.clients h.clients;
        }

        arrived_holds : (total more : ℕ → List (List T)) (world : World P C) (key : ClientKey) (old : ClientHistory C)
            (arrival : Arrival) → client_at world key ≡ Some old → old.closed ≡ false
            → ((n : ℕ) → more n ≡ (if (n == key.number) && old.occupied then all_batches
            (envelopes_on_arrival arrival old) else []))
            → Holds total world → Holds (λ n. total n ++ more n)
            (with_client_history world key (after_arrival arrival old))
        arrived_holds total more world key old arrival found opened m h =
            let here : value_at world.clients key.number ≡ Some old =
            found_under world.tag world.clients key.tag key.number old found in
            let below : key.number < world.next.client =
            found_below 0 world.next.client key.number world.clients old h.clients here in
            record {
              sent = λ n c at occupied. arrived-at (n == key.number) total more n key.number arrival old c
                  (value_at world.clients n) refl (m n) (λ was. h.sent key.number old here was)
                  (λ e. h.sent n c e occupied)
                  (sym (found_replaced world.clients key.number n (after_arrival arrival old) old here) ∙ at) occupied;
              open_slot = λ n c at occupied. stays-open (n == key.number) old c arrival (value_at world.clients n) opened
                  (λ e. h.open_slot n c e occupied)
                  (sym (found_replaced world.clients key.number n (after_arrival arrival old) old here) ∙ at) occupied;
              fresh = λ n high. ap (λ l. total n ++ l)
                  (m n ∙ ap (λ (b : Bool). if b && old.occupied then all_batches (envelopes_on_arrival arrival old)
                  else []) (unequal n key.number (λ e. absurd (omega (arith, e, high, below)))))
                  ∙ (append-nil (total n) ∙ h.fresh n high);
              clients = below_replaced 0 world.next.client key.number (after_arrival arrival old)
                  world.clients h.clients;
            }

        sending_holds : (total : ℕ → List (List T)) (label : Label) (sent : List (ClientKey × Envelope))
            (world : World P C) → Holds total world → Holds total (after_sending label sent world)
        sending_holds total label [] world h = h
        sending_holds total label (first ∷ rest) world h =
            record { sent = h.sent; open_slot = h.open_slot; fresh = h.fresh; clients = h.clients }

      -- ---- all changes

      module _ {P : Type 0} (meanings : C → Meanings) where
        holds_change : (f : Option Envelope) {old new : World P C} {some : List (Effect P C)} {sent : List
            (ClientKey × Envelope)} → Change meanings f old some sent new
            → (total : ℕ → List (List T)) → Holds total old → Holds (λ n. total n ++ batches_by batch_in f n sent) new
        holds_change f (adds_client world client now queues open_ of_engine) total h =
            none_holds f total _ (added_holds total world client _ (ap history queues ∙ new_history now) open_ h)
        holds_change f (clones_client world original client now found) total h =
            none_holds f total _ (added_holds total world (clone_from now client) world.books (new_history now) refl h)
        holds_change f (drops_client world key client label found same none) total h =
            let d = dropped_holds total world key.number h in none_holds f total _
            (record { sent = d.sent; open_slot = d.open_slot; fresh = d.fresh; clients = d.clients })
        holds_change f (arrives world key client arrival is_off found open_ came) total h =
            sending_holds _ client.label _ _ (arrived_holds total _ world key client arrival found open_
            (λ n. ap (λ (b : Option Envelope). batches_by batch_in b n
            (send key client (envelopes_on_arrival arrival client)
            (with_client_history world key (after_arrival arrival client))).sent) is_off
            ∙ from_slot n key client.occupied (n == key.number) refl (pending_report world client.label)
            (envelopes_on_arrival arrival client)) h)
        holds_change f (accepts world key client arrival kind is_off found open_ came) total h =
            sending_holds _ client.label _ _ (arrived_holds total _ world key client arrival found open_
            (λ n. ap (λ (b : Option Envelope). batches_by batch_in b n
            (send key client (envelopes_on_arrival arrival client)
            (with_client_history world key (after_arrival arrival client))).sent) is_off
            ∙ from_slot n key client.occupied (n == key.number) refl (pending_report world client.label)
            (envelopes_on_arrival arrival client)) h)
        holds_change f (mails world key client envelope found occupied none told_) total h =
            same_total total _ _ (λ n. ap (λ l. total n ++ l) (mailed_none f key _ envelope none n)
            ∙ append-nil (total n)) (record { sent = h.sent; open_slot = h.open_slot; fresh = h.fresh; clients = h.clients })
        holds_change f _ total h =
            none_holds f total _ (record { sent = h.sent; open_slot = h.open_slot; fresh = h.fresh; clients = h.clients })

        holds_changes : (f : Option Envelope) {old new : World P C} {some : List (Effect P C)} {sent : List
            (ClientKey × Envelope)} → Changes meanings f old some sent new
            → (total : ℕ → List (List T)) → Holds total old → Holds (λ n. total n ++ batches_by batch_in f n sent) new
        holds_changes f (nothing world) total h = none_holds f total world h
        holds_changes f (one c) total h = holds_change f c total h
        holds_changes f (both {new = new} {sent = sent} {more = more} t u) total h =
            same_total (λ n. (total n ++ batches_by batch_in f n sent) ++ batches_by batch_in f n more)
            (λ n. total n ++ batches_by batch_in f n (sent ++ more)) new
            (λ n. ap (λ l. total n ++ l) (by-append f n sent more)
            ∙ sym (append_assoc (total n) (batches_by batch_in f n sent) (batches_by batch_in f n more)))
            (holds_changes f u (λ n. total n ++ batches_by batch_in f n sent) (holds_changes f t total h))

      -- ---- runs

      module _ {P : Type 0} (gives : P → Partial) (meanings : C → Meanings) where
        holds_next : (call : Call P C) (out : Out (Reply P C)) (world next : World P C) (total : ℕ → List (List T))
            → StepsTo gives meanings world call (Ok out) next → Holds total world
            → Holds (λ n. total n ++ batches_by batch_in (handed_in call) n out.sent) next
        holds_next call out world next total may h =
            let after = (step gives meanings call world).after in
            let trail : Trail meanings (handed_in call) world (effects meanings call out.reply) out.sent after =
            subst (λ answer. TellsBy meanings (handed_in call) world (effects meanings call) answer after) may.0
            (told_step gives meanings call world).tells in
            subst (Holds (λ n. total n ++ batches_by batch_in (handed_in call) n out.sent)) (sym may.1)
            (holds_changes meanings (handed_in call) trail.changes total h)

        holds_run : (calls : List (Call P C)) (answers : List (Result (Out (Reply P C)) Refusal))
            (world last : World P C) (total : ℕ → List (List T)) → Holds total world
            → Run gives meanings world calls answers last
            → Holds (λ n. total n ++ batches_sent batch_in n calls answers) last
        holds_run [] [] world last total h run = same_total total _ last (λ n. append-nil (total n))
            (subst (Holds total) (sym run) h)
        holds_run (call ∷ calls) (Ok out ∷ answers) world last total h run =
            same_total (λ n. (total n ++ batches_by batch_in (handed_in call) n out.sent)
            ++ batches_sent batch_in n calls answers) _ last
            (λ n. sym (append_assoc (total n) (batches_by batch_in (handed_in call) n out.sent)
            (batches_sent batch_in n calls answers)))
            (holds_run calls answers run.0 last (λ n. total n ++ batches_by batch_in (handed_in call) n out.sent)
            (holds_next call out world run.0 total run.1 h) run.2)
        holds_run (call ∷ calls) (Err refusal ∷ answers) world last total h run =
            holds_run calls answers run.0 last total (subst (Holds total) (sym run.1.1) h) run.2
        holds_run [] (answer ∷ answers) world last total h run = absurd run
        holds_run (call ∷ calls) [] world last total h run = absurd run

        holds_first : (tag start : ℕ) → Holds {P = P} (λ n. []) (starting_world tag start)
        holds_first tag start = record {
          sent = λ n c at is. absurd cc;
          open_slot = λ n c at is. absurd cc;
          fresh = λ n high. refl;
          clients = tt;
        }

        pub sends_accepted : (tag start : ℕ) (calls : List (Call P C))
            (answers : List (Result (Out (Reply P C)) Refusal)) (last : World P C)
            → Run gives meanings (starting_world tag start) calls answers last
            → SendsAccepted batch_in history calls answers last
        sends_accepted tag start calls answers last run number client found occupied =
            let h = holds_run calls answers (starting_world tag start) last (λ n. [])
            (holds_first tag start) run in
            let same : batches_sent batch_in number calls answers ≡ batches (limit_of client) (history client.queues) =
            h.sent number client found occupied in (
              ap (λ some. items_of some ++ queued_items (limit_of client) (history client.queues)) same ∙ batches_joined
                  (limit_of client) (history client.queues),
              subst (AllByRecursion (IsBatch (limit_of client))) (sym same)
                  (batches_sized (limit_of client) (history client.queues)),
            )

        -- ---- one client in a call

        -- a client whose slot was occupied before the call, and what it sent by now
        record InCall (n : ℕ) (total : List (List T)) (world : World P C) : Type 0 where
          so_far : (c : ClientHistory C) → value_at world.clients n ≡ Some c
              → (total ≡ batches (limit_of c) (history c.queues)) × ((c.occupied ≡ true) ⊎ (c.closed ≡ true))
          given : n < world.next.client
          clients : AreBelow 0 world.next.client world.clients

        padded : (f : Option Envelope) (n : ℕ) (total : List (List T)) (world : World P C) → InCall n total world
            → InCall n (total ++ batches_by batch_in f n []) world
        padded f n total world i = subst (λ l. InCall n l world) (sym (none_by f (λ k. total) n)) i

        in_call_added : (n : ℕ) (total : List (List T)) (world : World P C) (client : ClientHistory C)
            (books : List (ℕ × List LossEntry)) → InCall n total world → InCall n total (record world {
              next = record world.next { client = world.next.client + 1 };
              clients = put world.clients world.next.client client;
              books = books;
            })
        in_call_added n total world client books i = record {
          so_far = λ c at. i.so_far c
              (sym (others_put world.clients world.next.client n client (λ e. absurd (omega (arith, e, i.given)))) ∙ at);
          given = omega (arith, i.given);
          clients = below_put world.next.client client world.clients i.clients;
        }

        in_call_sending : (n : ℕ) (total : List (List T)) (label : Label) (sent : List (ClientKey × Envelope))
            (world : World P C) → InCall n total world → InCall n total (after_sending label sent world)
        in_call_sending n total label [] world i = i
        in_call_sending n total label (first ∷ rest) world i =
            record { so_far = i.so_far; given = i.given; clients = i.clients }

        still_occupied : (c : ClientHistory C) → (c.occupied ≡ true) ⊎ (c.closed ≡ true) → c.closed ≡ false
            → c.occupied ≡ true
        still_occupied c (inl h) e = h
        still_occupied c (inr h) e = absurd cc

        in_call_arrived : (n : ℕ) (total more : List (List T)) (world : World P C) (key : ClientKey)
            (old : ClientHistory C) (arrival : Arrival) → client_at world key ≡ Some old → old.closed ≡ false
            → more ≡ (if (n == key.number) && old.occupied then all_batches (envelopes_on_arrival arrival old) else [])
            → InCall n total world → InCall n (total ++ more) (with_client_history world key (after_arrival arrival old))
        in_call_arrived n total more world key old arrival found opened m i = record {
          so_far = λ c at. by_number (n == key.number) refl c m
              (sym (found_replaced world.clients key.number n (after_arrival arrival old) old here) ∙ at);
          given = i.given;
          clients = below_replaced 0 world.next.client key.number (after_arrival arrival old) world.clients i.clients;
        }
          where
            here : value_at world.clients key.number ≡ Some old
            here = found_under world.tag world.clients key.tag key.number old found

            by_number : (b : Bool) → (n == key.number) ≡ b → (c : ClientHistory C)
                → more ≡ (if b && old.occupied then all_batches (envelopes_on_arrival arrival old) else [])
                → (if b then Some (after_arrival arrival old) else value_at world.clients n) ≡ Some c
                → (total ++ more ≡ batches (limit_of c) (history c.queues))
                × ((c.occupied ≡ true) ⊎ (c.closed ≡ true))
            by_number true e c m at =
                let same : after_arrival arrival old ≡ c = cc in
                let was = i.so_far old (ap (value_at world.clients) (same_number n key.number e) ∙ here) in
                let occupied : old.occupied ≡ true = still_occupied old was.1 opened in (
                  ap (λ l. total ++ l)
                      (m ∙ ap (λ (b : Bool). if b then all_batches (envelopes_on_arrival arrival old) else []) occupied)
                      ∙ (ap (λ l. l ++ all_batches (envelopes_on_arrival arrival old)) was.0
                      ∙ (sym (arrival_is arrival old)
                      ∙ ap (λ (x : ClientHistory C). batches (limit_of x) (history x.queues)) same)),
                  subst (λ (x : ClientHistory C). (x.occupied ≡ true) ⊎ (x.closed ≡ true)) same
                      (slot_after arrival old occupied),
                )
            by_number false e c m at =
                let was = i.so_far c at in (ap (λ l. total ++ l) m ∙ (append-nil total ∙ was.0), was.1)

        in_call_change : (f : Option Envelope) {old new : World P C} {some : List (Effect P C)} {sent : List
            (ClientKey × Envelope)} → Change meanings f old some sent new → (n : ℕ) (total : List (List T))
            → InCall n total old → InCall n (total ++ batches_by batch_in f n sent) new
        in_call_change f (adds_client world client now queues open_ of_engine) n total i =
            padded f n total _ (in_call_added n total world client _ i)
        in_call_change f (clones_client world original client now found) n total i =
            padded f n total _ (in_call_added n total world (clone_from now client) world.books i)
        in_call_change f (drops_client world key client label found same none) n total i =
            padded f n total _ (record {
              so_far = λ c at. dropped-at (n == key.number) c (value_at world.clients n)
                  ((total ≡ batches (limit_of c) (history c.queues)) × ((c.occupied ≡ true) ⊎ (c.closed ≡ true)))
                  (i.so_far c)
                  (sym (found_without 0 world.next.client world.clients key.number n i.clients) ∙ at);
              given = i.given;
              clients = below_without 0 world.next.client key.number world.clients i.clients;
            })
        in_call_change f (arrives world key client arrival is_off found open_ came) n total i =
            in_call_sending n _ client.label _ _ (in_call_arrived n total _ world key client arrival found open_
            (ap (λ (b : Option Envelope). batches_by batch_in b n
            (send key client (envelopes_on_arrival arrival client)
            (with_client_history world key (after_arrival arrival client))).sent) is_off
            ∙ from_slot n key client.occupied (n == key.number) refl (pending_report world client.label)
            (envelopes_on_arrival arrival client)) i)
        in_call_change f (accepts world key client arrival kind is_off found open_ came) n total i =
            in_call_sending n _ client.label _ _ (in_call_arrived n total _ world key client arrival found open_
            (ap (λ (b : Option Envelope). batches_by batch_in b n
            (send key client (envelopes_on_arrival arrival client)
            (with_client_history world key (after_arrival arrival client))).sent) is_off
            ∙ from_slot n key client.occupied (n == key.number) refl (pending_report world client.label)
            (envelopes_on_arrival arrival client)) i)
        in_call_change f (mails world key client envelope found occupied none told_) n total i =
            subst (λ l. InCall n l (with_entry world client.label report_point))
            (sym (ap (λ l. total ++ l) (mailed_none f key _ envelope none n) ∙ append-nil total))
            (record { so_far = i.so_far; given = i.given; clients = i.clients })
        in_call_change f _ n total i =
            padded f n total _ (record { so_far = i.so_far; given = i.given; clients = i.clients })

        in_call_changes : (f : Option Envelope) {old new : World P C} {some : List (Effect P C)} {sent : List
            (ClientKey × Envelope)} → Changes meanings f old some sent new → (n : ℕ) (total : List (List T))
            → InCall n total old → InCall n (total ++ batches_by batch_in f n sent) new
        in_call_changes f (nothing world) n total i = padded f n total world i
        in_call_changes f (one c) n total i = in_call_change f c n total i
        in_call_changes f (both {new = new} {sent = sent} {more = more} t u) n total i =
            subst (λ l. InCall n l new)
            (append_assoc total (batches_by batch_in f n sent) (batches_by batch_in f n more)
            ∙ ap (λ l. total ++ l) (sym (by-append f n sent more)))
            (in_call_changes f u n (total ++ batches_by batch_in f n sent) (in_call_changes f t n total i))

        same_client : (o : Option (ClientHistory C)) (x y : ClientHistory C) → o ≡ Some x → o ≡ Some y → x ≡ y
        same_client o x y p q = cc

        in_call_first : (total : ℕ → List (List T)) (world : World P C) (n : ℕ) (client : ClientHistory C)
            → value_at world.clients n ≡ Some client → client.occupied ≡ true → Holds total world
            → InCall n (total n) world
        in_call_first total world n client found occupied h = record {
          so_far = λ c at.
              let mine : c.occupied ≡ true = subst (λ (x : ClientHistory C). x.occupied ≡ true)
              (same_client (value_at world.clients n) client c found at) occupied in
              (h.sent n c at mine, inl mine);
          given = found_below 0 world.next.client n world.clients client h.clients found;
          clients = h.clients;
        }

        -- ---- the drop of a client

        module _ (flushed_is : (client : ClientHistory C) → history (after_arrival (flush_came All) client).queues
            ≡ cut ∷ history client.queues)
            (empty_is : (client : ClientHistory C) → HasNothingWaiting client
            → queued_items (limit_of client) (history client.queues) ≡ []) where
          required : {X Y : Type 0} (refusal : Refusal) (world : World P C) (o : Option X) (go : X → Outcome P C Y)
              (make : Y → Reply P C) (out : Out (Reply P C)) (Q : Type 0)
              → map_answer make (require_some refusal world o go).answer ≡ Ok out
              → ((x : X) → o ≡ Some x → map_answer make (go x).answer ≡ Ok out → Q) → Q
          required refusal world None go make out Q e rest = absurd cc
          required refusal world (Some x) go make out Q e rest = rest x refl e

          allowed : {Y : Type 0} (refusal : Refusal) (world : World P C) (b : Bool) (go : Outcome P C Y)
              (make : Y → Reply P C) (out : Out (Reply P C)) (Q : Type 0)
              → map_answer make (require refusal world b go).answer ≡ Ok out
              → (map_answer make go.answer ≡ Ok out → Q) → Q
          allowed refusal world true go make out Q e rest = rest e
          allowed refusal world false go make out Q e rest = absurd cc

          abbrev sent_of : Result (Out (Reply P C)) Refusal → List (ClientKey × Envelope)
          sent_of (Ok out) = out.sent
          sent_of (Err refusal) = []

          held_key : (key : ClientKey) (world : World P C) (o : Option (ClientHistory C)) (x : ClientState C)
              → client_at world key ≡ o → option_map stored_client o ≡ Some x
              → (client : ClientHistory C) × (client_at world key ≡ Some client)
          held_key key world None x e f = absurd cc
          held_key key world (Some client) x e f = (client, e)

          -- what a drop hands out, of a client that is held
          dropped_sends : (key : ClientKey) (out : Out (Reply P C)) (world : World P C)
              → (client_step gives meanings (DropClient key) world).answer ≡ Ok out
              → ((client : ClientHistory C) × (client_at world key ≡ Some client))
              × (out.sent ≡ (flush_queues All key world).sent)
          unfolding client_step drop_client
          dropped_sends key out world e =
              required Stale world (stored_client_at world key) _ (λ _. reply.Done) out _ e (λ client found e.
              allowed StillNamed world (not (is_client_named key world.hubs)) _ (λ _. reply.Done) out _ e (λ e.
              allowed StillNamed world (not (has_session_of key world.sessions)) _ (λ _. reply.Done) out _ e (λ e.
              allowed StillNamed world (not (has_transaction_of (span_table world) key)) _ (λ _. reply.Done) out _ e
              (λ e. (held_key key world (client_at world key) client refl found, ap sent_of (sym e))))))

          flushed_sent : (key : ClientKey) (world : World P C) (client : ClientHistory C)
              → client_at world key ≡ Some client → client.closed ≡ false
              → (flush_queues All key world).sent
              ≡ envelopes_from client.occupied key (pending_report world client.label)
              (envelopes_on_arrival (flush_came All) client)
          unfolding flush_queues
          flushed_sent key world client found opened = rw found (rw opened refl)

          dropped_is_sent : (total : ℕ → List (List T)) (n : ℕ) (key : ClientKey) (out : Out (Reply P C))
              (world : World P C) (client : ClientHistory C) → (n == key.number) ≡ true
              → value_at world.clients n ≡ Some client → client.occupied ≡ true → Holds total world
              → (client_step gives meanings (DropClient key) world).answer ≡ Ok out
              → AreSent (total n ++ batches_by batch_in None n out.sent) (limit_of client) []
              (accepted_items (history client.queues))
          dropped_is_sent total n key out world client own found occupied h answered =
              let d = dropped_sends key out world answered in
              let here : value_at world.clients n ≡ Some d.0.0 =
              ap (value_at world.clients) (same_number n key.number own)
              ∙ found_under world.tag world.clients key.tag key.number d.0.0 d.0.1 in
              let same : d.0.0 ≡ client = same_client (value_at world.clients n) d.0.0 client here found in
              let at_key : client_at world key ≡ Some client = d.0.1 ∙ ap Some same in
              let sent : batches_by batch_in None n out.sent ≡ all_batches (envelopes_on_arrival (flush_came All) client) =
              ap (batches_for batch_in n) (d.1 ∙ flushed_sent key world client at_key (h.open_slot n client found occupied))
              ∙ (from_slot n key client.occupied (n == key.number) refl (pending_report world client.label)
              (envelopes_on_arrival (flush_came All) client)
              ∙ ((λ i. if own i && client.occupied then all_batches (envelopes_on_arrival (flush_came All) client) else [])
              ∙ ap (λ (b : Bool). if b then all_batches (envelopes_on_arrival (flush_came All) client) else []) occupied)) in
              let all : total n ++ batches_by batch_in None n out.sent
              ≡ batches (limit_of client) (cut ∷ history client.queues) =
              ap (λ l. total n ++ l) sent
              ∙ (ap (λ l. l ++ all_batches (envelopes_on_arrival (flush_came All) client)) (h.sent n client found occupied)
              ∙ (sym (arrival_is (flush_came All) client) ∙ ap (batches (limit_of client)) (flushed_is client))) in (
                ap (λ l. items_of l ++ []) all ∙ batches_joined (limit_of client) (cut ∷ history client.queues),
                subst (AllByRecursion (IsBatch (limit_of client))) (sym all)
                    (batches_sized (limit_of client) (cut ∷ history client.queues)),
              )

          -- ---- each call

          sent_by_call : (call : Call P C) (out : Out (Reply P C)) (world next : World P C) (total : ℕ → List (List T))
              → StepsTo gives meanings world call (Ok out) next → IsNumbered world → Holds total world → (n : ℕ)
              (closed : Bool) → IsClosedBy n closed next
              → (client : ClientHistory C) → value_at world.clients n ≡ Some client → client.occupied ≡ true
              → IsSentBy history closed (total n ++ batches_by batch_in (handed_in call) n out.sent) client
              (value_at next.clients n)
          sent_by_call call out world next total may numbered h n closed shut client found occupied =
              by_held (value_at next.clients n) refl
            where
              trail : Trail meanings (handed_in call) world (effects meanings call out.reply) out.sent next
              trail = trail_of gives meanings call out world next may

              after_ : InCall n (total n ++ batches_by batch_in (handed_in call) n out.sent) next
              after_ = in_call_changes (handed_in call) trail.changes n (total n)
                  (in_call_first total world n client found occupied h)

              drops : list_any (is_dropped n) trail.effects ≡ true
                  → AreSent (total n ++ batches_by batch_in (handed_in call) n out.sent)
                  (limit_of client) [] (accepted_items (history client.queues))
              drops d = by_call call (call_drops n meanings call out.reply
                  (sym (ap (list_any (is_dropped n)) trail.same) ∙ (own_dropped n meanings trail.effects ∙ d))) may.0
                where
                  by_call : (call : Call P C) → Drops n meanings call
                      → IsAnswer (step gives meanings call world).answer (Ok out) (needs call)
                      → AreSent (total n ++ batches_by batch_in (handed_in call) n out.sent)
                      (limit_of client) [] (accepted_items (history client.queues))
                  by_call (group.Client (DropClient key)) own answered =
                      dropped_is_sent total n key out world client own found occupied h answered
                  by_call call own answered = absurd own

              -- of a closed client nothing waits
              waits : (b : Bool) (c : ClientHistory C) → c.closed ≡ b → (c.closed ≡ true → HasNothingWaiting c)
                  → what_waits history b c ≡ queued_items (limit_of c) (history c.queues)
              waits true c is none = sym (empty_is c (none is))
              waits false c is none = refl

              by_held : (o : Option (ClientHistory C)) → value_at next.clients n ≡ o
                  → IsSentBy history closed (total n ++ batches_by batch_in (handed_in call) n out.sent) client o
              by_held (Some c) at =
                  let same = (after_.so_far c at).0 in
                  let is = shut.so_far c at in (
                    (λ i. items_of (same i) ++ waits closed c is.0 is.1 i)
                        ∙ batches_joined (limit_of c) (history c.queues),
                    subst (AllByRecursion (IsBatch (limit_of c))) (sym same)
                        (batches_sized (limit_of c) (history c.queues)),
                  )
              by_held None at = by_drop (list_any (is_dropped n) trail.effects) refl
                where
                  none : is_some (value_at next.clients n) ≡ true → ⊥
                  none h = let no : false ≡ true = sym (ap is_some at) ∙ h in absurd cc

                  by_drop : (b : Bool) → list_any (is_dropped n) trail.effects ≡ b
                      → AreSent (total n ++ batches_by batch_in (handed_in call) n out.sent)
                      (limit_of client) [] (accepted_items (history client.queues))
                  by_drop true e = drops e
                  by_drop false e =
                      absurd (none (held_changes n meanings trail.changes numbered e (ap is_some found)))

          sends_run : (calls : List (Call P C)) (answers : List (Result (Out (Reply P C)) Refusal))
              (world last : World P C) (run : Run gives meanings world calls answers last) (n : ℕ) (closed : Bool)
              (total : ℕ → List (List T)) → IsNumbered world → Holds total world → IsClosedBy n closed world
              → SendsAtEachCall batch_in history gives meanings n closed (total n) world calls answers last run
          sends_run [] answers world last run n closed total m h k = tt
          sends_run (call ∷ calls) [] world last run n closed total m h k = tt
          sends_run (call ∷ calls) (Err refusal ∷ answers) world last run n closed total m h k =
              sends_run calls answers run.0 last run.2 n closed total (subst IsNumbered (sym run.1.1) m)
              (subst (Holds total) (sym run.1.1) h) (subst (IsClosedBy n closed) (sym run.1.1) k)
          sends_run (call ∷ calls) (Ok out ∷ answers) world last run n closed total m h k =
              let shut = closed_next gives meanings call out world run.0 run.1 m n closed k in (
                λ client found occupied. sent_by_call call out world run.0 total run.1 m h n (closed || closes n call) shut
                    client found occupied,
                sends_run calls answers run.0 last run.2 n (closed || closes n call)
                    (λ k. total k ++ batches_by batch_in (handed_in call) k out.sent)
                    (numbered_changes meanings (trail_of gives meanings call out world run.0 run.1).changes m)
                    (holds_next call out world run.0 total run.1 h) shut,
              )

          pub sends_at_each_call : (tag start : ℕ) (calls : List (Call P C))
              (answers : List (Result (Out (Reply P C)) Refusal)) (last : World P C)
              (run : Run gives meanings (starting_world tag start) calls answers last) (n : ℕ)
              → SendsAtEachCall batch_in history gives meanings n false [] (starting_world tag start) calls answers last run
          sends_at_each_call tag start calls answers last run n =
              sends_run calls answers (starting_world tag start) last run n false (λ k. []) (none_numbered tag start)
              (holds_first tag start) (none_closed tag start n)
