-- A label has a book exactly where a client has the label.
use Rattle.std.proofs.Common.{◌≡◌, refl, ap, ◌∙◌, sym, subst, ℕ, ◌+◌, List, [], ◌∷◌, Bool, true, false, arith}
use Rattle.std.proofs.lemmas.Bool.{and_parts, or_right}
use Rattle.std.proofs.Math.Bool.{and-false}
use Rattle.std.specs.Prelude.{Option, Some, None, Result, Ok, Err, ◌==◌, ◌&&◌, ◌||◌, if◌then◌else◌}
use Rattle.std.specs.Option.{is_some}
use Rattle.sentry_plain.specs.Tables.{value_at, put, replace_at, without}
use Rattle.sentry_plain.proofs.NumberLemmas.{same_number, equal_to_itself, equal_turned}
use Rattle.sentry_base.specs.Callbacks.{Partial}
use Rattle.sentry_base.specs.declared.protocol.envelope.Envelope.{Envelope}
use Rattle.sentry_base.specs.declared.protocol.keys.ClientKey.{ClientKey}
use Rattle.sentry_base.specs.declared.protocol.keys.Label.{Label}
use Rattle.sentry_base.specs.declared.protocol.refusal.Refusal.{Refusal}
use Rattle.sentry_client_reports.specs.LossBooks.{LossEntry, report_point, engine_losses, drained_losses}
use Rattle.sentry_options.specs.Meanings.{Meanings}
use Rattle.sentry_sending.specs.Sending.{send, after_sending}
use Rattle.sentry_state.specs.declared.state.Out.{Out}
use Rattle.sentry_state.specs.Books.{with_book, with_entry, is_label, has_client_of, has_book}
use Rattle.sentry_state.specs.Changes.{with_client_history}
use Rattle.sentry_state.specs.Clients.{clone_from}
use Rattle.sentry_state.specs.Worlds.{World, ClientHistory, starting_world}
use Rattle.sentry_state.proofs.Keeping.{replace_absent}
use Rattle.sentry_calls.specs.declared.call.Call.{Call}
use Rattle.sentry_calls.specs.declared.call.Reply.{Reply}
use Rattle.sentry_calls.specs.Runs.{Run, StepsTo}
use Rattle.sentry_laws.proofs.Effects.{Effect}
use Rattle.sentry_laws.proofs.Changes.{Change, Arrival, log_came, metric_came, session_ended, flush_came, after_arrival, envelopes_on_arrival, adds_client, clones_client, drops_client, arrives, accepts, mails, loses, takes_report, absorbs}
use Rattle.sentry_laws.specs.Reachable.{BooksAreOfClients}
use Rattle.sentry_laws.proofs.Tables.{AreBelow, below_put, below_replaced, below_without}
use Rattle.sentry_laws.proofs.Found.{found_put, found_replaced}
use Rattle.sentry_laws.proofs.Increasing.{IsIncreasing, increasing_put, increasing_replaced, increasing_without, without_if}
use Rattle.sentry_laws.proofs.Absorbed.{call_keeps}
use Rattle.sentry_laws.specs.Losses.{AbsorbedStays}
use Rattle.sentry_laws.proofs.Tests.{passes_put, passes_replaced, passes_without, passes_found, or_none}
use Rattle.sentry_laws.proofs.Trails.{found_under}
use Rattle.sentry_laws.proofs.Keeping.{kept_by_run, kept_by_call}

or_known : (a b : Bool) → (b ≡ true → a ≡ true) → (a || b) ≡ a
or_known true b h = refl
or_known false true h = absurd (let e : false ≡ true = h refl in cc)
or_known false false h = refl

pub is_own_label : (label : Label) → is_label label label ≡ true
is_own_label label = ap (λ b. b && (label.number == label.number)) (equal_to_itself label.tag) ∙ equal_to_itself label.number

-- ---- whether a book is there

module _ (books : List (ℕ × List LossEntry)) where
  some_put : (n k : ℕ) (history : List LossEntry) → is_some (value_at (put books n history) k) ≡
      ((k == n) || is_some (value_at books k))
  some_put n k history = ap is_some (found_put books n k history) ∙ some_if (k == n) (value_at books k)
    where
      some_if : (b : Bool) (o : Option (List LossEntry)) → is_some (if b then Some history else o) ≡ (b || is_some o)
      some_if true o = refl
      some_if false o = refl

  book-at : (b : Bool) (n k : ℕ) → is_some (value_at books n) ≡ b
      → is_some (value_at (if b then books else put books n []) k) ≡ ((k == n) || is_some (value_at books k))
  book-at true n k there =
      sym (known (k == n) (is_some (value_at books k)) (λ e. ap (λ j. is_some (value_at books j)) (same_number k n e)
      ∙ there))
    where
      known : (a b : Bool) → (a ≡ true → b ≡ true) → (a || b) ≡ b
      known true b h = sym (h refl)
      known false b h = refl
  book-at false n k there = some_put n k []

  some_book : (n k : ℕ) → is_some (value_at (with_book books n) k) ≡ ((k == n) || is_some (value_at books k))
  some_book n k = book-at (is_some (value_at books n)) n k refl

  increasing_book-at : (b : Bool) (n : ℕ) → IsIncreasing 0 books → IsIncreasing 0 (if b then books else put books n [])
  increasing_book-at true n i = i
  increasing_book-at false n i = increasing_put 0 n [] books (omega arith) i

  some_replaced-by : (n k : ℕ) (history : List LossEntry) (o : Option (List LossEntry)) → value_at books n ≡ o
      → is_some (value_at (replace_at books n history) k) ≡ is_some (value_at books k)
  some_replaced-by n k history None at = ap (λ m. is_some (value_at m k)) (replace_absent books n history at)
  some_replaced-by n k history (Some old) at = ap is_some (found_replaced books n k history old at) ∙ some_if (k == n)
      refl
    where
      some_if : (b : Bool) → (k == n) ≡ b → is_some (if b then Some history else value_at books k) ≡ is_some
          (value_at books k)
      some_if true e = sym (ap is_some (ap (value_at books) (same_number k n e) ∙ at))
      some_if false e = refl

  pub some_replaced : (n k : ℕ) (history : List LossEntry) → is_some (value_at (replace_at books n history) k) ≡ is_some
      (value_at books k)
  some_replaced n k history = some_replaced-by n k history (value_at books n) refl

module _ {C : Type 0} where
  pub arrival_label : (arrival : Arrival) (client : ClientHistory C) → (after_arrival arrival client).label ≡ client.label
  arrival_label (log_came log) client = refl
  arrival_label (metric_came metric) client = refl
  arrival_label (session_ended update) client = refl
  arrival_label (flush_came flush) client = refl

added-by : (a s some any own : Bool) → own ≡ (a && s) → (a && some) ≡ any → (a && (s || some)) ≡ (any || own)
added-by true true some any own o e = sym (or_right any own o)
added-by true false some any own o e = e ∙ sym (ap (λ b. any || b) o ∙ or_none any)
added-by false s some any own o e = sym (ap (λ b. b || own) (sym e) ∙ o)

same_label : (one_ other : Label) → one_.tag ≡ other.tag → one_.number ≡ other.number → one_ ≡ other
same_label one_ other t n = ap (λ t. record { tag = t; number = one_.number }) t
    ∙ ap (λ n. record { tag = other.tag; number = n }) n

increasing_left : (left : Bool) (n : ℕ) (books : List (ℕ × List LossEntry)) → IsIncreasing 0 books
    → IsIncreasing 0 (if left then books else without books n)
increasing_left true n books i = i
increasing_left false n books i = increasing_without 0 n books i

module _ {P C : Type 0} where
  -- a label has a book exactly where a client has it
  pub record HasBooks (world : World P C) : Type 0 where
    pub clients : AreBelow 0 world.next.client world.clients
    pub books : IsIncreasing 0 world.books
    pub same : (label : Label) → has_book world label ≡ has_client_of label world.clients

  -- the label of a client has a book, and the tag of the engine
  pub label_known : (world : World P C) (n : ℕ) (client : ClientHistory C) → HasBooks world
      → value_at world.clients n ≡ Some client → has_book world client.label ≡ true
  label_known world n client h found =
      h.same client.label ∙ passes_found (λ (c : ClientHistory C). is_label client.label c.label)
      world.clients n client found (is_own_label client.label)

  pub entered_books : (world : World P C) (label : Label) (entry : LossEntry) → HasBooks world
      → HasBooks (with_entry world label entry)
  entered_books world label entry h = record {
    clients = h.clients;
    books = increasing_replaced 0 label.number _ world.books h.books;
    same = λ other. ap (λ b. (other.tag == world.tag) && b) (some_replaced world.books label.number other.number _)
        ∙ h.same other;
  }

  sending_books : (label : Label) (sent : List (ClientKey × Envelope)) (world : World P C) → HasBooks world
      → HasBooks (after_sending label sent world)
  sending_books label [] world h = h
  sending_books label (first ∷ rest) world h = entered_books world label report_point h

  -- the books and the clients stay
  unmoved : (world new : World P C) → new.clients ≡ world.clients → new.books ≡ world.books → new.tag ≡ world.tag
      → new.next.client ≡ world.next.client → HasBooks world → HasBooks new
  unmoved world new c b t n h = record {
    clients = subst (λ m. AreBelow 0 m new.clients) (sym n) (subst (AreBelow 0 world.next.client) (sym c) h.clients);
    books = subst (IsIncreasing 0) (sym b) h.books;
    same = λ label. ap (λ m. (label.tag == new.tag) && is_some (value_at m label.number)) b
        ∙ (ap (λ m. (label.tag == m) && is_some (value_at world.books label.number)) t
        ∙ (h.same label ∙ ap (has_client_of label) (sym c)));
  }

  added_books : (world : World P C) (client : ClientHistory C) → (client.label.tag == world.tag) ≡ true → HasBooks world
      → HasBooks (record world {
        next = record world.next { client = world.next.client + 1 };
        clients = put world.clients world.next.client client;
        books = with_book world.books client.label.number;
      })
  added_books world client own h = record {
    clients = below_put world.next.client client world.clients h.clients;
    books = increasing_book-at world.books (is_some (value_at world.books client.label.number))
        client.label.number h.books;
    same = λ label.
        ap (λ b. (label.tag == world.tag) && b) (some_book world.books client.label.number label.number)
        ∙ (added-by (label.tag == world.tag) (label.number == client.label.number)
        (is_some (value_at world.books label.number)) (has_client_of label world.clients) (is_label label client.label)
        (ap (λ t. (t == label.tag) && (client.label.number == label.number)) (same_number client.label.tag world.tag own)
        ∙ (ap (λ b. b && (client.label.number == label.number)) (equal_turned world.tag label.tag)
        ∙ ap (λ b. (label.tag == world.tag) && b) (equal_turned client.label.number label.number)))
        (h.same label)
        ∙ sym (passes_put (λ (c : ClientHistory C). is_label label c.label)
        world.next.client client world.clients h.clients));
  }

  cloned_books : (world : World P C) (n : ℕ) (client clone : ClientHistory C) → value_at world.clients n ≡ Some client
      → clone.label ≡ client.label → HasBooks world → HasBooks (record world {
        next = record world.next { client = world.next.client + 1 };
        clients = put world.clients world.next.client clone;
      })
  cloned_books world n client clone found like h = record {
    clients = below_put world.next.client clone world.clients h.clients;
    books = h.books;
    same = λ label. let has = λ (c : ClientHistory C). is_label label c.label in
        h.same label
        ∙ (sym (or_known (has_client_of label world.clients) (is_label label clone.label)
        (λ is. passes_found has world.clients n client found (ap (is_label label) (sym like) ∙ is)))
        ∙ sym (passes_put has world.next.client clone world.clients h.clients));
  }

  pub changed_books : (world : World P C) (n : ℕ) (old new : ClientHistory C) → value_at world.clients n ≡ Some old
      → new.label ≡ old.label → HasBooks world → HasBooks (record world { clients = replace_at world.clients n new })
  changed_books world n old new found like h = record {
    clients = below_replaced 0 world.next.client n new world.clients h.clients;
    books = h.books;
    same = λ label. h.same label ∙ sym (passes_replaced (λ (c : ClientHistory C). is_label label c.label)
        world.clients n new old found (ap (is_label label) like));
  }

  -- the label of the client that is dropped
  dropped_own : (world : World P C) (n : ℕ) (client : ClientHistory C) → value_at world.clients n ≡ Some client
      → HasBooks world
      → (left : Bool) → has_client_of client.label (without world.clients n) ≡ left
      → ((client.label.tag == world.tag) && is_some
      (value_at (if left then world.books else without world.books client.label.number) client.label.number)) ≡ left
  dropped_own world n client found h true is = label_known world n client h found
  dropped_own world n client found h false is =
      ap (λ o. (client.label.tag == world.tag) && is_some o)
      (without_if 0 client.label.number client.label.number world.books h.books
      ∙ ap (λ b. if b then None else value_at world.books client.label.number) (equal_to_itself client.label.number))
      ∙ and-false (client.label.tag == world.tag)

  -- another label
  other_book : (world : World P C) (label other : Label) (left : Bool) → HasBooks world → (other.tag == world.tag)
      ≡ true → is_label label other ≡ false
      → ((label.tag == world.tag) && is_some (value_at (if left then world.books else without world.books other.number)
      label.number)) ≡ has_book world label
  other_book world label other true h own apart = refl
  other_book world label other false h own apart =
      by_number (label.number == other.number) (label.tag == world.tag) refl refl
    where
      by_number : (s a : Bool) → (label.number == other.number) ≡ s → (label.tag == world.tag) ≡ a
          → (a && is_some (value_at (without world.books other.number) label.number)) ≡
          (a && is_some (value_at world.books label.number))
      by_number s false e t = refl
      by_number false true e t =
          ap is_some (without_if 0 other.number label.number world.books h.books
          ∙ ap (λ b. if b then None else value_at world.books label.number) e)
      by_number true true e t =
          let tags : label.tag ≡ other.tag = same_number label.tag world.tag t
          ∙ sym (same_number other.tag world.tag own) in
          let both_ : is_label label other ≡ true =
          ap (λ n. (n == label.tag) && (other.number == label.number)) (sym tags)
          ∙ (ap (λ b. b && (other.number == label.number)) (equal_to_itself label.tag)
          ∙ (equal_turned other.number label.number ∙ e)) in
          absurd cc

  dropped-by : (world : World P C) (n : ℕ) (client : ClientHistory C) (label : Label)
      → value_at world.clients n ≡ Some client → HasBooks world
      → (left : Bool) → has_client_of client.label (without world.clients n) ≡ left → (b : Bool)
      → is_label label client.label ≡ b
      → ((label.tag == world.tag) && is_some
      (value_at (if left then world.books else without world.books client.label.number) label.number))
      ≡ has_client_of label (without world.clients n)
  dropped-by world n client label found h left is true e =
      let same : client.label ≡ label =
      same_label client.label label
      (same_number client.label.tag label.tag (and_parts (client.label.tag == label.tag) _ e).0)
      (same_number client.label.number label.number (and_parts (client.label.tag == label.tag) _ e).1) in
      subst (λ l. ((l.tag == world.tag) && is_some
      (value_at (if left then world.books else without world.books client.label.number) l.number)) ≡ has_client_of l
      (without world.clients n)) same
      (dropped_own world n client found h left is ∙ sym is)
  dropped-by world n client label found h left is false e =
      other_book world label client.label left h
      (and_parts (client.label.tag == world.tag) _ (label_known world n client h found)).0 e
      ∙ (h.same label ∙ sym (passes_without (λ (c : ClientHistory C). is_label label c.label)
      world.clients n client found e))

  dropped_books : (world : World P C) (n : ℕ) (client : ClientHistory C) → value_at world.clients n ≡ Some client
      → HasBooks world → HasBooks (record world {
        clients = without world.clients n;
        books = if has_client_of client.label (without world.clients n)
            then world.books else without world.books client.label.number;
      })
  dropped_books world n client found h = record {
    clients = below_without 0 world.next.client n world.clients h.clients;
    books = increasing_left (has_client_of client.label (without world.clients n))
        client.label.number world.books h.books;
    same = λ label. dropped-by world n client label found h (has_client_of client.label (without world.clients n)) refl
        (is_label label client.label) refl;
  }

module _ {P C : Type 0} (meanings : C → Meanings) where
  pub books_change : {given : Option Envelope} {old new : World P C} {some : List (Effect P C)} {sent : List
      (ClientKey × Envelope)} → Change meanings given old some sent new → HasBooks old → HasBooks new
  books_change (adds_client world client now queues open_ of_engine) h = added_books world client of_engine h
  books_change (clones_client world original client now found) h =
      cloned_books world original.number client (clone_from now client)
      (found_under world.tag world.clients original.tag original.number client found) refl h
  books_change (drops_client world key client label found same none) h =
      subst (λ (l : Label). HasBooks (record world {
        clients = without world.clients key.number;
        books =
            if has_client_of l (without world.clients key.number) then world.books else without world.books l.number;
      }))
      (sym same)
      (dropped_books world key.number client (found_under world.tag world.clients key.tag key.number client found) h)
  books_change (arrives world key client arrival is_off found open_ came) h =
      sending_books client.label (send key client (envelopes_on_arrival arrival client)
      (with_client_history world key (after_arrival arrival client))).sent
      (with_client_history world key (after_arrival arrival client))
      (changed_books world key.number client (after_arrival arrival client)
      (found_under world.tag world.clients key.tag key.number client found) (arrival_label arrival client) h)
  books_change (accepts world key client arrival kind is_off found open_ came) h =
      sending_books client.label (send key client (envelopes_on_arrival arrival client)
      (with_client_history world key (after_arrival arrival client))).sent
      (with_client_history world key (after_arrival arrival client))
      (changed_books world key.number client (after_arrival arrival client)
      (found_under world.tag world.clients key.tag key.number client found) (arrival_label arrival client) h)
  books_change (mails world key client envelope found occupied none told_) h = entered_books world client.label report_point h
  books_change (loses world key client losses found) h = entered_books world client.label (engine_losses losses) h
  books_change (takes_report world label has) h = entered_books world label report_point h
  books_change (absorbs world label losses has) h = entered_books world label (drained_losses losses) h
  books_change _ h = unmoved _ _ refl refl refl refl h

  pub no_books : (tag start : ℕ) → HasBooks {P = P} {C = C} (starting_world tag start)
  no_books tag start = record { clients = tt; books = tt; same = λ label. and-false (label.tag == tag) }

module _ {P C : Type 0} (gives : P → Partial) (meanings : C → Meanings) where
  pub kept_books : (call : Call P C) (answer : Result (Out (Reply P C)) Refusal) (world next : World P C)
      → StepsTo gives meanings world call answer next → HasBooks world → HasBooks next
  kept_books = kept_by_call gives meanings HasBooks (λ given old new some sent c. books_change meanings c)

  pub books_of_clients : (tag start : ℕ) (calls : List (Call P C)) (answers : List (Result (Out (Reply P C)) Refusal))
      (last : World P C)
      → Run gives meanings (starting_world tag start) calls answers last → BooksAreOfClients last
  books_of_clients tag start calls answers last run =
      (kept_by_run gives meanings HasBooks (λ given old new some sent c. books_change meanings c) calls answers
      (starting_world tag start) last run (no_books meanings tag start)).same

  -- what each book absorbed stays, but for calls that absorb or add a client
  pub absorbed_stays : AbsorbedStays gives meanings
  absorbed_stays tag start earlier answers first last call (Ok out) run may leaves number history at =
      (call_keeps gives meanings call first leaves).same
      (kept_by_run gives meanings HasBooks (λ given old new some sent c. books_change meanings c) earlier answers
      (starting_world tag start) first run (no_books meanings tag start)).books
      number history (sym (ap (λ (w : World P C). value_at w.books number) may.1) ∙ at)
  absorbed_stays tag start earlier answers first last call (Err refusal) run may leaves number history at =
      (history, sym (ap (λ (w : World P C). value_at w.books number) may.1) ∙ at, λ i. refl)
