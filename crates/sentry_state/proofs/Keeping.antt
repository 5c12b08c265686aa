-- What an engine finds and stores is what the world has, without the histories.
use Rattle.std.proofs.Common.{◌≡◌, refl, ap, ◌∙◌, sym, ℕ, List, [], ◌∷◌, Bool, true, false, cond}
use Rattle.std.specs.Prelude.{Option, Some, None, unwrap_or, ◌||◌, ◌==◌, nat_lt, length}
use Rattle.std.specs.Option.{option_map, is_some, option_and_then}
use Rattle.std.specs.declared.cmp.Ordering.{Ordering}
use Rattle.std.specs.declared.cmp.Ordering.TheVariants.{Less, Equal, Greater}
use Rattle.std.specs.Ordering.{match_ordering, nat_cmp, is_eq}
use Rattle.std.specs.BTreeMap.{is_at}
use Rattle.std.specs.List.{list_any}
use Rattle.std.specs.Cmp.{nat_cmp_is}
use Rattle.sentry_plain.specs.Tables.{value_at, put, replace_at, without}
use Rattle.sentry_base.specs.declared.protocol.keys.ClientKey.{ClientKey}
use Rattle.sentry_base.specs.declared.protocol.keys.Label.{Label}
use Rattle.sentry_client_reports.specs.LossBooks.{Book, LossEntry, book_of, pending_losses, report_items, report_of}
use Rattle.sentry_state.specs.Books.{with_book, is_label, has_client_of, without_unused_book, pending_report}
use Rattle.sentry_sessions.specs.Sessions.{session_of}
use Rattle.sentry_sessions.specs.declared.session.record.Session.{Session}
use Rattle.sentry_sessions.specs.declared.session.record.SessionStart.{SessionStart}
use Rattle.sentry_scope.specs.Stacks.{stack_of_any, pop, depth, is_client}
use Rattle.sentry_scope.specs.declared.scope.stack.Stack.{Stack}
use Rattle.sentry_scope.specs.declared.scope.stack.StackLayer.{StackLayer}
use Rattle.sentry_state.specs.Clients.{has_session_of}
use Rattle.sentry_state.specs.Changes.{with_new_session, with_client_entry, with_log_entry, with_metric_entry}
use Rattle.sentry_hub_table.specs.Hubs.{with_session}
use Rattle.sentry_hub_table.specs.declared.hub.HubState.{HubState}
use Rattle.sentry_sessions.specs.SessionQueues.{QueueEntry, Waiting, queue_of}
use Rattle.sentry_state.specs.Outcomes.{client_at, stored_client_at}
use Rattle.sentry_state.specs.declared.state.ClientState.{ClientState}
use Rattle.sentry_state.specs.declared.state.State.{State}
use Rattle.sentry_state.specs.Worlds.{World, ClientHistory, SessionHistory, stored_client, stored_session, map_values, Stands}
use Rattle.sentry_base.specs.declared.protocol.log.Log.{Log}
use Rattle.sentry_base.specs.declared.protocol.metric.Metric.{Metric}
use Rattle.sentry_batches.specs.Batches.{BatchEntry, Queue}
use Rattle.sentry_batches.specs.Batches as batch

module _ {X Y : Type 0} (f : X → Y) where
  pub option_map-cond : (b : Bool) (x y : Option X) → cond b (option_map f x) (option_map f y) ≡ option_map f (cond b x y)
  option_map-cond true x y = refl
  option_map-cond false x y = refl

  pub is_some-option_map : (o : Option X) → is_some (option_map f o) ≡ is_some o
  is_some-option_map None = refl
  is_some-option_map (Some x) = refl

  map_values-match : (o : Ordering) (x y z : List (ℕ × X))
      → map_values f (match_ordering o x y z) ≡ match_ordering o (map_values f x) (map_values f y) (map_values f z)
  map_values-match Less x y z = refl
  map_values-match Equal x y z = refl
  map_values-match Greater x y z = refl

  map_values-cond : (b : Bool) (x y : List (ℕ × X)) → map_values f (cond b x y) ≡ cond b (map_values f x) (map_values f y)
  map_values-cond true x y = refl
  map_values-cond false x y = refl

  pub value_at-map_values : (entries : List (ℕ × X)) (n : ℕ) → value_at (map_values f entries) n ≡ option_map f (value_at entries n)
  value_at-map_values [] n = refl
  value_at-map_values (c ∷ cs) n =
      ap (cond (is_at (nat_cmp n) c.0) (Some (f c.1))) (value_at-map_values cs n)
      ∙ option_map-cond (is_at (nat_cmp n) c.0) (Some c.1) (value_at cs n)

  pub put-map_values : (entries : List (ℕ × X)) (n : ℕ) (x : X) → map_values f (put entries n x) ≡ put (map_values f entries) n (f x)
  put-map_values [] n x = refl
  put-map_values (c ∷ cs) n x =
      map_values-match (nat_cmp n c.0) _ _ _
      ∙ ap (λ rest. match_ordering (nat_cmp n c.0) ((n, f x) ∷ map_values f (c ∷ cs)) ((c.0, f x) ∷ map_values f cs) ((c.0, f c.1) ∷ rest)) (put-map_values cs n x)

  pub without_map_values : (entries : List (ℕ × X)) (n : ℕ) → without (map_values f entries) n ≡ map_values f (without entries n)
  without_map_values [] n = refl
  without_map_values (c ∷ cs) n =
      ap (λ rest. cond (is_at (nat_cmp n) c.0) (map_values f cs) ((c.0, f c.1) ∷ rest)) (without_map_values cs n)
      ∙ sym (map_values-cond (is_at (nat_cmp n) c.0) cs (c ∷ without cs n))

  pub replace_at-map_values : (entries : List (ℕ × X)) (n : ℕ) (x : X) → map_values f (replace_at entries n x) ≡ replace_at (map_values f entries) n (f x)
  replace_at-map_values [] n x = refl
  replace_at-map_values (c ∷ cs) n x =
      map_values-cond (is_at (nat_cmp n) c.0) _ _
      ∙ ap (λ rest. cond (is_at (nat_cmp n) c.0) ((c.0, f x) ∷ map_values f cs) ((c.0, f c.1) ∷ rest)) (replace_at-map_values cs n x)

module _ {C : Type 0} where
  -- a label is that of a client that the engine keeps where it is that of a client of the world
  client_of_label_in_world : (test : Label → Bool) (clients : List (ℕ × ClientHistory C))
      → list_any (λ entry. test entry.1.label) (map_values stored_client clients) ≡ list_any (λ entry. test entry.1.label) clients
  client_of_label_in_world test [] = refl
  client_of_label_in_world test (c ∷ cs) = ap (λ b. test c.1.label || b) (client_of_label_in_world test cs)

report_of_book : (o : Option (List LossEntry)) (book : Book) → Some book ≡ option_map book_of o
    → report_of (report_items book.pending) ≡ option_and_then (λ history. report_of (report_items (pending_losses history))) o
report_of_book None book e = cc
report_of_book (Some history) book e = let is : book ≡ book_of history = cc in ap (λ b. report_of (report_items b.pending)) is

no_report : (o : Option (List LossEntry)) → None ≡ option_map book_of o
    → None ≡ option_and_then (λ history. report_of (report_items (pending_losses history))) o
no_report None e = refl
no_report (Some history) e = cc

module _ {P C : Type 0} where
  -- the client that the engine finds, in a world that it stands for
  pub found_in_world : (engine : State P C) (world : World P C) → Stands engine world → (n : ℕ)
      → value_at engine.clients n ≡ option_map stored_client (value_at world.clients n)
  found_in_world engine world s n = ap (λ cs. value_at cs n) s.clients ∙ value_at-map_values stored_client world.clients n

  -- an engine whose client is written stands for the world whose client is written
  pub stored_in_world : (engine : State P C) (world : World P C) → Stands engine world → (n : ℕ) (client : ClientHistory C)
      → put engine.clients n (stored_client client) ≡ map_values stored_client (put world.clients n client)
  stored_in_world engine world s n client =
      ap (λ cs. put cs n (stored_client client)) s.clients ∙ sym (put-map_values stored_client world.clients n client)

  -- the book that the engine finds
  pub book_in_world : (engine : State P C) (world : World P C) → Stands engine world → (n : ℕ)
      → value_at engine.books n ≡ option_map book_of (value_at world.books n)
  book_in_world engine world s n = ap (λ books. value_at books n) s.books ∙ value_at-map_values book_of world.books n

  -- the engine has a book where the world has one
  pub has_book_in_world : (engine : State P C) (world : World P C) → Stands engine world → (n : ℕ)
      → is_some (value_at engine.books n) ≡ is_some (value_at world.books n)
  has_book_in_world engine world s n =
      ap is_some (book_in_world engine world s n) ∙ is_some-option_map book_of (value_at world.books n)

  -- a change that leaves the books alone, where there was a book
  pub stands_with_same_books : (old : State P C) (world : World P C) → Stands old world → (n : ℕ)
      → is_some (value_at old.books n) ≡ true → (new : State P C) (after : World P C) → world.books ≡ after.books
      → Stands new after → Stands new (record after { books = with_book world.books n })
  stands_with_same_books old world s n has new after same t = record {
    tag = t.tag;
    next = t.next;
    clients = t.clients;
    hubs = t.hubs;
    sessions = t.sessions;
    spans = t.spans;
    books =
        t.books ∙ ap (map_values book_of) (sym same)
        ∙ ap (λ b. map_values book_of (cond b world.books (put world.books n []))) (sym has ∙ has_book_in_world old world s n);
  }

  -- where it has none, its books and a new one do
  pub new_book_in_world : (engine : State P C) (world : World P C) → Stands engine world → (n : ℕ)
      → is_some (value_at engine.books n) ≡ false → put engine.books n (book_of []) ≡ map_values book_of (with_book world.books n)
  new_book_in_world engine world s n has =
      ap (λ books. put books n (book_of [])) s.books ∙ sym (put-map_values book_of world.books n [])
      ∙ ap (λ b. map_values book_of (cond b world.books (put world.books n []))) (sym has ∙ has_book_in_world engine world s n)

  -- the engine has a client of the label where the world has one
  client_of_label : (engine : State P C) (world : World P C) → Stands engine world → (label : Label)
      → list_any (λ entry. is_label label entry.1.label) engine.clients ≡ has_client_of label world.clients
  client_of_label engine world s label =
      ap (list_any (λ (entry : ℕ × ClientState C). is_label label entry.1.label)) s.clients
      ∙ client_of_label_in_world (is_label label) world.clients

  -- a book stays where a client has its label
  pub book_kept : (engine : State P C) (world : World P C) → Stands engine world → (label : Label)
      → list_any (λ entry. is_label label entry.1.label) engine.clients ≡ true → Stands engine (without_unused_book label world)
  book_kept engine world s label has = record {
    tag = s.tag;
    next = s.next;
    clients = s.clients;
    hubs = s.hubs;
    sessions = s.sessions;
    spans = s.spans;
    books =
        s.books
        ∙ ap (λ b. map_values book_of (cond b world.books (without world.books label.number))) (sym (sym (client_of_label engine world s label) ∙ has));
  }

  -- where none has, the books without it are those of the world without it
  pub book_removed : (engine : State P C) (world : World P C) → Stands engine world → (label : Label)
      → list_any (λ entry. is_label label entry.1.label) engine.clients ≡ false
      → without engine.books label.number ≡ map_values book_of (without_unused_book label world).books
  book_removed engine world s label has =
      ap (λ books. without books label.number) s.books ∙ without_map_values book_of world.books label.number
      ∙ ap (λ b. map_values book_of (cond b world.books (without world.books label.number))) (sym (sym (client_of_label engine world s label) ∙ has))

  -- the report of a book that the engine has
  pub report_in_world : (engine : State P C) (world : World P C) → Stands engine world → (label : Label) (book : Book)
      → Some book ≡ value_at engine.books label.number → report_of (report_items book.pending) ≡ pending_report world label
  report_in_world engine world s label book h = report_of_book (value_at world.books label.number) book (h ∙ book_in_world engine world s label.number)

  -- there is no report where the engine has no book
  pub no_report_in_world : (engine : State P C) (world : World P C) → Stands engine world → (label : Label)
      → None ≡ value_at engine.books label.number → None ≡ pending_report world label
  no_report_in_world engine world s label h = no_report (value_at world.books label.number) (h ∙ book_in_world engine world s label.number)

module _ {X : Type 0} where
  replace_absent-at : (b : Bool) (e : ℕ × X) (es rest : List (ℕ × X)) (o : Option X) (x : X)
      → cond b (Some e.1) o ≡ None → (o ≡ None → rest ≡ es) → cond b ((e.0, x) ∷ es) (e ∷ rest) ≡ e ∷ es
  replace_absent-at true e es rest o x h same = cc
  replace_absent-at false e es rest o x h same = ap (λ l. e ∷ l) (same h)

  -- nothing is replaced where nothing stands
  pub replace_absent : (m : List (ℕ × X)) (n : ℕ) (x : X) → value_at m n ≡ None → replace_at m n x ≡ m
  replace_absent [] n x h = refl
  replace_absent (e ∷ es) n x h = replace_absent-at (is_at (nat_cmp n) e.0) e es (replace_at es n x) (value_at es n) x h (replace_absent es n x)

nat_cmp-same : (n : ℕ) → Equal ≡ nat_cmp n n
nat_cmp-same n = nat_cmp_is n n Equal refl

module _ {X : Type 0} where
  without_put-at : (o : Ordering) (e : ℕ × X) (es : List (ℕ × X)) (n : ℕ) (x : X) → nat_cmp n e.0 ≡ o
      → cond (is_eq o) (Some e.1) (value_at es n) ≡ None → (value_at es n ≡ None → without (put es n x) n ≡ es)
      → without (match_ordering o ((n, x) ∷ e ∷ es) ((e.0, x) ∷ es) (e ∷ put es n x)) n ≡ e ∷ es
  without_put-at Less e es n x q h rest = ap (λ o. cond (is_eq o) (e ∷ es) ((n, x) ∷ without (e ∷ es) n)) (sym (nat_cmp-same n))
  without_put-at Equal e es n x q h rest = cc
  without_put-at Greater e es n x q h rest =
      ap (λ o. cond (is_eq o) (put es n x) (e ∷ without (put es n x) n)) q ∙ ap (λ l. e ∷ l) (rest h)

  -- a table without a number that was not there is as it was before the number was put in
  pub without_put : (m : List (ℕ × X)) (n : ℕ) (x : X) → value_at m n ≡ None → without (put m n x) n ≡ m
  without_put [] n x h = ap (λ o. cond (is_eq o) [] ((n, x) ∷ [])) (sym (nat_cmp-same n))
  without_put (e ∷ es) n x h = without_put-at (nat_cmp n e.0) e es n x refl h (without_put es n x)

no_history : (o : Option (List LossEntry)) → None ≡ option_map book_of o → o ≡ None
no_history None e = refl
no_history (Some history) e = cc

some_history : (o : Option (List LossEntry)) (book : Book) → Some book ≡ option_map book_of o → book ≡ book_of (unwrap_or o [])
some_history None book e = cc
some_history (Some history) book e = cc

module _ {P C : Type 0} where
  -- where a label has no book, the engine stands for the world with an entry for it
  pub entry_absent : (engine : State P C) (world : World P C) → Stands engine world → (n : ℕ) (entry : LossEntry)
      → value_at engine.books n ≡ None → engine.books ≡ map_values book_of (replace_at world.books n (entry ∷ unwrap_or (value_at world.books n) []))
  entry_absent engine world s n entry h =
      let none : value_at world.books n ≡ None = no_history (value_at world.books n) (sym h ∙ book_in_world engine world s n) in
      s.books ∙ ap (map_values book_of) (sym (replace_absent world.books n _ none))

  -- an engine with a book that took an entry stands for the world with that entry
  pub entry_present : (engine : State P C) (world : World P C) → Stands engine world → (n : ℕ) (book after : Book) (entry : LossEntry)
      → value_at engine.books n ≡ Some book → ((history : List LossEntry) → book ≡ book_of history → after ≡ book_of (entry ∷ history))
      → replace_at engine.books n after ≡ map_values book_of (replace_at world.books n (entry ∷ unwrap_or (value_at world.books n) []))
  entry_present engine world s n book after entry h takes =
      let history : List LossEntry = unwrap_or (value_at world.books n) [] in
      let is : book ≡ book_of history = some_history (value_at world.books n) book (sym h ∙ book_in_world engine world s n) in
      ap (λ b. replace_at engine.books n b) (takes history is)
      ∙ ap (λ books. replace_at books n (book_of (entry ∷ history))) s.books
      ∙ sym (replace_at-map_values book_of world.books n (entry ∷ history))

-- ---- sessions

module _ {P C : Type 0} where
  -- the session that the engine finds
  pub session_in_world : (engine : State P C) (world : World P C) → Stands engine world → (n : ℕ)
      → value_at engine.sessions n ≡ option_map stored_session (value_at world.sessions n)
  session_in_world engine world s n =
      ap (λ sessions. value_at sessions n) s.sessions ∙ value_at-map_values stored_session world.sessions n

  -- a session stands under a number in the engine where it does in the world
  pub has_session_in_world : (engine : State P C) (world : World P C) → Stands engine world → (n : ℕ)
      → is_some (value_at engine.sessions n) ≡ is_some (value_at world.sessions n)
  has_session_in_world engine world s n =
      ap is_some (session_in_world engine world s n) ∙ is_some-option_map stored_session (value_at world.sessions n)

-- ---- clients whose queues change

module _ {C : Type 0} where
  in_table-at : (b : Bool) (found : Option (ClientHistory C)) (kept : ClientState C) → Some kept ≡ option_map stored_client (cond b found None)
      → (client : ClientHistory C) × (found ≡ Some client) × (cond b found None ≡ Some client) × (kept ≡ stored_client client)
  in_table-at true (Some client) kept e = let is : kept ≡ stored_client client = cc in (client, refl, refl, is)
  in_table-at true None kept e = absurd cc
  in_table-at false found kept e = absurd cc

module _ {P C : Type 0} where
  -- an engine whose client is replaced stands for the world whose client is replaced
  pub client_replaced : (engine : State P C) (world : World P C) → Stands engine world → (n : ℕ) (client : ClientHistory C) (kept : ClientState C)
      → kept ≡ stored_client client → replace_at engine.clients n kept ≡ map_values stored_client (replace_at world.clients n client)
  client_replaced engine world s n client kept is =
      ap (replace_at engine.clients n) is
      ∙ (ap (λ clients. replace_at clients n (stored_client client)) s.clients ∙ sym (replace_at-map_values stored_client world.clients n client))

  -- the client of the world of which the engine found what it keeps
  pub client_state : (engine : State P C) (world : World P C) → Stands engine world → (key : ClientKey) (kept : ClientState C)
      → Some kept ≡ stored_client_at world key
      → (client : ClientHistory C) × (value_at engine.clients key.number ≡ Some (stored_client client))
      × (client_at world key ≡ Some client) × (kept ≡ stored_client client)
  client_state engine world s key kept e =
      let found = in_table-at (key.tag == world.tag) (value_at world.clients key.number) kept e in
      let there : value_at engine.clients key.number ≡ Some (stored_client found.0) =
      ap (λ clients. value_at clients key.number) s.clients
      ∙ (value_at-map_values stored_client world.clients key.number ∙ ap (option_map stored_client) found.1) in
      (found.0, there, found.2, found.3)

module _ {C : Type 0} where
  -- what is kept of a client to whose queue of ended sessions something came
  pub queue_changed : (client : ClientHistory C) (kept : ClientState C) (entry : QueueEntry) (queue : Waiting) → kept ≡ stored_client client
      → queue ≡ queue_of client.options.plain.session_mode (entry ∷ client.queues.sessions)
      → record kept { queues = record kept.queues { sessions = queue } } ≡ stored_client (with_client_entry entry client)
  queue_changed client kept entry queue is q = λ i. record (is i) { queues = record (is i).queues { sessions = q i } }

module _ {P C : Type 0} where
  -- an engine whose session is replaced stands for the world whose session is replaced
  pub session_replaced : (engine : State P C) (world : World P C) → Stands engine world → (n : ℕ) (session : SessionHistory) (kept : Session)
      → kept ≡ stored_session session → replace_at engine.sessions n kept ≡ map_values stored_session (replace_at world.sessions n session)
  session_replaced engine world s n session kept is =
      ap (replace_at engine.sessions n) is
      ∙ (ap (λ sessions. replace_at sessions n (stored_session session)) s.sessions
      ∙ sym (replace_at-map_values stored_session world.sessions n session))

module _ {P C : Type 0} where
  -- what the engine found of a client of the world
  pub same_client : (engine : State P C) (world : World P C) → Stands engine world → (key : ClientKey) (kept : ClientState C)
      → (client : ClientHistory C) → Some kept ≡ stored_client_at world key → client_at world key ≡ Some client
      → (value_at engine.clients key.number ≡ Some (stored_client client)) × (kept ≡ stored_client client)
  same_client engine world s key kept client e at =
      let found = client_state engine world s key kept e in
      let same : Some found.0 ≡ Some client = sym found.2 ∙ at in
      let is : found.0 ≡ client = cc in
      (found.1 ∙ ap (λ state. Some (stored_client state)) is, found.3 ∙ ap stored_client is)

-- the session of the world of which the engine found what it keeps
pub session_state : (o : Option SessionHistory) (kept : Session) → Some kept ≡ option_map stored_session o
    → (session : SessionHistory) × (o ≡ Some session) × (kept ≡ stored_session session)
session_state None kept e = absurd cc
session_state (Some session) kept e = let is : kept ≡ stored_session session = cc in (session, refl, is)

module _ {P C : Type 0} where
  -- an engine with one more session stands for the world with it
  pub session_stored : (engine : State P C) (world : World P C) → Stands engine world → (start : SessionStart) (kept : Session)
      → kept ≡ session_of start [] → put engine.sessions engine.next.session kept ≡ map_values stored_session (with_new_session start world).sessions
  session_stored engine world s start kept is =
      (λ i. put (s.sessions i) (s.next i).session (is i))
      ∙ sym (put-map_values stored_session world.sessions world.next.session (record { start = start; history = [] }))

popped_same-by : {P : Type 0} (below : List (StackLayer P)) (a b : Stack P) → nat_lt 0 (length below) ≡ true → stack_of_any below a ≡ stack_of_any below b
popped_same-by [] a b h = absurd cc
popped_same-by (lowest ∷ above) a b h = refl

-- what is below the top layer doesn't depend on what the top layer names
pub popped_same : {P : Type 0} (hub : HubState P) → nat_lt 0 (depth hub.stack) ≡ true → pop (with_session hub None).stack ≡ pop hub.stack
unfolding pop
popped_same hub h = popped_same-by hub.stack.below _ _ h

module _ (key : ClientKey) where
  session_of_client : (sessions : List (ℕ × SessionHistory))
      → list_any (λ (entry : ℕ × Session). is_client key (Some entry.1.start.client)) (map_values stored_session sessions)
      ≡ has_session_of key sessions
  unfolding session_of
  session_of_client [] = refl
  session_of_client (entry ∷ rest) = ap (λ b. is_client key (Some entry.1.start.client) || b) (session_of_client rest)

  -- the engine has a session of the client where the world has one
  pub has_session_of_client : {P C : Type 0} (engine : State P C) (world : World P C) → Stands engine world
      → list_any (λ (entry : ℕ × Session). is_client key (Some entry.1.start.client)) engine.sessions ≡ has_session_of key world.sessions
  has_session_of_client engine world s =
      ap (list_any (λ (entry : ℕ × Session). is_client key (Some entry.1.start.client))) s.sessions ∙ session_of_client world.sessions

module _ {C : Type 0} where
  -- what is kept of a client to whose logs something came
  pub logs_changed : (client : ClientHistory C) (kept : ClientState C) (entry : BatchEntry Log) (queue : Queue Log) → kept ≡ stored_client client
      → queue ≡ batch.queue_of client.options.plain.max_batch_items (entry ∷ client.queues.logs) client.queues.log_tick
      → record kept { queues = record kept.queues { logs = queue } } ≡ stored_client (with_log_entry entry client)
  logs_changed client kept entry queue is q = λ i. record (is i) { queues = record (is i).queues { logs = q i } }

  -- the same of metrics
  pub metrics_changed : (client : ClientHistory C) (kept : ClientState C) (entry : BatchEntry Metric) (queue : Queue Metric) → kept ≡ stored_client client
      → queue ≡ batch.queue_of client.options.plain.max_batch_items (entry ∷ client.queues.metrics) client.queues.metric_tick
      → record kept { queues = record kept.queues { metrics = queue } } ≡ stored_client (with_metric_entry entry client)
  metrics_changed client kept entry queue is q = λ i. record (is i) { queues = record (is i).queues { metrics = q i } }
