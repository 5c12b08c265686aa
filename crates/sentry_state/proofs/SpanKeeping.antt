-- What an engine finds and stores of transactions and spans is what the world has.
use Rattle.std.proofs.Common.{◌≡◌, refl, ap, ◌∙◌, sym, ℕ, List, Bool, true, false, cond}
use Rattle.std.specs.Prelude.{Option, Some, None, ◌==◌}
use Rattle.std.specs.Option.{option_map}
use Rattle.sentry_plain.specs.Tables.{value_at, put, replace_at, without}
use Rattle.sentry_plain.proofs.ChangeLemmas.{changed_same}
use Rattle.sentry_base.specs.declared.protocol.keys.ClientKey.{ClientKey}
use Rattle.sentry_base.specs.declared.protocol.keys.SpanKey.{SpanKey}
use Rattle.sentry_base.specs.declared.protocol.keys.TransactionKey.{TransactionKey}
use Rattle.sentry_base.specs.declared.protocol.keys.TransactionOrSpanKey.{TransactionOrSpanKey}
use Rattle.sentry_span_table.specs.SpanLists.{TransactionHistory, stored_transaction}
use Rattle.sentry_span_table.specs.SpanTables.{has_span_of, has_transaction_of, place_in, transaction_in, span_in}
use Rattle.sentry_span_table.specs.declared.table.records.SpanRecord.{SpanRecord}
use Rattle.sentry_span_table.specs.declared.table.records.SpanTable.{SpanTable}
use Rattle.sentry_span_table.specs.declared.table.records.TransactionRecord.{TransactionRecord}
use Rattle.sentry_state.specs.Outcomes.{stored_transaction_at, transaction_at, span_at}
use Rattle.sentry_state.specs.declared.state.State.{State}
use Rattle.sentry_state.specs.SpanChanges.{with_transaction}
use Rattle.sentry_state.specs.Worlds.{World, Stands, span_table}
use Rattle.sentry_state.proofs.Keeping.{option_map-cond, value_at-map_values, put-map_values, replace_at-map_values, without_map_values}

module _ {P C : Type 0} where
  -- the transaction that the engine finds
  pub transaction_in_world : (engine : State P C) (world : World P C) → Stands engine world → (key : TransactionKey)
      → transaction_in engine.spans key ≡ stored_transaction_at world key
  transaction_in_world engine world s key =
      ap (λ table. transaction_in table key) s.spans
      ∙ (ap (λ o. cond (key.tag == world.tag) o None) (value_at-map_values stored_transaction world.transactions key.number)
      ∙ option_map-cond stored_transaction (key.tag == world.tag) (value_at world.transactions key.number) None)

  -- the span that the engine finds
  pub span_in_world : (engine : State P C) (world : World P C) → Stands engine world → (key : SpanKey)
      → span_in engine.spans key ≡ span_at world key
  span_in_world engine world s key = ap (λ table. span_in table key) s.spans

  -- where something stands in the engine
  pub place_in_world : (engine : State P C) (world : World P C) → Stands engine world → (span : TransactionOrSpanKey)
      → place_in engine.spans span ≡ place_in (span_table world) span
  place_in_world engine world s span = ap (λ table. place_in table span) s.spans

  -- what keeps a transaction, or a client
  pub has_span_in_world : (engine : State P C) (world : World P C) → Stands engine world → (key : TransactionKey)
      → has_span_of engine.spans key ≡ has_span_of (span_table world) key
  has_span_in_world engine world s key = ap (λ table. has_span_of table key) s.spans

  pub has_transaction_in_world : (engine : State P C) (world : World P C) → Stands engine world → (key : ClientKey)
      → has_transaction_of engine.spans key ≡ has_transaction_of (span_table world) key
  has_transaction_in_world engine world s key = ap (λ table. has_transaction_of table key) s.spans

  -- the table of the world with these transactions
  abbrev table_with : World P C → List (ℕ × TransactionRecord) → SpanTable
  table_with world transactions = record { tag = world.tag; transactions = transactions; spans = world.spans }

  -- an engine with one more transaction has the table of the world with it
  pub transaction_stored : (engine : State P C) (world : World P C) → Stands engine world
      → (state : TransactionHistory) (held : TransactionRecord) → held ≡ stored_transaction state
      → record engine.spans { transactions = put engine.spans.transactions engine.next.transaction held }
      ≡ span_table (record world { transactions = put world.transactions world.next.transaction state })
  transaction_stored engine world s state held is =
      (λ i. record (s.spans i) { transactions = put (s.spans i).transactions (s.next i).transaction (is i) })
      ∙ ap (table_with world) (sym (put-map_values stored_transaction world.transactions world.next.transaction state))

  -- an engine with another transaction under a number
  pub transaction_replaced : (engine : State P C) (world : World P C) → Stands engine world → (n : ℕ)
      (state : TransactionHistory) (held : TransactionRecord) → held ≡ stored_transaction state
      → record engine.spans { transactions = replace_at engine.spans.transactions n held }
      ≡ span_table (record world { transactions = replace_at world.transactions n state })
  transaction_replaced engine world s n state held is =
      (λ i. record (s.spans i) { transactions = replace_at (s.spans i).transactions n (is i) })
      ∙ ap (table_with world) (sym (replace_at-map_values stored_transaction world.transactions n state))

  -- an engine with one more span, or with another one under a number
  pub span_stored : (engine : State P C) (world : World P C) → Stands engine world → (held : SpanRecord)
      → record engine.spans { spans = put engine.spans.spans engine.next.span held }
      ≡ span_table (record world { spans = put world.spans world.next.span held })
  span_stored engine world s held =
      λ i. record (s.spans i) { spans = put (s.spans i).spans (s.next i).span held }

  pub span_replaced : (engine : State P C) (world : World P C) → Stands engine world → (n : ℕ) (held : SpanRecord)
      → record engine.spans { spans = replace_at engine.spans.spans n held }
      ≡ span_table (record world { spans = replace_at world.spans n held })
  span_replaced engine world s n held = λ i. record (s.spans i) { spans = replace_at (s.spans i).spans n held }

  -- an engine with one transaction less, or with one span less
  pub transaction_removed : (engine : State P C) (world : World P C) → Stands engine world → (n : ℕ)
      → record engine.spans { transactions = without engine.spans.transactions n }
      ≡ span_table (record world { transactions = without world.transactions n })
  transaction_removed engine world s n =
      (λ i. record (s.spans i) { transactions = without (s.spans i).transactions n })
      ∙ ap (table_with world) (without_map_values stored_transaction world.transactions n)

  pub span_removed : (engine : State P C) (world : World P C) → Stands engine world → (n : ℕ)
      → record engine.spans { spans = without engine.spans.spans n }
      ≡ span_table (record world { spans = without world.spans n })
  span_removed engine world s n = λ i. record (s.spans i) { spans = without (s.spans i).spans n }

  -- an engine with another transaction under a number, and with one span less
  pub span_moved : (engine : State P C) (world : World P C) → Stands engine world → (n m : ℕ)
      (state : TransactionHistory) (held : TransactionRecord) → held ≡ stored_transaction state
      → record engine.spans {
        transactions = replace_at engine.spans.transactions m held;
        spans = without engine.spans.spans n;
      }
      ≡ span_table (record world {
        transactions = replace_at world.transactions m state;
        spans = without world.spans n;
      })
  span_moved engine world s n m state held is =
      ap (λ (table : SpanTable). record table { spans = without table.spans n })
      (transaction_replaced engine world s m state held is)

  -- an engine that is not changed stands for the world in which a transaction is another one of which it keeps the same
  pub transaction_unchanged : (engine : State P C) (world : World P C) → Stands engine world → (n : ℕ)
      (state after : TransactionHistory) → value_at engine.spans.transactions n ≡ Some (stored_transaction state)
      → stored_transaction after ≡ stored_transaction state → Stands engine (with_transaction n after world)
  transaction_unchanged engine world s n state after found same = record {
    tag = s.tag;
    next = s.next;
    clients = s.clients;
    hubs = s.hubs;
    sessions = s.sessions;
    books = s.books;
    spans =
        ap (λ (ts : List (ℕ × TransactionRecord)). record engine.spans { transactions = ts })
        (sym (changed_same engine.spans.transactions n (stored_transaction state) found))
        ∙ transaction_replaced engine world s n after (stored_transaction state) (sym same);
  }

-- what stands under a key whose tag fits
value_of_cond : {X : Type 0} (b : Bool) (o : Option X) (x : X) → cond b o None ≡ Some x → o ≡ Some x
value_of_cond true o x e = e
value_of_cond false o x e = absurd cc

-- what stands under a key stands under its number
pub transaction_under : (table : SpanTable) (key : TransactionKey) (held : TransactionRecord)
    → transaction_in table key ≡ Some held → value_at table.transactions key.number ≡ Some held
transaction_under table key held h = value_of_cond (key.tag == table.tag) (value_at table.transactions key.number) held h

pub span_under : (table : SpanTable) (key : SpanKey) (held : SpanRecord)
    → span_in table key ≡ Some held → value_at table.spans key.number ≡ Some held
span_under table key held h = value_of_cond (key.tag == table.tag) (value_at table.spans key.number) held h

module _ {P C : Type 0} where
  -- what the engine has of a transaction of the world
  pub transaction_in_table : (engine : State P C) (world : World P C) → Stands engine world → (key : TransactionKey)
      (state : TransactionHistory) → transaction_at world key ≡ Some state
      → value_at engine.spans.transactions key.number ≡ Some (stored_transaction state)
  transaction_in_table engine world s key state at =
      ap (λ (table : SpanTable). value_at table.transactions key.number) s.spans
      ∙ (value_at-map_values stored_transaction world.transactions key.number
      ∙ ap (option_map stored_transaction) (value_of_cond (key.tag == world.tag) (value_at world.transactions key.number) state at))

  pub span_in_table : (engine : State P C) (world : World P C) → Stands engine world → (key : SpanKey)
      (held : SpanRecord) → span_at world key ≡ Some held → value_at engine.spans.spans key.number ≡ Some held
  span_in_table engine world s key held at =
      ap (λ (table : SpanTable). value_at table.spans key.number) s.spans
      ∙ value_of_cond (key.tag == world.tag) (value_at world.spans key.number) held at

-- the transaction of the world of which the engine found what it keeps
pub transaction_state : (o : Option TransactionHistory) (held : TransactionRecord) → Some held ≡ option_map stored_transaction o
    → (state : TransactionHistory) × (o ≡ Some state) × (held ≡ stored_transaction state)
transaction_state None held e = absurd cc
transaction_state (Some state) held e = let is : held ≡ stored_transaction state = cc in (state, refl, is)

-- there is no transaction where the engine found none
pub no_transaction : (o : Option TransactionHistory) → None ≡ option_map stored_transaction o → o ≡ None
no_transaction None e = refl
no_transaction (Some state) e = absurd cc
