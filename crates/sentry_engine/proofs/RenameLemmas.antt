-- Names that edits of a scope give transactions.
use Rattle.std.proofs.Common.{◌≡◌, refl, ap, ◌∙◌, sym, Bool, true, false, cond, List, [], ◌∷◌}
use Rattle.std.specs.Prelude.{ℕ, Option, Some, None, ◌==◌}
use Rattle.std.specs.Option.{option_map}
use Rattle.sentry_plain.specs.Tables.{value_at, replace_at}
use Rattle.sentry_plain.specs.Texts.{Bytes}
use Rattle.sentry_base.specs.declared.protocol.keys.TransactionKey.{TransactionKey}
use Rattle.sentry_base.specs.declared.protocol.span.Span.{Span}
use Rattle.sentry_calls.specs.Hubs.{with_renames}
use Rattle.sentry_scope.specs.EditLists as table
use Rattle.sentry_span_edits.specs.Edits.{edit_transaction}
use Rattle.sentry_span_edits.specs.Setters.{with_edited, with_found_edited}
use Rattle.sentry_span_edits.specs.declared.edit.SpanEdit.TheVariants.{Name}
use Rattle.sentry_span_edits.proofs.EditLemmas.{held_edited}
use Rattle.sentry_span_table.specs.SpanLists.{TransactionHistory, stored_transaction}
use Rattle.sentry_span_table.specs.SpanTables.{transaction_in, with_found_named, with_name, with_transaction_named}
use Rattle.sentry_span_table.specs.declared.table.records.SpanTable.{SpanTable}
use Rattle.sentry_span_table.specs.declared.table.records.TransactionRecord.{TransactionRecord}
use Rattle.sentry_state.specs.Outcomes.{transaction_at}
use Rattle.sentry_state.specs.Worlds.{World, Stands, map_values, span_table}
use Rattle.sentry_state.specs.declared.state.State.{State}
use Rattle.sentry_state.proofs.Keeping.{option_map-cond, value_at-map_values, replace_at-map_values}

module _ {P C : Type 0} where
  -- what the table of a world has of a transaction
  found_in_table : (world : World P C) (key : TransactionKey)
      → transaction_in (span_table world) key ≡ option_map stored_transaction (transaction_at world key)
  found_in_table world key =
      ap (λ o. cond (key.tag == world.tag) o None) (value_at-map_values stored_transaction world.transactions key.number)
      ∙ option_map-cond stored_transaction (key.tag == world.tag) (value_at world.transactions key.number) None

  -- the table of a world with other transactions
  abbrev table_with : World P C → List (ℕ × TransactionRecord) → SpanTable
  table_with world transactions = record { tag = world.tag; transactions = transactions; spans = world.spans }

  -- the table in which the transaction that was found has another name
  named_in_table : (world : World P C) (number : ℕ) (found : Option TransactionHistory) (name : Bytes)
      → with_found_named (span_table world) number (option_map stored_transaction found) name
      ≡ span_table (with_found_edited (Name name) number found world)
  named_in_table world number None name = refl
  named_in_table world number (Some state) name =
      ap (λ (held : TransactionRecord). table_with world (replace_at (map_values stored_transaction world.transactions) number held))
      (held_edited (Name name) state)
      ∙ ap (table_with world)
      (sym (replace_at-map_values stored_transaction world.transactions number (edit_transaction (Name name) state)))

  -- the same of a key
  renamed_in_table : (world : World P C) (key : TransactionKey) (name : Bytes)
      → with_transaction_named (span_table world) (Some key) name ≡ span_table (with_edited (Name name) key world)
  renamed_in_table world key name =
      ap (λ found. with_found_named (span_table world) key.number found name) (found_in_table world key)
      ∙ named_in_table world key.number (transaction_at world key) name

  -- an engine stands for the world in which what was found has another name, if its table does
  stands_with_found : (engine : State P C) (world : World P C) → Stands engine world → (number : ℕ)
      (found : Option TransactionHistory) (name : Bytes) (spans : SpanTable)
      → spans ≡ span_table (with_found_edited (Name name) number found world)
      → Stands (record engine { spans = spans }) (with_found_edited (Name name) number found world)
  stands_with_found engine world s number None name spans is = record {
    tag = s.tag;
    next = s.next;
    clients = s.clients;
    hubs = s.hubs;
    sessions = s.sessions;
    books = s.books;
    spans = is;
  }
  stands_with_found engine world s number (Some state) name spans is = record {
    tag = s.tag;
    next = s.next;
    clients = s.clients;
    hubs = s.hubs;
    sessions = s.sessions;
    books = s.books;
    spans = is;
  }

  -- an engine in which a transaction has another name
  renamed_in_world : (engine : State P C) (world : World P C) → Stands engine world → (key : TransactionKey)
      (name : Bytes) (spans : SpanTable) → spans ≡ with_transaction_named engine.spans (Some key) name
      → Stands (record engine { spans = spans }) (with_edited (Name name) key world)
  renamed_in_world engine world s key name spans is =
      stands_with_found engine world s key.number (transaction_at world key) name spans
      (is ∙ (ap (λ table. with_transaction_named table (Some key) name) s.spans ∙ renamed_in_table world key name))

  -- an engine in which transactions have other names, in turn
  pub all_renamed_in_world : (renames : List (TransactionKey × Bytes)) (engine : State P C) (world : World P C)
      → Stands engine world → (spans : SpanTable) → spans ≡ table.with_names renames engine.spans
      → Stands (record engine { spans = spans }) (with_renames renames world)
  all_renamed_in_world [] engine world s spans is = record {
    tag = s.tag;
    next = s.next;
    clients = s.clients;
    hubs = s.hubs;
    sessions = s.sessions;
    books = s.books;
    spans = is ∙ s.spans;
  }
  all_renamed_in_world (rename ∷ rest) engine world s spans is =
      all_renamed_in_world rest
      (record engine { spans = with_transaction_named engine.spans (Some rename.0) rename.1 })
      (with_edited (Name rename.1) rename.0 world)
      (renamed_in_world engine world s rename.0 rename.1 (with_transaction_named engine.spans (Some rename.0) rename.1) refl)
      spans is
