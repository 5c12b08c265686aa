-- What holds of every engine that stands for a world.
use Rattle.std.proofs.Common.{◌≡◌, ◌≤◌, ap, ◌∙◌, sym, subst, ℕ, List, length}
use Rattle.std.specs.Prelude.{Option, Some, None}
use Rattle.std.specs.Option.{option_map}
use Rattle.sentry_plain.specs.Tables.{value_at}
use Rattle.sentry_batches.proofs.BatchLemmas.{queued_short}
use Rattle.sentry_client_reports.proofs.LossBalances.{balanced}
use Rattle.sentry_client_reports.specs.LossBooks.{Book, LossEntry, IsBalanced, book_of}
use Rattle.sentry_sessions.proofs.QueueLemmas.{queue_is_short_is}
use Rattle.sentry_span_table.proofs.SpanListLemmas.{kept_short}
use Rattle.sentry_span_table.specs.SpanLists.{TransactionHistory, stored_transaction}
use Rattle.sentry_span_table.specs.declared.table.records.TransactionRecord.{TransactionRecord}
use Rattle.sentry_state.specs.declared.state.ClientState.{ClientState}
use Rattle.sentry_state.specs.declared.state.State.{State}
use Rattle.sentry_state.specs.Worlds.{World, ClientHistory, Stands, stored_client}
use Rattle.sentry_state.proofs.Keeping.{found_in_world, value_at-map_values}
use Rattle.sentry_lock.specs.Locked.{AreShort}

module _ {C : Type 0} where
  state_short : (client : ClientHistory C) → AreShort client.options.plain (stored_client client).queues
  state_short client = record {
    logs = queued_short client.options.plain.max_batch_items client.queues.logs;
    metrics = queued_short client.options.plain.max_batch_items client.queues.metrics;
    sessions = queue_is_short_is client.options.plain.session_mode client.queues.sessions;
  }

  found_short : (o : Option (ClientHistory C)) (client : ClientState C) → Some client ≡ option_map stored_client o
      → AreShort client.options.plain client.queues
  found_short None client e = absurd cc
  found_short (Some state) client e =
      let same : client ≡ stored_client state = cc in
      subst (λ (c : ClientState C). AreShort c.options.plain c.queues) (sym same) (state_short state)

found_kept : (o : Option TransactionHistory) (transaction : TransactionRecord)
    → option_map stored_transaction o ≡ Some transaction → length transaction.spans ≤ transaction.max_spans
found_kept None transaction e = absurd cc
found_kept (Some state) transaction e =
    let same : stored_transaction state ≡ transaction = cc in
    subst (λ (t : TransactionRecord). length t.spans ≤ t.max_spans) same (kept_short state)

found_balanced : (o : Option (List LossEntry)) (book : Book) → option_map book_of o ≡ Some book → IsBalanced book
found_balanced None book e = absurd cc
found_balanced (Some history) book e =
    let same : book_of history ≡ book = cc in subst IsBalanced same (balanced history)

module _ {P C : Type 0} (engine : State P C) (world : World P C) (stands : Stands engine world) where
  pub queues_short : (n : ℕ) (client : ClientState C) → value_at engine.clients n ≡ Some client
      → AreShort client.options.plain client.queues
  queues_short n client at = found_short (value_at world.clients n) client (sym at ∙ found_in_world engine world stands n)

  pub spans_kept : (n : ℕ) (transaction : TransactionRecord) → value_at engine.spans.transactions n ≡ Some transaction
      → length transaction.spans ≤ transaction.max_spans
  spans_kept n transaction at =
      found_kept (value_at world.transactions n) transaction
      (sym (value_at-map_values stored_transaction world.transactions n)
      ∙ (sym (ap (λ table. value_at table.transactions n) stands.spans) ∙ at))

  pub books_balanced : (n : ℕ) (book : Book) → value_at engine.books n ≡ Some book → IsBalanced book
  books_balanced n book at =
      found_balanced (value_at world.books n) book
      (sym (value_at-map_values book_of world.books n) ∙ (sym (ap (λ table. value_at table n) stands.books) ∙ at))
