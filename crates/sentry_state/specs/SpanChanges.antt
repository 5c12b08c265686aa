-- A world after one change of its transactions and spans.
use Rattle.std.specs.Prelude.{ℕ, Option, Some, None, ◌+◌}
use Rattle.sentry_plain.specs.Tables.{put, replace_at}
use Rattle.sentry_base.specs.declared.protocol.keys.SpanKey.{SpanKey}
use Rattle.sentry_base.specs.declared.protocol.keys.TransactionKey.{TransactionKey}
use Rattle.sentry_span_table.specs.SpanLists.{TransactionHistory}
use Rattle.sentry_span_table.specs.declared.table.records.SpanRecord.{SpanRecord}
use Rattle.sentry_state.specs.Outcomes.{transaction_at}
use Rattle.sentry_state.specs.Worlds.{World}

-- the transaction once it is finished
abbrev pub finished_transaction : TransactionHistory → TransactionHistory
finished_transaction state = record state { unfinished = None }

-- the span once it finished at this moment
abbrev pub finished_span : ℕ → SpanRecord → SpanRecord
finished_span moment held = record held { span = record held.span { timestamp = Some moment } }

module _ {P C : Type 0} where
  abbrev pub next_transaction_key : World P C → TransactionKey
  next_transaction_key world = record { tag = world.tag; number = world.next.transaction }

  abbrev pub next_span_key : World P C → SpanKey
  next_span_key world = record { tag = world.tag; number = world.next.span }

  -- the world with one more transaction, under the next number
  abbrev pub with_new_transaction : TransactionHistory → World P C → World P C
  with_new_transaction state world = record world {
    next = record world.next { transaction = world.next.transaction + 1 };
    transactions = put world.transactions world.next.transaction state;
  }

  -- the world with one more span, under the next number
  abbrev pub with_new_span : SpanRecord → World P C → World P C
  with_new_span held world = record world {
    next = record world.next { span = world.next.span + 1 };
    spans = put world.spans world.next.span held;
  }

  -- the world with another transaction under a number that it has
  abbrev pub with_transaction : ℕ → TransactionHistory → World P C → World P C
  with_transaction number state world =
      record world { transactions = replace_at world.transactions number state }

  -- the world with another span under a number that it has
  abbrev pub with_span : ℕ → SpanRecord → World P C → World P C
  with_span number held world = record world { spans = replace_at world.spans number held }

  -- the world in which a transaction that was found is finished
  abbrev pub with_found_finished : ℕ → Option TransactionHistory → World P C → World P C
  with_found_finished number None world = world
  with_found_finished number (Some state) world = with_transaction number (finished_transaction state) world

  -- the world in which a transaction is finished, if it is held
  abbrev pub with_transaction_finished : TransactionKey → World P C → World P C
  with_transaction_finished key world = with_found_finished key.number (transaction_at world key) world
