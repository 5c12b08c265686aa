-- What a table of transactions and spans counts of them.
use Rattle.std.specs.Prelude.{ℕ, ◌==◌, Option, Some, None, if◌then◌else◌}
use Rattle.sentry_plain.specs.Counts.{Counts}
use Rattle.sentry_span_table.specs.HeldSpans.{HeldSpans}
use Rattle.sentry_span_table.specs.declared.table.records.SpanRecord.{SpanRecord}
use Rattle.sentry_span_table.specs.declared.table.records.TransactionRecord.{TransactionRecord}
use Rattle.sentry_span_table.specs.declared.table.records.Unfinished.{Unfinished}
use Rattle.sentry_span_table.specs.declared.table.records.SpanTable.TheInside.{Inside}

-- the number of a key, if its tag is this one
abbrev pub own_number : ℕ → ℕ → ℕ → Option ℕ
own_number tag of_key number = if of_key == tag then Some number else None

-- the number of the transaction that a span belongs to, if its key has this tag
abbrev pub transaction_of : ℕ → SpanRecord → Option ℕ
transaction_of tag held = own_number tag held.transaction.tag held.transaction.number

-- the number of the client that will send what is unfinished, if its key has this tag
abbrev pub client_of : ℕ → Option Unfinished → Option ℕ
client_of tag None = None
client_of tag (Some unfinished) = own_number tag unfinished.client.tag unfinished.client.number

abbrev pub sender_of : ℕ → TransactionRecord → Option ℕ
sender_of tag held = client_of tag held.unfinished

-- what contracts see
abbrev pub held_spans : Inside → HeldSpans
held_spans a = record { tag = a.tag; transactions = a.transactions; spans = a.spans }

-- each count is that of the spans of this transaction, and that of the unfinished transactions of this client
pub record TrueCounts (a : Inside) : Type 0 where
  pub of_spans : Counts (transaction_of a.tag) a.span_counts a.spans
  pub of_senders : Counts (sender_of a.tag) a.sender_counts a.transactions
