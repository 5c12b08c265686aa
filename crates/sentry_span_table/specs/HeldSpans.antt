-- What contracts see of a table of transactions and spans.
use Rattle.std.specs.Prelude.{ℕ, List}
use Rattle.sentry_span_table.specs.declared.table.records.SpanRecord.{SpanRecord}
use Rattle.sentry_span_table.specs.declared.table.records.TransactionRecord.{TransactionRecord}

-- the tag of the keys, and the transactions and spans in the order of their numbers
pub record HeldSpans : Type 0 where
  pub tag : ℕ
  pub transactions : List (ℕ × TransactionRecord)
  pub spans : List (ℕ × SpanRecord)
