-- How one edit changes a transaction or a span.
use Rattle.std.specs.Prelude.{Bool, true, Some}
use Rattle.std.specs.Option.{is_some, option_map}
use Rattle.sentry_plain.specs.Texts.{put}
use Rattle.sentry_plain.specs.ValueView.{data_of}
use Rattle.sentry_base.specs.declared.protocol.context.TraceContext.{TraceContext}
use Rattle.sentry_base.specs.declared.protocol.span.Span.{Span}
use Rattle.sentry_base.specs.declared.protocol.transaction.Transaction.{Transaction}
use Rattle.sentry_span_edits.specs.Requests.{with_request}
use Rattle.sentry_span_edits.specs.declared.edit.SpanEdit.{SpanEdit}
use Rattle.sentry_span_edits.specs.declared.edit.SpanEdit.TheVariants.{Data, Tag, Extra, Status, Op, Name, Request, Origin}
use Rattle.sentry_span_table.specs.SpanLists.{TransactionHistory}
use Rattle.sentry_span_table.specs.declared.table.records.SpanRecord.{SpanRecord}
use Rattle.sentry_span_table.specs.declared.table.records.TransactionRecord.{TransactionRecord}
use Rattle.sentry_span_table.specs.declared.table.records.Unfinished.{Unfinished}

-- what a transaction will send, which only an unfinished one has
abbrev pub edit_sent : SpanEdit → Transaction → Transaction
edit_sent (Tag key value) transaction = record transaction { tags = put transaction.tags key value }
edit_sent (Extra key value) transaction = record transaction { extra = put transaction.extra key (data_of value) }
edit_sent (Name name) transaction = record transaction { name = Some name }
edit_sent (Request request) transaction = record transaction { request = Some request }
edit_sent edit transaction = transaction

abbrev pub edit_unfinished : SpanEdit → Unfinished → Unfinished
edit_unfinished edit unfinished = record unfinished { transaction = edit_sent edit unfinished.transaction }

-- the place of a transaction in its trace: its data only while it is unfinished, the rest always
abbrev pub edit_context : SpanEdit → Bool → TraceContext → TraceContext
edit_context (Data key value) true context = record context { data_ = put context.data_ key (data_of value) }
edit_context (Status status) unfinished context = record context { status = Some status }
edit_context (Op op) unfinished context = record context { op = Some op }
edit_context (Origin origin) unfinished context = record context { origin = Some origin }
edit_context edit unfinished context = context

abbrev pub edit_transaction : SpanEdit → TransactionHistory → TransactionHistory
edit_transaction edit state = record state {
  context = edit_context edit (is_some state.unfinished) state.context;
  unfinished = option_map (edit_unfinished edit) state.unfinished;
}

-- the same, of what an engine has of it
abbrev pub edit_held : SpanEdit → TransactionRecord → TransactionRecord
edit_held edit held = record held {
  context = edit_context edit (is_some held.unfinished) held.context;
  unfinished = option_map (edit_unfinished edit) held.unfinished;
}

-- a span, also one that is finished; it has neither extra data nor an origin
abbrev pub edit_span : SpanEdit → Span → Span
edit_span (Data key value) span = record span { data_ = put span.data_ key (data_of value) }
edit_span (Tag key value) span = record span { tags = put span.tags key value }
edit_span (Status status) span = record span { status = Some status }
edit_span (Op op) span = record span { op = Some op }
edit_span (Name name) span = record span { description = Some name }
edit_span (Request request) span = record span { data_ = with_request request span.data_ }
edit_span edit span = span

abbrev pub edit_span_record : SpanEdit → SpanRecord → SpanRecord
edit_span_record edit held = record held { span = edit_span edit held.span }
