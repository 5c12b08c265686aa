-- Spans and queues may go to another thread: their records hold a `Value`, so that follows here from their fields.
use denote.Param.Send.{IsSend, sendable}
use Rattle.std.proofs.Crossing as heap
use Rattle.std.proofs.MapsCrossing as maps
use Rattle.std.proofs.option.Option.TheSendSync as Option
use Rattle.sentry_plain.proofs.items.Items.TheSendSync as Items
use Rattle.sentry_plain.proofs.shared.Shared.TheSendSync as Shared
use Rattle.sentry_plain.proofs.boxed.Boxed.TheSendSync as Boxed
use Rattle.sentry_plain.proofs.table.Table.TheSendSync as Table
use Rattle.sentry_base.proofs.protocol.keys.ClientKey.TheSendSync as ClientKey
use Rattle.sentry_base.proofs.protocol.keys.TransactionKey.TheSendSync as TransactionKey
use Rattle.sentry_base.proofs.protocol.session.SessionUpdate.TheSendSync as SessionUpdate
use Rattle.sentry_base.proofs.protocol.session.SessionAttributes.TheSendSync as SessionAttributes
use Rattle.sentry_span_table.proofs.table.records.TracingState.TheSendSync as TracingState
use Rattle.sentry_options.proofs.clientoptions.choices.SessionMode.TheSendSync as SessionMode
use Rattle.sentry_sessions.proofs.session.aggregates.AggregateKey.TheSendSync as AggregateKey
use Rattle.sentry_sessions.proofs.session.aggregates.AggregateCounts.TheSendSync as AggregateCounts
use Rattle.sentry_batches.proofs.tick.LastTick.TheSendSync as LastTick
use Rattle.sentry_batches.proofs.batcher.Batch.TheSendSync as Batch
use Rattle.sentry_span_table.specs.contracts.table.records.Unfinished as Unfinished
use Rattle.sentry_span_table.specs.contracts.table.records.TransactionRecord as TransactionRecord
use Rattle.sentry_span_table.specs.contracts.table.records.SpanRecord as SpanRecord
use Rattle.sentry_span_table.specs.contracts.table.records.SpanTable as SpanTable
use Rattle.sentry_sessions.specs.contracts.session.queue.SessionQueue as SessionQueue
use Rattle.sentry_state.specs.contracts.state.Queues as Queues
use Rattle.sentry_base.proofs.Crossing.{Log_send, Metric_send, Span_field_send, Span_send, TraceContext_field_send, Transaction_send}

pub Unfinished_field_send : IsSend (Unfinished.the_field).row
Unfinished_field_send = search (ClientKey.the_field_send, Boxed.the_send, Transaction_send, sendable) depth 60 fits 20000

pub Unfinished_send : IsSend Unfinished.the_row
Unfinished_send = search (Unfinished_field_send, sendable)

pub TransactionRecord_field_send : IsSend (TransactionRecord.the_field).row
TransactionRecord_field_send = search (TracingState.the_field_send, TraceContext_field_send, Option.the_field_send, Unfinished_send, Items.the_send, Span_send, sendable) depth 60 fits 20000

pub TransactionRecord_send : IsSend TransactionRecord.the_row
TransactionRecord_send = search (TransactionRecord_field_send, sendable)

pub SpanRecord_field_send : IsSend (SpanRecord.the_field).row
SpanRecord_field_send = search (TransactionKey.the_field_send, TracingState.the_field_send, Span_field_send, sendable) depth 60 fits 20000

pub SpanRecord_send : IsSend SpanRecord.the_row
SpanRecord_send = search (SpanRecord_field_send, sendable)

pub SpanTable_field_send : IsSend (SpanTable.the_field).row
SpanTable_field_send = search (Table.the_send, Boxed.the_send, TransactionRecord_send, SpanRecord_send, sendable) depth 60 fits 20000

pub SpanTable_send : IsSend SpanTable.the_row
SpanTable_send = search (SpanTable_field_send, sendable)

pub SessionQueue_send : IsSend SessionQueue.the_row
SessionQueue_send = search (SessionMode.the_field_send, AggregateKey.the_send, AggregateCounts.the_send, Option.the_field_send, Shared.the_send, SessionAttributes.the_send, SessionAttributes.the_sync, SessionUpdate.the_send, heap.crosses, maps.crosses, sendable) depth 60 fits 20000

pub Queues_field_send : IsSend (Queues.the_field).row
Queues_field_send = search (SessionQueue_send, LastTick.the_field_send, Batch.the_send, Log_send, Metric_send, sendable) depth 60 fits 20000

pub Queues_send : IsSend Queues.the_row
Queues_send = search (Queues_field_send, sendable)
