-- Records that hold a `Value` may go to another thread. No library keeps a proof of that, since a `Value` leads back to
-- itself: so each such record follows here from its fields. Those that lie in a share may be read by several threads, too.
use denote.Param.Send.{IsSend, IsSync, sendable}
use Rattle.std.proofs.Crossing as heap
use Rattle.std.proofs.MapsCrossing as maps
use Rattle.sentry_plain.proofs.value.ValueMap.TheLaws.TheKnot as knot
use Rattle.std.proofs.option.Option.TheSendSync as Option
use Rattle.sentry_plain.proofs.text.Text.TheSendSync as Text
use Rattle.sentry_plain.proofs.items.Items.TheSendSync as Items
use Rattle.sentry_plain.proofs.text_map.TextMap.TheSendSync as TextMap
use Rattle.sentry_plain.proofs.shared.Shared.TheSendSync as Shared
use Rattle.sentry_plain.proofs.boxed.Boxed.TheSendSync as Boxed
use Rattle.sentry_base.proofs.protocol.attachment.Attachment.TheSendSync as Attachment
use Rattle.sentry_base.proofs.protocol.client_report.ClientReport.TheSendSync as ClientReport
use Rattle.sentry_base.proofs.protocol.context.SpanStatus.TheSendSync as SpanStatus
use Rattle.sentry_base.proofs.protocol.exception.Exception.TheSendSync as Exception
use Rattle.sentry_base.proofs.protocol.ids.TraceId.TheSendSync as TraceId
use Rattle.sentry_base.proofs.protocol.ids.SpanId.TheSendSync as SpanId
use Rattle.sentry_base.proofs.protocol.level.Level.TheSendSync as Level
use Rattle.sentry_base.proofs.protocol.log.LogLevel.TheSendSync as LogLevel
use Rattle.sentry_base.proofs.protocol.metric.MetricType.TheSendSync as MetricType
use Rattle.sentry_base.proofs.protocol.request.Request.TheSendSync as Request
use Rattle.sentry_base.proofs.protocol.sdk.ClientSdkInfo.TheSendSync as ClientSdkInfo
use Rattle.sentry_base.proofs.protocol.session.SessionUpdate.TheSendSync as SessionUpdate
use Rattle.sentry_base.proofs.protocol.session.SessionAggregates.TheSendSync as SessionAggregates
use Rattle.sentry_base.proofs.protocol.unit.Unit.TheSendSync as Unit
use Rattle.sentry_plain.specs.contracts.value.Value as Value
use Rattle.sentry_plain.specs.contracts.value.ValueMap as ValueMap
use Rattle.sentry_base.specs.contracts.protocol.context.TraceContext as TraceContext
use Rattle.sentry_base.specs.contracts.protocol.context.Context as Context
use Rattle.sentry_base.specs.contracts.protocol.user.User as User
use Rattle.sentry_base.specs.contracts.protocol.breadcrumb.Breadcrumb as Breadcrumb
use Rattle.sentry_base.specs.contracts.protocol.log.LogAttribute as LogAttribute
use Rattle.sentry_base.specs.contracts.protocol.log.Log as Log
use Rattle.sentry_base.specs.contracts.protocol.metric.Metric as Metric
use Rattle.sentry_base.specs.contracts.protocol.span.Span as Span
use Rattle.sentry_base.specs.contracts.protocol.transaction.Transaction as Transaction
use Rattle.sentry_base.specs.contracts.protocol.event.Event as Event
use Rattle.sentry_base.specs.contracts.protocol.envelope.EnvelopeItem as EnvelopeItem
use Rattle.sentry_base.proofs.protocol.envelope.EnvelopeHeaders.TheSendSync as EnvelopeHeaders
use Rattle.sentry_base.specs.contracts.protocol.envelope.Envelope as Envelope
use Rattle.sentry_plain.specs.contracts.items.Items as ItemsOf
use Rattle.sentry_plain.specs.contracts.shared.Shared as SharedOf
use Rattle.sentry_base.specs.contracts.protocol.sdk.ClientSdkInfo as Sdk
use Rattle.sentry_plain.specs.contracts.text.Text as TextOf
use Rattle.sentry_plain.specs.contracts.text_map.TextMap as TextMapOf

pub Value_send : IsSend Value.the_row
Value_send = search (maps.crosses, heap.crosses, knot.crosses, Text.the_send, sendable) depth 60 fits 20000

pub ValueMap_send : IsSend ValueMap.the_row
ValueMap_send = search (maps.crosses, heap.crosses, knot.crosses, Text.the_send, sendable) depth 60 fits 20000

pub ValueMap_sync : IsSync ValueMap.the_row
ValueMap_sync = search (maps.crosses, heap.crosses, knot.crosses, Text.the_sync, sendable) depth 60 fits 20000

pub TraceContext_field_send : IsSend (TraceContext.the_field).row
TraceContext_field_send = search (Option.the_field_send, Text.the_send, TraceId.the_field_send, SpanId.the_field_send, SpanId.the_send, SpanStatus.the_send, ValueMap_send, sendable) depth 60 fits 20000

pub TraceContext_send : IsSend TraceContext.the_row
TraceContext_send = search (TraceContext_field_send, sendable)

pub TraceContext_field_sync : IsSync (TraceContext.the_field).row
TraceContext_field_sync = search (Option.the_field_sync, Text.the_sync, TraceId.the_field_sync, SpanId.the_field_sync, SpanId.the_sync, SpanStatus.the_sync, ValueMap_sync, sendable) depth 60 fits 20000

pub Context_field_send : IsSend (Context.the_field).row
Context_field_send = search (Option.the_field_send, Text.the_send, TraceContext_field_send, ValueMap_send, sendable) depth 60 fits 20000

pub Context_send : IsSend Context.the_row
Context_send = search (Context_field_send, sendable)

pub Context_field_sync : IsSync (Context.the_field).row
Context_field_sync = search (Option.the_field_sync, Text.the_sync, TraceContext_field_sync, ValueMap_sync, sendable) depth 60 fits 20000

pub Context_sync : IsSync Context.the_row
Context_sync = search (Context_field_sync, sendable)

pub Tags_send : IsSend (TextMapOf.the_row TextOf.the_row)
Tags_send = search (TextMap.the_send, Text.the_send, Text.the_sync, sendable) depth 60 fits 20000

pub Contexts_send : IsSend (TextMapOf.the_row Context.the_row)
Contexts_send = search (TextMap.the_send, Context_send, Context_sync, sendable) depth 60 fits 20000

pub User_field_send : IsSend (User.the_field).row
User_field_send = search (Option.the_field_send, Text.the_send, ValueMap_send, sendable) depth 60 fits 20000

pub User_send : IsSend User.the_row
User_send = search (User_field_send, sendable)

pub User_field_sync : IsSync (User.the_field).row
User_field_sync = search (Option.the_field_sync, Text.the_sync, ValueMap_sync, sendable) depth 60 fits 20000

pub User_sync : IsSync User.the_row
User_sync = search (User_field_sync, sendable)

pub Breadcrumb_field_send : IsSend (Breadcrumb.the_field).row
Breadcrumb_field_send = search (Option.the_field_send, Text.the_send, Level.the_field_send, ValueMap_send, sendable) depth 60 fits 20000

pub Breadcrumb_send : IsSend Breadcrumb.the_row
Breadcrumb_send = search (Breadcrumb_field_send, sendable)

pub Breadcrumb_field_sync : IsSync (Breadcrumb.the_field).row
Breadcrumb_field_sync = search (Option.the_field_sync, Text.the_sync, Level.the_field_sync, ValueMap_sync, sendable) depth 60 fits 20000

pub Breadcrumb_sync : IsSync Breadcrumb.the_row
Breadcrumb_sync = search (Breadcrumb_field_sync, sendable)

pub LogAttribute_field_send : IsSend (LogAttribute.the_field).row
LogAttribute_field_send = search (maps.crosses, heap.crosses, knot.crosses, Text.the_send, sendable) depth 60 fits 20000

pub LogAttribute_send : IsSend LogAttribute.the_row
LogAttribute_send = search (LogAttribute_field_send, sendable)

pub LogAttribute_field_sync : IsSync (LogAttribute.the_field).row
LogAttribute_field_sync = search (maps.crosses, heap.crosses, knot.crosses, Text.the_sync, sendable) depth 60 fits 20000

pub LogAttribute_sync : IsSync LogAttribute.the_row
LogAttribute_sync = search (LogAttribute_field_sync, sendable)

pub Log_field_send : IsSend (Log.the_field).row
Log_field_send = search (Option.the_field_send, Text.the_send, TextMap.the_send, LogAttribute_sync, LogLevel.the_field_send, TraceId.the_send, LogAttribute_send, sendable) depth 60 fits 20000

pub Log_send : IsSend Log.the_row
Log_send = search (Log_field_send, sendable)

pub Metric_field_send : IsSend (Metric.the_field).row
Metric_field_send = search (Option.the_field_send, Text.the_send, TextMap.the_send, LogAttribute_sync, MetricType.the_field_send, TraceId.the_field_send, SpanId.the_send, Unit.the_send, LogAttribute_send, sendable) depth 60 fits 20000

pub Metric_send : IsSend Metric.the_row
Metric_send = search (Metric_field_send, sendable)

pub Span_field_send : IsSend (Span.the_field).row
Span_field_send = search (Option.the_field_send, Text.the_send, Tags_send, SpanId.the_field_send, SpanId.the_send, TraceId.the_field_send, SpanStatus.the_send, ValueMap_send, sendable) depth 60 fits 20000

pub Span_send : IsSend Span.the_row
Span_send = search (Span_field_send, sendable)

pub Sdk_send : IsSend (SharedOf.the_row Sdk.the_row)
Sdk_send = search (Shared.the_send, ClientSdkInfo.the_send, ClientSdkInfo.the_sync, sendable) depth 60 fits 20000

pub Transaction_field_send : IsSend (Transaction.the_field).row
Transaction_field_send = search (Option.the_field_send, Text.the_send, Tags_send, Contexts_send, Items.the_send, ValueMap_send, Sdk_send, Span_send, Request.the_send, User_send, sendable) depth 60 fits 20000

pub Transaction_send : IsSend Transaction.the_row
Transaction_send = search (Transaction_field_send, sendable)

pub Event_field_send : IsSend (Event.the_field).row
Event_field_send = search (Option.the_field_send, Text.the_send, Tags_send, Contexts_send, Items.the_send, Level.the_field_send, User_send, Request.the_send, Breadcrumb_send, Exception.the_send, ValueMap_send, Sdk_send, sendable) depth 60 fits 20000

pub Event_send : IsSend Event.the_row
Event_send = search (Event_field_send, sendable)

pub EnvelopeItem_field_send : IsSend (EnvelopeItem.the_field).row
EnvelopeItem_field_send = search (Items.the_send, Boxed.the_send, Event_send, SessionUpdate.the_field_send, SessionAggregates.the_field_send, Transaction_send, Attachment.the_field_send, Log_send, Metric_send, ClientReport.the_field_send, sendable) depth 60 fits 20000

pub EnvelopeItem_send : IsSend EnvelopeItem.the_row
EnvelopeItem_send = search (EnvelopeItem_field_send, sendable)

pub Envelope_field_send : IsSend (Envelope.the_field).row
Envelope_field_send = search (EnvelopeHeaders.the_field_send, Items.the_send, EnvelopeItem_send, sendable) depth 60 fits 20000

pub Envelope_send : IsSend Envelope.the_row
Envelope_send = search (Envelope_field_send, sendable)

pub Envelopes_field_send : IsSend (ItemsOf.the_field Envelope.the_row).row
Envelopes_field_send = search (Items.the_send, Envelope_send, heap.crosses, sendable) depth 60 fits 20000
