-- Envelopes: the JSON of their headers, and their items as they are sent.
use Rattle.std.specs.Prelude.{ℕ, ◌*◌, List, [], length, Bool, true, false, Option, Some, None, unwrap_or, codes, map}
use Rattle.json.specs.Json.{Json, string, object, no_members}
use Rattle.uuid.specs.Text.{hyphenated_text, simple_text, lower}
use Rattle.sentry_plain.specs.Texts.{Bytes}
use Rattle.sentry_plain.specs.declared.value.Value.{Value}
use Rattle.sentry_base.specs.declared.protocol.attachment.Attachment.{Attachment}
use Rattle.sentry_base.specs.declared.protocol.envelope.Envelope.{Envelope}
use Rattle.sentry_base.specs.declared.protocol.envelope.EnvelopeHeaders.{EnvelopeHeaders}
use Rattle.sentry_base.specs.declared.protocol.envelope.DynamicSamplingContext.{DynamicSamplingContext}
use Rattle.sentry_base.specs.declared.protocol.envelope.EnvelopeItem.{EnvelopeItem}
use Rattle.sentry_base.specs.declared.protocol.envelope.EnvelopeItem.TheVariants as item
use Rattle.sentry_framing.specs.Json.{optional}
use Rattle.sentry_framing.specs.Content.{Content, json, file, content_text, ReadsBack}
use Rattle.sentry_framing.specs.Headers.{Header, sent}
use Rattle.sentry_framing.specs.Lines as lines
use Rattle.sentry_framing.specs.Moments.{seconds_text}
use Rattle.sentry_envelope.specs.Sessions.{session_json}
use Rattle.sentry_envelope.specs.Aggregates.{aggregates_json}
use Rattle.sentry_envelope.specs.Transactions.{transaction_json}
use Rattle.sentry_envelope.specs.Logs.{logs_json}
use Rattle.sentry_envelope.specs.Metrics.{metrics_json}
use Rattle.sentry_envelope.specs.Events.{event_json}
use Rattle.sentry_envelope.specs.Reports.{report_json}

abbrev pub truth_text : Bool → Bytes
truth_text true = codes "true"
truth_text false = codes "false"

-- what the server needs to sample traces, as texts; a rate is in millionths
abbrev pub trace_json : DynamicSamplingContext → Json
trace_json trace = object
    (optional (λ id. string (simple_text lower id.0)) (codes "trace_id") trace.trace_id
    (optional string (codes "public_key") trace.public_key
    (optional (λ rate. string (seconds_text (rate * 1_000))) (codes "sample_rate") trace.sample_rate
    (optional (λ b. string (truth_text b)) (codes "sampled") trace.sampled
    no_members))))

abbrev pub headers_json : EnvelopeHeaders → Json
headers_json headers = object
    (optional (λ id. string (hyphenated_text lower id)) (codes "event_id") headers.event_id
    (optional trace_json (codes "trace") headers.trace
    no_members))

-- the header of an item that is one record
abbrev pub record_header : Bytes → Header
record_header ty = record { ty = ty; item_count = None; filename = None; attachment_type = None; content_type = None }

-- the header of an item that is so many records
abbrev pub list_header : Bytes → ℕ → Bytes → Header
list_header ty count content_type = record {
  ty = ty;
  item_count = Some count;
  filename = None;
  attachment_type = None;
  content_type = Some content_type;
}

abbrev pub attachment_header : Attachment → Header
attachment_header attachment = record {
  ty = codes "attachment";
  item_count = None;
  filename = Some attachment.filename;
  attachment_type = Some (codes "event.attachment");
  content_type = Some (unwrap_or attachment.content_type (codes "application/octet-stream"));
}

abbrev pub item_header : EnvelopeItem → Header
item_header (item.Event event) = record_header (codes "event")
item_header (item.SessionUpdate session) = record_header (codes "session")
item_header (item.SessionAggregates aggregates) = record_header (codes "sessions")
item_header (item.Transaction transaction) = record_header (codes "transaction")
item_header (item.Attachment attachment) = attachment_header attachment
item_header (item.Logs logs) = list_header (codes "log") (length logs) (codes "application/vnd.sentry.items.log+json")
item_header (item.Metrics metrics) = list_header (codes "trace_metric") (length metrics) (codes "application/vnd.sentry.items.trace-metric+json")
item_header (item.ClientReport report) = record_header (codes "client_report")

-- the stack traces that go with an envelope: of each exception of its event, in their order, or of the event if it has none
abbrev pub Stacktraces : Type 0
Stacktraces = List (Option Value)

-- what follows the header of an item
abbrev pub item_content : Stacktraces → EnvelopeItem → Content
item_content stacktraces (item.Event event) = json (event_json stacktraces event)
item_content stacktraces (item.SessionUpdate session) = json (session_json session)
item_content stacktraces (item.SessionAggregates aggregates) = json (aggregates_json aggregates)
item_content stacktraces (item.Transaction transaction) = json (transaction_json transaction)
item_content stacktraces (item.Attachment attachment) = file attachment.buffer
item_content stacktraces (item.Logs logs) = json (logs_json logs)
item_content stacktraces (item.Metrics metrics) = json (metrics_json metrics)
item_content stacktraces (item.ClientReport report) = json (report_json report)

-- the header and the payload of an item
abbrev pub item_parts : Stacktraces → EnvelopeItem → lines.Item
item_parts stacktraces i = sent (item_header i) (content_text (item_content stacktraces i))

-- the JSON of an item's payload is read back from it
abbrev pub PayloadReadsBack : Stacktraces → EnvelopeItem → Type 0
PayloadReadsBack stacktraces i = ReadsBack (item_content stacktraces i)

-- the bytes of an envelope, with stack traces
abbrev pub text_with : Stacktraces → Envelope → Bytes
text_with stacktraces envelope = lines.envelope_text (headers_json envelope.header) (map (item_parts stacktraces) envelope.items)

-- the bytes of an envelope
abbrev pub envelope_text : Envelope → Bytes
envelope_text envelope = text_with [] envelope
