-- What is printed of envelopes.
use Rattle.std.specs.Prelude.{ℕ, ◌++◌, Bool, true, false, List, [], ◌∷◌, codes, unwrap_or, length}
use Rattle.std.specs.List.{join_by}
use Rattle.std.specs.Fmt.{decimal}
use Rattle.uuid.specs.Text.{simple_text, lower}
use Rattle.sentry_plain.specs.Texts.{Bytes}
use Rattle.sentry_base.specs.declared.protocol.event.Event.{Event}
use Rattle.sentry_base.specs.declared.protocol.attachment.Attachment.{Attachment}
use Rattle.sentry_base.specs.Losses.{category_name, reason_name}
use Rattle.sentry_base.specs.Names.{level_name, session_status_name}
use Rattle.sentry_base.specs.declared.protocol.client_report.ClientReport.{ClientReport}
use Rattle.sentry_base.specs.declared.protocol.client_report.ClientReportItem.{ClientReportItem}
use Rattle.sentry_base.specs.declared.protocol.envelope.Envelope.{Envelope}
use Rattle.sentry_base.specs.declared.protocol.envelope.EnvelopeItem.{EnvelopeItem}
use Rattle.sentry_base.specs.declared.protocol.envelope.EnvelopeItem.TheVariants as item
use Rattle.sentry_base.specs.declared.protocol.keys.ClientKey.{ClientKey}
use Rattle.sentry_base.specs.declared.protocol.session.SessionAggregates.{SessionAggregates}
use Rattle.sentry_base.specs.declared.protocol.session.SessionUpdate.{SessionUpdate}
use Rattle.sentry_base.specs.declared.protocol.transaction.Transaction.{Transaction}

abbrev pub tag_text : Bytes × Bytes → Bytes
tag_text tag = tag.0 ++ codes "=" ++ tag.1

-- the tags in the order of their keys, or a dash for none
abbrev pub tags_text : List (Bytes × Bytes) → Bytes
tags_text [] = codes "-"
tags_text (tag ∷ tags) = join_by tag_text (codes ",") (tag ∷ tags)

-- the id in hexadecimal digits, the level, the tags and the message
abbrev pub event_text : Event → Bytes
event_text event =
    codes "event " ++ simple_text lower event.event_id ++ codes " " ++ level_name event.level
    ++ codes " " ++ tags_text event.tags ++ codes " " ++ unwrap_or event.message []

abbrev pub bool_word : Bool → Bytes
bool_word true = codes "true"
bool_word false = codes "false"

-- the status, the number of errors, and whether it is the first update
abbrev pub session_text : SessionUpdate → Bytes
session_text update =
    codes "session " ++ session_status_name update.status ++ codes " errors=" ++ decimal update.errors
    ++ codes " init=" ++ bool_word update.init

-- how many counts there are; no command makes any
abbrev pub aggregates_text : SessionAggregates → Bytes
aggregates_text aggregates = codes "aggregates " ++ decimal (length aggregates.aggregates)

-- how many spans a transaction has, and its name
abbrev pub spans_text : ℕ → Bytes → Bytes
spans_text count name = codes " spans=" ++ decimal count ++ codes " " ++ name

-- the id in hexadecimal digits, the tags, how many spans there are, and the name or a dash; no command sends one
abbrev pub transaction_text : Transaction → Bytes
transaction_text transaction =
    codes "transaction " ++ simple_text lower transaction.event_id ++ codes " " ++ tags_text transaction.tags
    ++ spans_text (length transaction.spans) (unwrap_or transaction.name (codes "-"))

-- the name of an attachment; no command sends one yet
abbrev pub attachment_text : Attachment → Bytes
attachment_text attachment = codes "attachment " ++ attachment.filename

-- the number of the items of a batch; no command makes metrics
abbrev pub batch_text : Bytes → ℕ → Bytes
batch_text name count = name ++ codes " " ++ decimal count

-- how much of a category was lost for a reason
abbrev pub loss_text : ClientReportItem → Bytes
loss_text loss =
    category_name loss.category ++ codes "/" ++ reason_name loss.reason ++ codes "="
    ++ decimal loss.quantity

abbrev pub report_text : ClientReport → Bytes
report_text report = codes "report " ++ join_by loss_text (codes ",") report.items

abbrev pub item_text : EnvelopeItem → Bytes
item_text (item.Event event) = event_text event
item_text (item.SessionUpdate update) = session_text update
item_text (item.SessionAggregates aggregates) = aggregates_text aggregates
item_text (item.Transaction transaction) = transaction_text transaction
item_text (item.Attachment attachment) = attachment_text attachment
item_text (item.Logs logs) = batch_text (codes "logs") (length logs)
item_text (item.Metrics metrics) = batch_text (codes "metrics") (length metrics)
item_text (item.ClientReport report) = report_text report

-- the line of an envelope of this client
abbrev pub envelope_line : ClientKey × Envelope → Bytes
envelope_line sent =
    codes "envelope " ++ decimal sent.0.number ++ codes " "
    ++ join_by item_text (codes " | ") sent.1.items ++ 10 ∷ []
