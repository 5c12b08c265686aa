-- The names of members. Each comes once in its object, if each map of a record has its keys once, as maps do.
use Rattle.std.specs.Prelude.{List, All, IfSome, ⊤}
use Rattle.std.specs.Map.{keys_of}
use Rattle.json.specs.Json.{object}
use Rattle.json.specs.Strict.{AreDistinct, HasUniqueKeys}
use Rattle.sentry_plain.specs.Texts.{Bytes}
use Rattle.sentry_plain.specs.Values.{Data}
use Rattle.sentry_plain.specs.ValueView.{members_from}
use Rattle.sentry_base.specs.declared.protocol.context.Context.{Context}
use Rattle.sentry_base.specs.declared.protocol.context.Context.TheVariants as context
use Rattle.sentry_base.specs.declared.protocol.envelope.EnvelopeItem.{EnvelopeItem}
use Rattle.sentry_base.specs.declared.protocol.envelope.EnvelopeItem.TheVariants as item
use Rattle.sentry_base.specs.declared.protocol.event.Event.{Event}
use Rattle.sentry_base.specs.declared.protocol.request.Request.{Request}
use Rattle.sentry_base.specs.declared.protocol.transaction.Transaction.{Transaction}
use Rattle.sentry_framing.specs.Content.{Content, json, file}
use Rattle.sentry_envelope.specs.Events.{stacktrace_json}
use Rattle.sentry_envelope.specs.Envelopes.{Stacktraces, item_content}
use Rattle.sentry_envelope.specs.Values.{members_json}

-- a map has each key once
abbrev pub KeysOnce : {X : Type 0} → List (Bytes × X) → Type 0
KeysOnce es = AreDistinct (keys_of es)

-- so has a map of values, and each map in them
abbrev pub DataOnce : List (Bytes × Data) → Type 0
DataOnce es = HasUniqueKeys (object (members_json (members_from es)))

abbrev pub RequestOnce : Request → Type 0
RequestOnce request = KeysOnce request.headers × KeysOnce request.env

abbrev pub ContextOnce : Context → Type 0
ContextOnce (context.Trace trace) = DataOnce trace.data_
ContextOnce (context.Os name version) = ⊤
ContextOnce (context.Other values) = DataOnce values

abbrev pub ContextsOnce : List (Bytes × Context) → Type 0
ContextsOnce contexts = KeysOnce contexts × All (λ e. ContextOnce e.1) contexts

pub record EventOnce (stacktraces : Stacktraces) (event : Event) : Type 0 where
  pub user : IfSome event.user (λ user. DataOnce user.data_)
  pub request : IfSome event.request RequestOnce
  pub contexts : ContextsOnce event.contexts
  pub breadcrumbs : All (λ breadcrumb. DataOnce breadcrumb.data_) event.breadcrumbs
  pub frames : All (λ stacktrace. IfSome stacktrace (λ value. HasUniqueKeys (stacktrace_json value))) stacktraces
  pub tags : KeysOnce event.tags
  pub extra : DataOnce event.extra

pub record TransactionOnce (transaction : Transaction) : Type 0 where
  pub user : IfSome transaction.user (λ user. DataOnce user.data_)
  pub tags : KeysOnce transaction.tags
  pub extra : DataOnce transaction.extra
  pub spans : All (λ span. KeysOnce span.tags × DataOnce span.data_) transaction.spans
  pub contexts : ContextsOnce transaction.contexts
  pub request : IfSome transaction.request RequestOnce

-- each map of an item has its keys once
abbrev pub MapsHaveKeysOnce : Stacktraces → EnvelopeItem → Type 0
MapsHaveKeysOnce stacktraces (item.Event event) = EventOnce stacktraces event
MapsHaveKeysOnce stacktraces (item.SessionUpdate session) = ⊤
MapsHaveKeysOnce stacktraces (item.SessionAggregates aggregates) = ⊤
MapsHaveKeysOnce stacktraces (item.Transaction transaction) = TransactionOnce transaction
MapsHaveKeysOnce stacktraces (item.Attachment attachment) = ⊤
MapsHaveKeysOnce stacktraces (item.Logs logs) = All (λ log. KeysOnce log.attributes) logs
MapsHaveKeysOnce stacktraces (item.Metrics metrics) = All (λ metric. KeysOnce metric.attributes) metrics
MapsHaveKeysOnce stacktraces (item.ClientReport report) = ⊤

-- no object of a payload, at any depth, has a name twice
abbrev pub NamesComeOnce : Content → Type 0
NamesComeOnce (json j) = HasUniqueKeys j
NamesComeOnce (file bytes) = ⊤

-- no object of an item's payload has a name twice, if no map of the item has a key twice
abbrev pub HasNamesOnce : Stacktraces → EnvelopeItem → Type 0
HasNamesOnce stacktraces i = MapsHaveKeysOnce stacktraces i → NamesComeOnce (item_content stacktraces i)
