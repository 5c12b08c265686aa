-- The keys that numbers stand for: the tag of the engine is 0.
use Rattle.std.specs.Prelude.{ℕ, Bool, true, false}
use Rattle.sentry_base.specs.declared.protocol.keys.ClientKey.{ClientKey}
use Rattle.sentry_base.specs.declared.protocol.keys.HubKey.{HubKey}
use Rattle.sentry_base.specs.declared.protocol.keys.Label.{Label}
use Rattle.sentry_base.specs.declared.protocol.keys.SpanKey.{SpanKey}
use Rattle.sentry_base.specs.declared.protocol.keys.TransactionKey.{TransactionKey}
use Rattle.sentry_base.specs.declared.protocol.keys.TransactionOrSpanKey.{TransactionOrSpanKey}
use Rattle.sentry_base.specs.declared.protocol.keys.TransactionOrSpanKey.TheVariants.{Transaction, Span}

abbrev pub client_key : ℕ → ClientKey
client_key number = record { tag = 0; number = number }

abbrev pub hub_key : ℕ → HubKey
hub_key number = record { tag = 0; number = number }

abbrev pub label : ℕ → Label
label number = record { tag = 0; number = number }

abbrev pub transaction_key : ℕ → TransactionKey
transaction_key number = record { tag = 0; number = number }

abbrev pub span_key : ℕ → SpanKey
span_key number = record { tag = 0; number = number }

-- a span, or a transaction
abbrev pub either_key : Bool → ℕ → TransactionOrSpanKey
either_key true number = Span (span_key number)
either_key false number = Transaction (transaction_key number)
