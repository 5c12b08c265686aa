-- What a writer has of an envelope.
use Rattle.std.specs.Prelude.{Option, Some, None}
use Rattle.std.specs.Io.KnownBytes.{Appends}
use Rattle.sentry_client_reports.specs.declared.client_reports.reason.TransportLossReason.{TransportLossReason}
use Rattle.sentry_client_reports.specs.declared.client_reports.reason.TransportLossReason.TheVariants.{SendError, InternalError, NetworkError, RatelimitBackoff, QueueOverflow}
use Rattle.sentry_framing.specs.Sending.{AppendsFront}
use Rattle.sentry_plain.specs.Texts.{Bytes}

-- all of it, or by an internal error a beginning of it, once
abbrev pub IsWritten : Option Bytes → Option Bytes → Bytes → Option TransportLossReason → Type 0
IsWritten before after text None = Appends before after text
IsWritten before after text (Some InternalError) = AppendsFront before after text
IsWritten before after text (Some SendError) = ⊥
IsWritten before after text (Some NetworkError) = ⊥
IsWritten before after text (Some RatelimitBackoff) = ⊥
IsWritten before after text (Some QueueOverflow) = ⊥
