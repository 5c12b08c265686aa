-- What is recorded of an envelope.
use Rattle.std.specs.Prelude.{ℕ, List, ◌++◌, Option, Some, None, option_map}
use Rattle.sentry_base.specs.declared.protocol.envelope.Envelope.{Envelope}
use Rattle.sentry_base.specs.RecordLosses.{envelope_losses}
use Rattle.sentry_client_reports.specs.declared.client_reports.reason.TransportLossReason.{TransportLossReason}
use Rattle.sentry_client_reports.specs.LossWords.{LossPart, steps_to_record}
use Rattle.sentry_client_reports.specs.Reasons.{reason_of}

-- a recorder that records losses once more
abbrev pub and_losses : List ℕ → LossPart → LossPart
and_losses losses recorder = record recorder { steps = recorder.steps ++ steps_to_record losses }

-- a recorder after an envelope was sent, of which it hears nothing, or was lost for a reason, which it records once
abbrev pub recorder_after : Option TransportLossReason → Envelope → Option LossPart → Option LossPart
recorder_after None envelope recorder = recorder
recorder_after (Some reason) envelope recorder =
    option_map (and_losses (envelope_losses (reason_of reason) envelope.items)) recorder
