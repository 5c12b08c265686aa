-- What a client is set up with.
use Rattle.std.specs.Prelude.{◌≡◌, Option, Some, None}
use Rattle.std.specs.Option.{option_map}
use Rattle.sentry_base.specs.declared.protocol.keys.Label.{Label}
use Rattle.sentry_client_reports.specs.LossCounts.{CountedPart}
use Rattle.sentry_client_reports.specs.LossWords.{LossPart}
use Rattle.sentry_options.specs.declared.clientoptions.ClientOptions.{ClientOptions}
use Rattle.sentry_transport.specs.Transports.{transport_options}
use Rattle.sentry_transport.specs.declared.transport.options.TransportOptions.{TransportOptions}

-- the recorder of the words that the drainer drains, under the drainer's label
pub record IsRecorderOf (recorder : Option LossPart) (drainer : CountedPart) : Type 0 where
  pub part : LossPart
  pub held : recorder ≡ Some part
  pub words : part.words ≡ drainer.part.words
  pub label : part.label ≡ drainer.part.label

abbrev pub with_recorder : LossPart → TransportOptions → TransportOptions
with_recorder recorder options = record options { client_report_recorder = Some recorder }

-- the options of a transport for a client with these, and with this recorder; none without it
abbrev pub options_with : {C : Type 0} → Option LossPart → ClientOptions C → Option TransportOptions
options_with None options = None
options_with (Some recorder) options = option_map (with_recorder recorder) (transport_options options)
