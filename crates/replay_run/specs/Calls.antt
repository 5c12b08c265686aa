-- The calls that commands make.
use Rattle.std.specs.Prelude.{ℕ, ◌*◌, ◌-◌, ◌^◌, min, true, Option, Some, None, [], ◌∷◌, codes}
use Rattle.std.specs.Int.{to_be_bytes, w64, w128}
use Rattle.sentry_plain.specs.Texts.{Bytes}
use Rattle.sentry_texts.specs.declared.dsn.Scheme.TheVariants.{Https}
use Rattle.sentry_texts.specs.DsnParts.{DsnParts}
use Rattle.sentry_base.specs.Envelopes.{empty_envelope}
use Rattle.sentry_base.specs.declared.protocol.fresh.Fresh.{Fresh}
use Rattle.sentry_base.specs.declared.protocol.keys.ClientKey.{ClientKey}
use Rattle.sentry_base.specs.declared.protocol.keys.HubKey.{HubKey}
use Rattle.sentry_base.specs.declared.protocol.log.Log.{Log}
use Rattle.sentry_base.specs.declared.protocol.log.LogLevel.TheVariants.{Info}
use Rattle.sentry_base.specs.declared.protocol.session.SessionStatus.TheVariants.{Exited}
use Rattle.sentry_options.specs.Options.{default_plain_options, default_options_with}
use Rattle.sentry_options.specs.declared.clientoptions.ClientOptions.{ClientOptions}
use Rattle.sentry_scope.specs.Scopes.{new_scope}
use Rattle.sentry_scope.specs.declared.scope.edit.ScopeEdit.TheVariants.{SetTag}
use Rattle.sentry_calls.specs.declared.call.Call.TheVariants.{Client, Hub}
use Rattle.sentry_calls.specs.declared.call.clients.ClientCall.TheVariants.{AddClient, SendEnvelope, Flush, Close}
use Rattle.sentry_calls.specs.declared.call.hubs.HubCall.TheVariants.{NewHub, Configure, CaptureMessage, ReleaseHub, StartSession, EndSessionWithStatus, CaptureLog}
use Rattle.replay_run.specs.declared.engine.NoCallbacks.{NoCallbacks}
use Rattle.replay_run.specs.declared.command.Command.{Command}
use Rattle.replay_run.specs.declared.command.Command.TheVariants as command
use Rattle.replay_run.specs.Engines.{ReplayCall}

-- the moment of the line of this number, which stops at 2^64-1
abbrev pub moment_of : ℕ → ℕ
moment_of number = min (number * 10 ^ 9) (2 ^ 64 - 1)

-- what a call on the line of this number is handed
abbrev pub fresh_of : ℕ → Fresh
fresh_of number = record {
  now = moment_of number;
  uuid = to_be_bytes w128 number;
  trace_id = record { 0 = to_be_bytes w128 number };
  span_id = record { 0 = to_be_bytes w64 number };
  draw = 0;
}

-- the DSN of every client, as text and in its parts
abbrev pub client_dsn_text : Bytes
client_dsn_text = codes "https://public@sentry.invalid/1"

abbrev pub client_dsn : DsnParts
client_dsn = record {
  scheme = Https;
  public_key = codes "public";
  host = codes "sentry.invalid";
  port = 443;
  project = codes "1";
  organization = None;
  text = client_dsn_text;
}

-- the options of a client of this release
abbrev pub client_options : Option Bytes → ClientOptions NoCallbacks
client_options release = record (default_options_with (record {})) {
  plain = record default_plain_options { dsn = Some client_dsn; release = release };
}

abbrev pub client_key : ℕ → ClientKey
client_key number = record { tag = 0; number = number }

abbrev pub hub_key : ℕ → HubKey
hub_key number = record { tag = 0; number = number }

-- a log of this text at a moment
abbrev pub info_log : ℕ → Bytes → Log
info_log now text = record {
  level = Info;
  body = text;
  trace_id = None;
  timestamp = now;
  attributes = [];
}

-- the call of the command on the line of this number; a client's label is the number of its line
abbrev pub call_of : ℕ → Command → ReplayCall
call_of number (command.Client release) =
    Client (AddClient (client_options release) true (record { tag = 0; number = number }) (moment_of number))
call_of number (command.Hub client) =
    Hub (NewHub (Some (client_key client)) (new_scope (fresh_of number).trace_id (fresh_of number).span_id))
call_of number (command.Tag hub key value) =
    Hub (Configure (hub_key hub) (SetTag key value ∷ []) (moment_of number))
call_of number (command.Message hub level text) = Hub (CaptureMessage (hub_key hub) text level (fresh_of number))
call_of number (command.Empty client) = Client (SendEnvelope (client_key client) empty_envelope)
call_of number (command.Release hub) = Hub (ReleaseHub (hub_key hub) (moment_of number))
call_of number (command.Session hub) = Hub (StartSession (hub_key hub) (fresh_of number))
call_of number (command.End hub) = Hub (EndSessionWithStatus (hub_key hub) Exited (moment_of number))
call_of number (command.Flush client) = Client (Flush (client_key client))
call_of number (command.Log hub text) = Hub (CaptureLog (hub_key hub) (info_log (moment_of number) text))
call_of number (command.Close client) = Client (Close (client_key client))
