-- What transports are made of.
use Rattle.std.specs.Prelude.{Option, None}
use Rattle.std.specs.Option.{option_map}
use Rattle.sentry_options.specs.declared.clientoptions.ClientOptions.{ClientOptions}
use Rattle.sentry_transport.specs.declared.transport.options.TransportOptions.{TransportOptions}

-- the options of a transport for a client with these, without a recorder; none without a DSN
abbrev pub transport_options : {C : Type 0} → ClientOptions C → Option TransportOptions
transport_options options =
    option_map (λ dsn. record {
      dsn = dsn;
      user_agent = options.plain.user_agent;
      http_proxy = options.plain.http_proxy;
      https_proxy = options.plain.https_proxy;
      accept_invalid_certs = options.plain.accept_invalid_certs;
      transport_channel_capacity = options.plain.transport_channel_capacity;
      client_report_recorder = None;
    }) options.plain.dsn
