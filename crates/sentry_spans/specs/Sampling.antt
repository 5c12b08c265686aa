-- Which incoming traces are continued, and which traces are sampled.
use Rattle.std.specs.Prelude.{ℕ, Bool, true, false, not, Option, Some, None, ◌==◌, nat_lt, min, if◌then◌else◌}
use Rattle.std.specs.Option.{option_or, option_and_then}
use Rattle.sentry_base.specs.declared.protocol.ids.OrganizationId.{OrganizationId}
use Rattle.sentry_base.specs.declared.protocol.ids.TraceId.{TraceId}
use Rattle.sentry_trace.specs.Contexts.{with_new_trace}
use Rattle.sentry_trace.specs.declared.performance.context.IncomingTrace.{IncomingTrace}
use Rattle.sentry_trace.specs.declared.performance.context.TransactionContext.{TransactionContext}
use Rattle.sentry_options.specs.Meanings.{Meanings, rate_by}
use Rattle.sentry_options.specs.declared.clientoptions.choices.TracesSamplingStrategy.{TracesSamplingStrategy}
use Rattle.sentry_options.specs.declared.clientoptions.choices.TracesSamplingStrategy.TheVariants as strategy
use Rattle.sentry_options.specs.declared.clientoptions.plain.PlainOptions.{PlainOptions}
use Rattle.sentry_span_table.specs.declared.table.records.TracingState.{TracingState}
use Rattle.sentry_span_table.specs.declared.table.records.TracingState.TheVariants.{Enabled, Disabled}

-- ---- continuation

-- an incoming trace of this organization is continued by one of that: two that are known must be equal, one alone is
-- enough unless continuation is strict, and none is enough
abbrev pub continues : Option OrganizationId → Option OrganizationId → Bool → Bool
continues (Some incoming) (Some own) strict = incoming.0 == own.0
continues (Some incoming) None strict = not strict
continues None (Some own) strict = not strict
continues None None strict = true

-- the organization of the client: that of its options, or else of its DSN
abbrev pub own_organization : PlainOptions → Option OrganizationId
own_organization options = option_or options.org_id (option_and_then (λ dsn. dsn.organization) options.dsn)

-- the incoming trace, if there is one, is continued
abbrev pub continues_incoming : PlainOptions → Option IncomingTrace → Bool
continues_incoming options None = true
continues_incoming options (Some incoming) =
    continues incoming.org_id (own_organization options) options.strict_trace_continuation

-- the context from which the transaction starts: of a trace of its own, where the incoming one is rejected
abbrev pub accepted_context : PlainOptions → TraceId → TransactionContext → TransactionContext
accepted_context options trace_id context =
    if continues_incoming options context.incoming_trace then context else with_new_trace trace_id context

-- ---- sampling

-- a decision that was made before stands, as the rate of all or of none
abbrev pub rate_after : Option Bool → ℕ → ℕ
rate_after None rate = rate
rate_after (Some true) rate = 1000000
rate_after (Some false) rate = 0

-- the rate at which the trace is sampled, if the client traces
abbrev pub traces_rate : Meanings → TracesSamplingStrategy → TransactionContext → Option ℕ
traces_rate client (strategy.FixedRate rate) context = Some (rate_after context.sampled rate)
traces_rate client strategy.Function context = Some (min (rate_by client.traces_sampler context) 1000000)
traces_rate client strategy.Disabled context = None

-- a trace is sampled where its draw lies below the rate
abbrev pub tracing_at : Option ℕ → Option Bool → ℕ → TracingState
tracing_at None decision draw = Disabled decision
tracing_at (Some rate) decision draw = Enabled (nat_lt draw rate) rate

unfoldable pub tracing_of : Meanings → TracesSamplingStrategy → TransactionContext → ℕ → TracingState
tracing_of client sampling context draw = tracing_at (traces_rate client sampling context) context.sampled draw
