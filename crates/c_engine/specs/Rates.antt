-- Transactions that are started with a rate of their own.
use Rattle.std.specs.Prelude.{codes}
use Rattle.sentry_plain.specs.Texts.{Bytes}
use Rattle.sentry_plain.specs.Values as values
use Rattle.sentry_trace.specs.CustomContexts.{with_custom}
use Rattle.sentry_trace.specs.declared.performance.context.TransactionContext.{TransactionContext}

-- the context with the rate that a text writes, which the sampler of a client reads (`given_rate`)
abbrev pub with_rate : Bytes → TransactionContext → TransactionContext
with_rate rate context = with_custom (codes "rate") (values.text rate) context
