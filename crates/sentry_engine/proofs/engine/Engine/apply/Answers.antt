use Rattle.sentry_calls.specs.declared.call.Reply.TheVariants.{Span}
use Rattle.sentry_engine.proofs.ReplyLemmas.{does_replying}
use Rattle.sentry_engine.proofs.engine.Engine.apply.Goals as goal

pub returns-in-Span : goal.returns-in-Span
returns-in-Span g c = rw c.in-Span.is (does_replying _ Span _ _ _ _ _ c.apply_span_call.ensures c.span.ensures)
