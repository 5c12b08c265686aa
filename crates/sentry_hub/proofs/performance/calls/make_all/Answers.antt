use Rattle.sentry_calls.specs.declared.call.Call.TheVariants as group
use Rattle.sentry_calls.specs.declared.call.Call.{Call}
use Rattle.sentry_calls.specs.declared.call.spans.records.SpanCall.{SpanCall}
use Rattle.sentry_lock.specs.CallLists.{LockMakesEach}
use Rattle.std.proofs.Common.{List, subst}
use Rattle.std.specs.Prelude.{OnOk, map}
use Rattle.sentry_hub.proofs.performance.calls.make_all.Goals as goal

pub returns : goal.returns
returns g c =
    subst (λ (calls : List SpanCall). OnOk c.call_all.result (LockMakesEach g.row.L-Transport.Denot g.L.Processor.EventCallback.gives g.L.Callbacks.Callbacks.meanings (map group.Span calls))) c.into_vec.ensures
    (subst (λ (all : List (Call g.row.L-Processor.Denot g.row.L-Callbacks.Denot)). OnOk c.call_all.result (LockMakesEach g.row.L-Transport.Denot g.L.Processor.EventCallback.gives g.L.Callbacks.Callbacks.meanings all))
    c.in_ok-calls.ensures.calls c.call_all.ensures.done)
