use Rattle.sentry_calls.specs.declared.call.Call.TheVariants as group
use Rattle.sentry_calls.specs.declared.call.spans.records.SpanCall.{SpanCall}
use Rattle.sentry_hub.proofs.Handles.{done_or}
use Rattle.sentry_lock.specs.CallLists.{LockMakesEach}
use Rattle.std.proofs.Common.{List, subst}
use Rattle.std.specs.Prelude.{OnOk, map}
use Rattle.sentry_hub.proofs.performance.handle.Handle.make_all.Goals as goal

pub returns-in-Some : goal.returns-in-Some
returns-in-Some g c =
    done_or _ _ c.make_all.result
    (subst (λ (calls : List SpanCall). OnOk c.make_all.result (LockMakesEach g.row.L-Transport.Denot g.L.Processor.EventCallback.gives g.L.Callbacks.Callbacks.meanings (map group.Span calls))) c.into_calls.ensures
    c.make_all.ensures)
