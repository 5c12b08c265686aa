use Rattle.sentry_hub.proofs.Locked.{locked_answers, refuses_same}
use Rattle.sentry_spans.specs.Spans as spans
use Rattle.sentry_state.specs.Outcomes.{memory}
use Rattle.std.proofs.Common.{Ok, Err, inr}
use Rattle.std.specs.Sync.Mutex.{mutex_guard_value}
use Rattle.sentry_hub.proofs.hub.Hub.start_transaction_with_timestamp.Goals as goal

pub returns-in-Ok-clause-done : goal.returns-in-Ok-clause-done
returns-in-Ok-clause-done g c = rw (← c.lock.ensures) (rw c.of_key.ensures (locked_answers (mutex_guard_value c.lock.result.guard.under) memory (spans.start_transaction_with_timestamp g.L.Callbacks.Callbacks.meanings c.lock.result.hub c.args.context c.args.start c.args.fresh) (Ok c.in-Ok.key) c.in-Ok.ensures.done))

pub returns-in-Err-clause-refused : goal.returns-in-Err-clause-refused
returns-in-Err-clause-refused g c =
    inr (refuses_same (mutex_guard_value c.lock.result.guard.under) (λ hub. spans.start_transaction_with_timestamp g.L.Callbacks.Callbacks.meanings hub c.args.context c.args.start c.args.fresh) _ _ c.lock.ensures memory (Err c.in-Err.refusal) c.in-Err.ensures.refused)
