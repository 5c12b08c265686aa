use Rattle.sentry_base.specs.declared.protocol.keys.ClientKey.{ClientKey}
use Rattle.sentry_lock.specs.Answers.{LockAnswersWithoutMemory}
use Rattle.std.specs.Prelude.{Option}
use Rattle.sentry_hub.proofs.Locked.{locked_answers, refuses_same}
use Rattle.sentry_calls.specs.Hubs as hubs
use Rattle.sentry_state.specs.Outcomes.{nothing}
use Rattle.std.proofs.Common.{Ok, Err, None, Some, inr, subst, sym}
use Rattle.std.specs.Sync.Mutex.{mutex_guard_value}
use Rattle.sentry_hub.proofs.hub.Hub.client.Goals as goal

pub returns-in_ok-client-in-Ok-Some-clause-done : goal.returns-in_ok-client-in-Ok-Some-clause-done
returns-in_ok-client-in-Ok-Some-clause-done g c =
    let did = subst (λ (found : Option ClientKey). LockAnswersWithoutMemory g.row.L-Processor.Denot g.row.L-Callbacks.Denot g.row.L-Transport.Denot found (hubs.client c.lock.result.hub))
    c.in-Ok-Some.field-0-is (locked_answers (mutex_guard_value c.lock.result.guard.under) nothing (hubs.client c.lock.result.hub) (Ok c.in-Ok-Some.field-0) c.in-Ok-Some.ensures.done) in
    rw (← c.lock.ensures) (subst (λ (client : ClientKey). LockAnswersWithoutMemory g.row.L-Processor.Denot g.row.L-Callbacks.Denot g.row.L-Transport.Denot (Some client) (hubs.client c.lock.result.hub))
    (sym c.in_ok-client-in-Ok-Some.ensures) did)

pub returns-in-Ok-None-clause-done : goal.returns-in-Ok-None-clause-done
returns-in-Ok-None-clause-done g c = rw (← c.lock.ensures) (locked_answers (mutex_guard_value c.lock.result.guard.under) nothing (hubs.client c.lock.result.hub) (Ok None) (rw (← c.in-Ok-None.field-0-is) c.in-Ok-None.ensures.done))

pub returns-in-Err-clause-refused : goal.returns-in-Err-clause-refused
returns-in-Err-clause-refused g c =
    inr (refuses_same (mutex_guard_value c.lock.result.guard.under) (λ hub. hubs.client hub) _ _ c.lock.ensures nothing (Err c.in-Err.refusal) c.in-Err.ensures.refused)
