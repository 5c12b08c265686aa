use Rattle.sentry_base.specs.declared.protocol.keys.ClientKey.{ClientKey}
use Rattle.sentry_calls.specs.Layers as layers
use Rattle.sentry_lock.specs.Answers.{LockRefusesWithoutMemory}
use Rattle.std.proofs.Common.{subst}
use Rattle.std.specs.Prelude.{IfErr, Option}
use Rattle.sentry_hub.proofs.Locked.{locked_answers, refuses_same}
use Rattle.sentry_state.specs.Outcomes.{nothing}
use Rattle.std.specs.Sync.Mutex.{mutex_guard_value}
use Rattle.sentry_hub.proofs.hub.Hub.bind_client.Goals as goal

pub returns-clause-done : goal.returns-clause-done
returns-clause-done g c = rw (← c.lock.ensures) (rw (← c.key_of.ensures) (locked_answers (mutex_guard_value c.lock.result.guard.under) nothing _ c.bind_client.result c.bind_client.ensures.done))

pub returns-clause-refused : goal.returns-clause-refused
returns-clause-refused g c =
    subst (λ (client : Option ClientKey). IfErr c.bind_client.result (λ refusal. LockRefusesWithoutMemory g.row.L-Processor.Denot g.row.L-Callbacks.Denot g.row.L-Transport.Denot refusal (layers.bind_client c.args.self.now client)))
    c.key_of.ensures (refuses_same (mutex_guard_value c.lock.result.guard.under) (λ hub. layers.bind_client hub c.key_of.result) _ _ c.lock.ensures nothing c.bind_client.result c.bind_client.ensures.refused)
