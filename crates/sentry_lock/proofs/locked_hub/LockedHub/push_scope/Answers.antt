use Rattle.sentry_calls.specs.Hubs as hubs
use Rattle.sentry_calls.specs.Layers as layers
use Rattle.sentry_lock.proofs.LockAnswers.{answers, reads, refuses, read_refused}
use Rattle.sentry_lock.proofs.Refusals.{push_refused}
use Rattle.sentry_state.specs.Outcomes.{memory}
use Rattle.std.proofs.Common.{◌∙◌, Ok, Err, refl}
use Rattle.std.specs.Sync.Mutex.{mutex_guard_value}
use Rattle.sentry_lock.proofs.locked_hub.LockedHub.push_scope.Goals as goal

pub returns-in-Ok-push_scope-clause-guard : goal.returns-in-Ok-push_scope-clause-guard
returns-in-Ok-push_scope-clause-guard g c =
    answers c.core.inside.core (mutex_guard_value c.args.self.guard.under) (c.core.view_is ∙ c.deref_mut.ensures.value)
    memory c.push_scope.new.self.engine _ (Ok c.in-Ok-push_scope.pushed) c.in-Ok-push_scope.ensures.done

pub returns-in-Ok-push_scope-clause-copy : goal.returns-in-Ok-push_scope-clause-copy
returns-in-Ok-push_scope-clause-copy g c =
    reads c.core.inside.core (mutex_guard_value c.args.self.guard.under) (c.core.view_is ∙ c.deref_mut.ensures.value)
    memory c.engine.result.now c.engine.ensures _ (Ok c.in-Ok.out) (Ok c.in-Ok.out.reply) refl tt c.in-Ok.ensures

pub returns-in-Ok-clause-refused : goal.returns-in-Ok-clause-refused
returns-in-Ok-clause-refused g c =
    refuses c.core.inside.core (mutex_guard_value c.args.self.guard.under) (c.core.view_is ∙ c.deref_mut.ensures.value)
    memory c.push_scope.new.self.engine (layers.push_scope c.args.self.hub) (Err c.in-Err-push_scope.refusal) tt c.in-Err-push_scope.ensures.refused

-- the scope could not be copied
pub returns-clause-refused : goal.returns-clause-refused
returns-clause-refused g c =
    push_refused _ c.args.self.hub c.in-Err.refusal
    (read_refused c.core.inside.core (mutex_guard_value c.args.self.guard.under) (c.core.view_is ∙ c.deref_mut.ensures.value)
    memory c.engine.result.now c.engine.ensures (hubs.scope c.args.self.hub) (Err c.in-Err.refusal) (Err c.in-Err.refusal) tt refl c.in-Err.ensures)
