use Rattle.sentry_lock.proofs.LockAnswers.{reads, read_refused}
use Rattle.sentry_state.specs.Outcomes.{nothing}
use Rattle.std.proofs.Common.{◌∙◌}
use Rattle.std.specs.Sync.Mutex.{mutex_guard_value}
use Rattle.sentry_lock.proofs.locked_hub.LockedHub.client.Goals as goal

pub returns-clause-done : goal.returns-clause-done
returns-clause-done g c =
    reads c.behind-guard.inside.core (mutex_guard_value c.args.self.guard.under) (c.behind-guard.view_is ∙ c.deref_mut.ensures.value)
    nothing c.engine.result.now c.engine.ensures _ c.client.result c.reply_of.result c.reply_of.ensures.ok c.reply_of.ensures.err c.client.ensures

pub returns-clause-refused : goal.returns-clause-refused
returns-clause-refused g c =
    read_refused c.behind-guard.inside.core (mutex_guard_value c.args.self.guard.under) (c.behind-guard.view_is ∙ c.deref_mut.ensures.value)
    nothing c.engine.result.now c.engine.ensures _ c.client.result c.reply_of.result c.reply_of.ensures.ok c.reply_of.ensures.err c.client.ensures
