use Rattle.sentry_lock.proofs.LockAnswers.{answers, refuses}
use Rattle.sentry_state.specs.Outcomes.{memory}
use Rattle.std.proofs.Common.{◌∙◌}
use Rattle.std.specs.Sync.Mutex.{mutex_guard_value}
use Rattle.sentry_lock.proofs.locked_hub.LockedHub.add_breadcrumbs.Goals as goal

pub returns-clause-done : goal.returns-clause-done
returns-clause-done g c =
    answers c.behind-guard.inside.core (mutex_guard_value c.args.self.guard.under) (c.behind-guard.view_is ∙ c.deref_mut.ensures.value)
    memory c.add_breadcrumbs.new.self.engine _ c.add_breadcrumbs.result c.add_breadcrumbs.ensures.done

pub returns-clause-refused : goal.returns-clause-refused
returns-clause-refused g c =
    refuses c.behind-guard.inside.core (mutex_guard_value c.args.self.guard.under) (c.behind-guard.view_is ∙ c.deref_mut.ensures.value)
    memory c.add_breadcrumbs.new.self.engine _ c.add_breadcrumbs.result c.add_breadcrumbs.ensures.done c.add_breadcrumbs.ensures.refused
