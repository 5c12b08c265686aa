use Rattle.sentry_base.specs.declared.protocol.breadcrumb.Breadcrumb.{Breadcrumb}
use Rattle.sentry_lock.specs.Answers.{LockRefuses}
use Rattle.std.proofs.Common.{subst}
use Rattle.sentry_state.specs.Breadcrumbs.{add_breadcrumbs}
use Rattle.std.specs.Prelude.{IfErr, List}
use Rattle.sentry_hub.proofs.Locked.{locked_answers, refuses_same}
use Rattle.sentry_state.specs.Outcomes.{memory}
use Rattle.std.specs.Sync.Mutex.{mutex_guard_value}
use Rattle.sentry_hub.proofs.hub.Hub.add_breadcrumbs.Goals as goal

pub returns-clause-done : goal.returns-clause-done
returns-clause-done g c = rw (← c.lock.ensures) (rw (← c.from_vec.ensures) (locked_answers (mutex_guard_value c.lock.result.guard.under) memory _ c.add_breadcrumbs.result c.add_breadcrumbs.ensures.done))

pub returns-clause-refused : goal.returns-clause-refused
returns-clause-refused g c =
    subst (λ (list : List Breadcrumb). IfErr c.add_breadcrumbs.result (λ refusal. LockRefuses g.row.L-Processor.Denot g.row.L-Callbacks.Denot g.row.L-Transport.Denot refusal (add_breadcrumbs g.L.Callbacks.Callbacks.meanings c.args.self.now list)))
    c.from_vec.ensures (refuses_same (mutex_guard_value c.lock.result.guard.under) (λ hub. add_breadcrumbs g.L.Callbacks.Callbacks.meanings hub c.from_vec.result) _ _ c.lock.ensures memory c.add_breadcrumbs.result c.add_breadcrumbs.ensures.refused)
