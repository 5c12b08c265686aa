use Rattle.std.proofs.Common.{◌∙◌}
use Rattle.std.specs.Prelude.{Err, IfErr, IfOk}
use Rattle.std.specs.Sync.Mutex.{mutex_guard_value}
use Rattle.sentry_calls.specs.Losses.{take_report}
use Rattle.sentry_lock.proofs.LockAnswers.{from_core}
use Rattle.sentry_lock.specs.Locked.{Replies}
use Rattle.sentry_state.specs.Outcomes.{Does}
use Rattle.sentry_lock.proofs.core_lock.CoreGuard+UnderLock+P+C+T.take_report.Goals as goal

pub returns-clause-done : goal.returns-clause-done
returns-clause-done g c =
    from_core (λ core. IfOk c.take_report.result (λ report. Replies core.engine c.take_report.new.self.engine report
    (take_report c.args.label)))
    c.behind-self.inside.core (mutex_guard_value c.args.self.now.under) (c.behind-self.view_is ∙ c.deref_mut.ensures.value) c.take_report.ensures.done

pub returns-clause-refused : goal.returns-clause-refused
returns-clause-refused g c =
    from_core (λ core. IfErr c.take_report.result (λ refusal. Does core.engine c.take_report.new.self.engine (Err refusal)
    (take_report c.args.label)))
    c.behind-self.inside.core (mutex_guard_value c.args.self.now.under) (c.behind-self.view_is ∙ c.deref_mut.ensures.value) c.take_report.ensures.refused
