use Rattle.std.proofs.Common.{◌∙◌}
use Rattle.std.specs.Prelude.{IfErr, IfOk}
use Rattle.std.specs.Sync.Mutex.{mutex_guard_value}
use Rattle.sentry_lock.proofs.LockAnswers.{from_core, label_ended}
use Rattle.sentry_lock.specs.Answers.{EndsLabel, IsForeign}
use Rattle.sentry_lock.proofs.core_lock.CoreGuard+UnderLock+P+C+T.close_losses.Goals as goal

pub returns-clause-done : goal.returns-clause-done
returns-clause-done g c =
    from_core (λ core. IfOk c.close_losses.result (λ ended. EndsLabel core c.close_losses.new.self c.args.label ended))
    c.behind-self.inside.core (mutex_guard_value c.args.self.now.under) (c.behind-self.view_is ∙ c.deref_mut.ensures.value)
    (label_ended c.behind-self.inside.core c.close_losses.new.self c.args.label c.close_losses.result
    c.close_losses.ensures.named c.close_losses.ensures.ended c.close_losses.ensures.held)

pub returns-clause-refused : goal.returns-clause-refused
returns-clause-refused g c =
    from_core (λ core. IfErr c.close_losses.result (λ refusal. IsForeign core c.close_losses.new.self c.args.label refusal))
    c.behind-self.inside.core (mutex_guard_value c.args.self.now.under) (c.behind-self.view_is ∙ c.deref_mut.ensures.value) c.close_losses.ensures.refused
