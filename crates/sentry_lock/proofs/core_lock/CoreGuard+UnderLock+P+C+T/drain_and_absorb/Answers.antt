use Rattle.std.proofs.Common.{◌∙◌}
use Rattle.std.specs.Prelude.{IfErr, IfOk}
use Rattle.std.specs.Sync.Mutex.{mutex_guard_value}
use Rattle.sentry_lock.proofs.LockAnswers.{from_core}
use Rattle.sentry_lock.specs.Answers.{DrainsLabel, IsForeign}
use Rattle.sentry_lock.proofs.core_lock.CoreGuard+UnderLock+P+C+T.drain_and_absorb.Goals as goal

pub returns-clause-done : goal.returns-clause-done
returns-clause-done g c =
    from_core (λ core. IfOk c.drain_and_absorb.result (λ drained. DrainsLabel core c.drain_and_absorb.new.self c.args.label drained))
    c.behind-self.inside.core (mutex_guard_value c.args.self.now.under) (c.behind-self.view_is ∙ c.deref_mut.ensures.value) c.drain_and_absorb.ensures.done

pub returns-clause-refused : goal.returns-clause-refused
returns-clause-refused g c =
    from_core (λ core. IfErr c.drain_and_absorb.result (λ refusal. IsForeign core c.drain_and_absorb.new.self c.args.label refusal))
    c.behind-self.inside.core (mutex_guard_value c.args.self.now.under) (c.behind-self.view_is ∙ c.deref_mut.ensures.value) c.drain_and_absorb.ensures.refused
