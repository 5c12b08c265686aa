use Rattle.sentry_lock.proofs.LockAnswers.{lock_reads, lock_read_refused}
use Rattle.sentry_state.specs.Outcomes.{nothing}
use Rattle.sentry_lock.proofs.shared_core.SharedCore.get_span_id.Goals as goal

pub returns-clause-done : goal.returns-clause-done
returns-clause-done g c =
    lock_reads c.behind-guard.inside.core nothing c.engine.result.now c.engine.ensures _ c.get_span_id.result c.reply_of.result c.reply_of.ensures.ok c.reply_of.ensures.err c.get_span_id.ensures

pub returns-clause-refused : goal.returns-clause-refused
returns-clause-refused g c =
    lock_read_refused c.behind-guard.inside.core nothing c.engine.result.now c.engine.ensures _ c.get_span_id.result c.reply_of.result c.reply_of.ensures.ok c.reply_of.ensures.err c.get_span_id.ensures
