use Rattle.sentry_base.specs.declared.protocol.keys.ClientKey.{ClientKey}
use Rattle.sentry_calls.specs.Clients as clients
use Rattle.sentry_lock.proofs.LockAnswers.{lock_reads, lock_read_refused}
use Rattle.sentry_lock.specs.Answers.{LockRefuses}
use Rattle.sentry_state.specs.Outcomes.{memory}
use Rattle.std.proofs.Common.{subst}
use Rattle.std.specs.Prelude.{IfErr}
use Rattle.sentry_lock.proofs.client.Client.options.Goals as goal

pub returns-clause-done : goal.returns-clause-done
returns-clause-done g c =
    rw (← c.self.view_is) (lock_reads c.behind-guard.inside.core memory c.engine.result.now c.engine.ensures _ c.options.result c.reply_of.result c.reply_of.ensures.ok c.reply_of.ensures.err c.options.ensures)

pub returns-clause-refused : goal.returns-clause-refused
returns-clause-refused g c =
    subst (λ (key : ClientKey). IfErr c.reply_of.result (λ refusal. LockRefuses g.row.L-Processor.Denot
    g.row.L-Callbacks.Denot g.row.L-Transport.Denot refusal (clients.options key)))
    c.self.view_is (lock_read_refused c.behind-guard.inside.core memory c.engine.result.now c.engine.ensures _ c.options.result c.reply_of.result c.reply_of.ensures.ok c.reply_of.ensures.err c.options.ensures)
