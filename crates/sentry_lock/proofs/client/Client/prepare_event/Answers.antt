use Rattle.sentry_base.specs.declared.protocol.keys.ClientKey.{ClientKey}
use Rattle.sentry_calls.specs.Clients as clients
use Rattle.sentry_lock.proofs.LockAnswers.{lock_answers, lock_refuses}
use Rattle.sentry_lock.specs.Answers.{LockRefuses}
use Rattle.sentry_state.specs.Outcomes.{memory}
use Rattle.std.proofs.Common.{subst}
use Rattle.std.specs.Option.{option_copied}
use Rattle.std.specs.Prelude.{IfErr}
use Rattle.sentry_lock.proofs.client.Client.prepare_event.Goals as goal

pub returns-clause-done : goal.returns-clause-done
returns-clause-done g c =
    rw (← c.self.view_is) (lock_answers c.behind-lock.inside.core memory c.prepare_event.new.self.engine _ c.prepare_event.result c.prepare_event.ensures.done)

pub returns-clause-refused : goal.returns-clause-refused
returns-clause-refused g c =
    subst (λ (key : ClientKey). IfErr c.prepare_event.result (λ refusal. LockRefuses g.row.L-Processor.Denot
    g.row.L-Callbacks.Denot g.row.L-Transport.Denot refusal (clients.prepare_event g.L.Processor.EventCallback.gives
    g.L.Callbacks.Callbacks.meanings key c.args.event (option_copied c.args.scope) c.args.fresh)))
    c.self.view_is (lock_refuses c.behind-lock.inside.core memory c.prepare_event.new.self.engine _ c.prepare_event.result c.prepare_event.ensures.done c.prepare_event.ensures.refused)
