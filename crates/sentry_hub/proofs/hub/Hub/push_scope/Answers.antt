use Rattle.sentry_base.specs.declared.protocol.keys.HubKey.{HubKey}
use Rattle.sentry_calls.specs.Layers as layers
use Rattle.sentry_lock.specs.Answers.{LockAnswers, LockRefuses}
use Rattle.std.proofs.Common.{subst}
use Rattle.std.specs.Prelude.{IfErr, IfOk}
use Rattle.sentry_hub.proofs.hub.Hub.push_scope.Goals as goal

pub returns-clause-done : goal.returns-clause-done
returns-clause-done g c =
    subst (λ (hub : HubKey). IfOk c.push_scope.result (λ guard. LockAnswers g.row.L-Processor.Denot g.row.L-Callbacks.Denot g.row.L-Transport.Denot guard (layers.push_scope hub)))
    c.self.view_is c.push_scope.ensures.done

pub returns-clause-refused : goal.returns-clause-refused
returns-clause-refused g c =
    subst (λ (hub : HubKey). IfErr c.push_scope.result (λ refusal. LockRefuses g.row.L-Processor.Denot g.row.L-Callbacks.Denot g.row.L-Transport.Denot refusal (layers.push_scope hub)))
    c.self.view_is c.push_scope.ensures.refused
