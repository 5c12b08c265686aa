use Rattle.sentry_base.specs.declared.protocol.keys.ClientKey.{ClientKey}
use Rattle.sentry_calls.specs.Hubs as hubs
use Rattle.sentry_lock.specs.Answers.{LockAnswers, LockRefuses}
use Rattle.std.proofs.Common.{inr, subst}
use Rattle.std.specs.Prelude.{Option}
use Rattle.sentry_hub.proofs.hub.Hub.new.Goals as goal

pub returns-in-Ok-clause-done : goal.returns-in-Ok-clause-done
returns-in-Ok-clause-done g c =
    subst (λ (client : Option ClientKey). LockAnswers g.row.L-Processor.Denot g.row.L-Callbacks.Denot g.row.L-Transport.Denot c.in-Ok.key
    (hubs.new_hub client c.args.scope)) c.key_of.ensures c.in-Ok.ensures.done

pub returns-in-Err-clause-refused : goal.returns-in-Err-clause-refused
returns-in-Err-clause-refused g c =
    inr (subst (λ (client : Option ClientKey). LockRefuses g.row.L-Processor.Denot g.row.L-Callbacks.Denot g.row.L-Transport.Denot
    c.in-Err.refusal (hubs.new_hub client c.args.scope)) c.key_of.ensures c.in-Err.ensures.refused)
