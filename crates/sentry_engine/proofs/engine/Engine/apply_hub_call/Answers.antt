use Rattle.sentry_calls.specs.Steps.{hub_step}
use Rattle.sentry_calls.specs.declared.call.Reply.TheVariants.{Done}
use Rattle.sentry_engine.proofs.ReplyLemmas.{does_replying}
use Rattle.sentry_engine.proofs.engine.Engine.apply_hub_call.Goals as goal

pub returns-in-Configure : goal.returns-in-Configure
unfolding hub_step
returns-in-Configure g c =
    rw c.in-Configure.is
    (let configured = rw c.into_vec.ensures at c.configure.ensures in
    does_replying _ (λ _. Done) _ _ _ _ _ configured c.done.ensures)
