use Rattle.std.proofs.Common.{rules, ap, Some}
use Rattle.sentry_calls.specs.Clients.{prepare_event}
use Rattle.sentry_engine.proofs.engine.Engine.prepare_event.Goals as goal

pub returns-in-None : goal.returns-in-None
unfolding prepare_event
returns-in-None g c =
    let boxed = ap Some c.in_ok-new.ensures in
    let preparation = c.prepare_event.ensures.preparation c.args.event boxed in
    let event = c.prepare_event.ensures.event c.args.event boxed in
    search rules

pub returns-in-Some-loss_reason : goal.returns-in-Some-loss_reason
unfolding prepare_event
returns-in-Some-loss_reason g c =
    let boxed = ap Some c.in_ok-new.ensures in
    let preparation = c.prepare_event.ensures.preparation c.args.event boxed in
    let event = c.prepare_event.ensures.event c.args.event boxed in
    search rules
