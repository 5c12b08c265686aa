use Rattle.std.proofs.Common.{rules, ap, Some}
use Rattle.sentry_calls.specs.Clients.{client_capture_event}
use Rattle.sentry_engine.proofs.engine.Engine.client_capture_event.Goals as goal

pub returns : goal.returns
unfolding client_capture_event
returns g c =
    let boxed = ap Some c.in_ok-new.ensures in
    let entry = c.capture.ensures.entry c.args.event boxed in
    let event = c.capture.ensures.event c.args.event boxed in
    search rules
