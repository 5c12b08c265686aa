use Rattle.sentry_calls.specs.Steps.{client_step}
use Rattle.sentry_calls.specs.declared.call.Reply.TheVariants.{Event}
use Rattle.sentry_engine.proofs.ReplyLemmas.{does_replying}
use Rattle.sentry_engine.proofs.engine.Engine.apply_client_call.Goals as goal

pub returns-in-ClientCaptureEvent : goal.returns-in-ClientCaptureEvent
unfolding client_step
returns-in-ClientCaptureEvent g c =
    rw c.in-ClientCaptureEvent.is
    (does_replying _ Event _ _ _ _ _ c.client_capture_boxed_event.ensures c.event.ensures)
