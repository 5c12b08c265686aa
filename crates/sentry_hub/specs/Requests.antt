-- The events of a thread that serves a request.
use Rattle.std.specs.Prelude.{ℕ, List, Option, Some, None}
use Rattle.sentry_base.specs.Events.{new_event}
use Rattle.sentry_base.specs.declared.protocol.event.Event.{Event}
use Rattle.sentry_base.specs.declared.protocol.level.Level.{Level}
use Rattle.sentry_base.specs.declared.protocol.request.Request.{Request}

-- what an event tells of a request, or else the one that is served
abbrev pub told_request : Option Request → Option Request → Option Request
told_request None served = served
told_request (Some told) served = Some told

abbrev pub with_request : Option Request → Event → Event
with_request served event = record event { request = told_request event.request served }

-- the event of a message, with this id and moment
abbrev pub message_event : List ℕ → Level → List ℕ → ℕ → Event
message_event message level id now = record (new_event id now) { level = level; message = Some message }
