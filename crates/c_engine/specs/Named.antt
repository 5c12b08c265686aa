-- What is passed by its name.
use Rattle.std.specs.Prelude.{◌≡◌, List, ℕ}
use Rattle.sentry_base.specs.declared.protocol.context.SpanStatus.{SpanStatus}
use Rattle.sentry_base.specs.Names.{span_status_name}

-- the status of this name
abbrev pub StatusNamed : List ℕ → Type 0
StatusNamed name = (status : SpanStatus) × (span_status_name status ≡ name)
