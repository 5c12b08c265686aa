-- Scopes without processors.
use Rattle.std.specs.Prelude.{Some}
use Rattle.sentry_base.specs.Callbacks.{Partial}
use Rattle.c_engine.specs.declared.callbacks.NoProcessor.{NoProcessor}

-- a processor would give the event back
abbrev pub same_event : NoProcessor → Partial
same_event processor event = Some event
