-- The engine of this program: its scopes have no processors, and its clients have no callbacks.
use Rattle.std.specs.Prelude.{Some, None, [], Result}
use Rattle.sentry_base.specs.declared.protocol.refusal.Refusal.{Refusal}
use Rattle.sentry_base.specs.Callbacks.{Partial}
use Rattle.sentry_options.specs.Meanings.{Meanings}
use Rattle.sentry_state.specs.declared.state.State.{State}
use Rattle.sentry_state.specs.declared.state.Out.{Out}
use Rattle.sentry_calls.specs.declared.call.Call.{Call}
use Rattle.sentry_calls.specs.declared.call.Reply.{Reply}
use Rattle.sentry_state.specs.Worlds.{World}
use Rattle.replay_run.specs.declared.engine.NoProcessor.{NoProcessor}
use Rattle.replay_run.specs.declared.engine.NoCallbacks.{NoCallbacks}

-- a processor would give the event back
abbrev pub same_event : NoProcessor → Partial
same_event processor event = Some event

-- no integrations, no callback and no sampler
abbrev pub no_callbacks : NoCallbacks → Meanings
no_callbacks callbacks = record {
  integrations = [];
  before_send = None;
  before_breadcrumb = None;
  before_send_log = None;
  before_send_metric = None;
  traces_sampler = None;
}

-- what contracts see of the engine
abbrev pub ReplayState : Type 0
ReplayState = State NoProcessor NoCallbacks

-- what the engine stands for
abbrev pub ReplayWorld : Type 0
ReplayWorld = World NoProcessor NoCallbacks

abbrev pub ReplayCall : Type 0
ReplayCall = Call NoProcessor NoCallbacks

abbrev pub ReplayAnswer : Type 0
ReplayAnswer = Result (Out (Reply NoProcessor NoCallbacks)) Refusal
