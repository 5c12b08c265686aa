-- What it means that a call was made, and that what it handed out waits.
use Rattle.std.specs.Prelude.{◌≡◌, ℕ, Option, Some, None, Result, Ok, Err, List, [], ◌++◌}
use Rattle.sentry_base.specs.declared.protocol.refusal.Refusal.{Refusal}
use Rattle.sentry_state.specs.declared.state.Out.{Out}
use Rattle.sentry_state.specs.Outcomes.{Outcome}
use Rattle.sentry_state.specs.Worlds.{World, Stands}
use Rattle.c_base.specs.declared.fault.CallFault.{CallFault}
use Rattle.c_base.specs.Faults.{refusal_of}
use Rattle.c_base.specs.Outboxes.{Stacktraces, Waiting, waiting}
use Rattle.c_base.specs.Queues.{noted}
use Rattle.c_engine.specs.declared.callbacks.NoProcessor.{NoProcessor}
use Rattle.c_records.specs.declared.filters.Filters.{Filters}
use Rattle.c_engine.specs.declared.outbox_engine.OutboxEngine.{OutboxEngine}

-- neither the engine nor what waits has changed
abbrev pub IsUnchanged : OutboxEngine → OutboxEngine → Type 0
IsUnchanged old new = (new.engine ≡ old.engine) × (waiting new.outbox ≡ waiting old.outbox)

module _ {T : Type 0} where
  -- the answer is a reply that is so, and what waited is followed by what the call handed out, with these stack traces
  abbrev pub IsKept : Stacktraces → (T → Type 0) → List Waiting → List Waiting → Result (Out T) Refusal → Type 0
  IsKept stacktraces IsReply before after (Ok out) =
      IsReply out.reply × (after ≡ before ++ noted stacktraces out.sent)
  IsKept stacktraces IsReply before after (Err refusal) = ⊥

  -- a fault of the engine is the refusal that the definition of the call answers; any other came before the call
  abbrev pub IsRefused : Option Refusal → OutboxEngine → (World NoProcessor Filters → Outcome NoProcessor Filters T)
      → Type 0
  IsRefused None old outcome = Unit {0}
  IsRefused (Some refusal) old outcome =
      (world : World NoProcessor Filters) → Stands old.engine world → (outcome world).answer ≡ Err refusal

  -- the engine did the call as its definition says, and what it handed out waits behind what waited, with these stack
  -- traces; or the call failed, and nothing changed
  abbrev pub CallsWith : Stacktraces → OutboxEngine → OutboxEngine → Result (Unit {0}) CallFault → (T → Type 0)
      → (World NoProcessor Filters → Outcome NoProcessor Filters T) → Type 0
  CallsWith stacktraces old new (Ok done) IsReply outcome =
      (world : World NoProcessor Filters) → Stands old.engine world
      → IsKept stacktraces IsReply (waiting old.outbox) (waiting new.outbox) (outcome world).answer
      × Stands new.engine (outcome world).after
  CallsWith stacktraces old new (Err fault) IsReply outcome =
      IsUnchanged old new × IsRefused (refusal_of fault) old outcome

  -- the same of a call that captures no event with stack traces
  abbrev pub Calls : OutboxEngine → OutboxEngine → Result (Unit {0}) CallFault → (T → Type 0)
      → (World NoProcessor Filters → Outcome NoProcessor Filters T) → Type 0
  Calls old new answer IsReply outcome = CallsWith [] old new answer IsReply outcome

-- the engine made the call with a record that was read, or nothing changed
abbrev pub SomeCalls : {A T : Type 0} → OutboxEngine → OutboxEngine → Result (Unit {0}) CallFault → (T → Type 0)
    → (A → World NoProcessor Filters → Outcome NoProcessor Filters T) → Type 0
SomeCalls {A} old new (Ok done) IsReply outcome = (read : A) × Calls old new (Ok done) IsReply (outcome read)
SomeCalls old new (Err fault) IsReply outcome = IsUnchanged old new

-- the same, with stack traces that were read too
abbrev pub SomeCallsWith : {A T : Type 0} → OutboxEngine → OutboxEngine → Result (Unit {0}) CallFault → (T → Type 0)
    → (A → World NoProcessor Filters → Outcome NoProcessor Filters T) → Type 0
SomeCallsWith {A} old new (Ok done) IsReply outcome =
    (read : A) × (stacktraces : Stacktraces) × CallsWith stacktraces old new (Ok done) IsReply (outcome read)
SomeCallsWith old new (Err fault) IsReply outcome = IsUnchanged old new

-- any reply
abbrev pub anything : {T : Type 0} → T → Type 0
anything reply = Unit {0}
