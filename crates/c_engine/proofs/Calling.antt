-- A call that the engine did, and whose envelopes are kept; and one that it refused.
use Rattle.std.proofs.Common.{◌≡◌, ◌∙◌, sym, subst, List, ◌++◌}
use Rattle.std.specs.Prelude.{Option, None, Result, Ok, Err}
use Rattle.sentry_plain.specs.Texts.{Bytes}
use Rattle.sentry_base.specs.Names.{span_status_name}
use Rattle.sentry_base.specs.declared.protocol.context.SpanStatus.{SpanStatus}
use Rattle.sentry_base.specs.declared.protocol.refusal.Refusal.{Refusal}
use Rattle.sentry_base.specs.declared.protocol.refusal.Refusal.TheVariants.{OutOfMemory, Stale, OutOfOrder, StillNamed, ScopesOpen, InvalidDsn, InvalidRate, ForeignLosses, Full}
use Rattle.sentry_state.specs.declared.state.Out.{Out}
use Rattle.sentry_state.specs.Outcomes.{Outcome, Need, DoesWith}
use Rattle.sentry_state.specs.Worlds.{World, Stands}
use Rattle.c_base.specs.declared.fault.CallFault.{CallFault}
use Rattle.c_base.specs.Faults.{fault_of, refusal_of}
use Rattle.c_base.specs.Outboxes.{Stacktraces, waiting}
use Rattle.c_base.specs.Queues.{noted}
use Rattle.c_engine.specs.declared.callbacks.NoProcessor.{NoProcessor}
use Rattle.c_records.specs.declared.filters.Filters.{Filters}
use Rattle.c_engine.specs.declared.outbox_engine.OutboxEngine.{OutboxEngine}
use Rattle.c_engine.specs.Calls.{IsKept, IsRefused, IsUnchanged, CallsWith, Calls, SomeCallsWith, SomeCalls}
use Rattle.c_engine.specs.Named.{StatusNamed}

module _ {T : Type 0} (need : Need) (old new : OutboxEngine)
    (outcome : World NoProcessor Filters → Outcome NoProcessor Filters T) where
  pub called : (stacktraces : Stacktraces) (IsReply : T → Type 0) (out : Out T) → DoesWith need old.engine new.engine (Ok out) outcome
      → IsReply out.reply → waiting new.outbox ≡ waiting old.outbox ++ noted stacktraces out.sent
      → (world : World NoProcessor Filters) → Stands old.engine world
      → IsKept stacktraces IsReply (waiting old.outbox) (waiting new.outbox) (outcome world).answer × Stands new.engine (outcome world).after
  called stacktraces IsReply out does is waits world stands =
      let did = does world stands in (
        subst (λ (answer : Result (Out T) Refusal). IsKept stacktraces IsReply (waiting old.outbox) (waiting new.outbox) answer) (sym did.0) (is, waits),
        did.1,
      )

  refuses : (refusal : Refusal) → DoesWith need old.engine new.engine (Err refusal) outcome
      → IsRefused (refusal_of (fault_of refusal)) old outcome
  refuses OutOfMemory does = tt
  refuses Stale does = does.1
  refuses OutOfOrder does = does.1
  refuses StillNamed does = does.1
  refuses ScopesOpen does = does.1
  refuses (InvalidDsn cause) does = tt
  refuses InvalidRate does = tt
  refuses ForeignLosses does = does.1
  refuses Full does = does.1

  pub refused : (refusal : Refusal) (fault : CallFault) → fault ≡ fault_of refusal
      → DoesWith need old.engine new.engine (Err refusal) outcome → waiting new.outbox ≡ waiting old.outbox
      → IsUnchanged old new × IsRefused (refusal_of fault) old outcome
  refused refusal fault is does waits =
      ((does.0, waits), subst (λ (f : CallFault). IsRefused (refusal_of f) old outcome) (sym is) (refuses refusal does))

  -- a fault of an argument, or for want of memory, before the engine was asked
  pub unasked : (fault : CallFault) → refusal_of fault ≡ None → IsUnchanged old new
      → IsUnchanged old new × IsRefused (refusal_of fault) old outcome
  unasked fault is same = (same, subst (λ (refusal : Option Refusal). IsRefused refusal old outcome) (sym is) tt)

-- the record that was read
pub some : {A T : Type 0} (old new : OutboxEngine) (answer : Result (Unit {0}) CallFault) (IsReply : T → Type 0)
    (outcome : A → World NoProcessor Filters → Outcome NoProcessor Filters T) (read : A)
    → Calls old new answer IsReply (outcome read) → SomeCalls old new answer IsReply outcome
some old new (Ok done) IsReply outcome read calls = (read, calls)
some old new (Err fault) IsReply outcome read calls = calls.0

-- the record that was read, with stack traces
pub some_with : {A T : Type 0} (old new : OutboxEngine) (answer : Result (Unit {0}) CallFault) (IsReply : T → Type 0)
    (outcome : A → World NoProcessor Filters → Outcome NoProcessor Filters T) (read : A) (stacktraces : Stacktraces)
    → CallsWith stacktraces old new answer IsReply (outcome read) → SomeCallsWith old new answer IsReply outcome
some_with old new (Ok done) IsReply outcome read stacktraces calls = (read, stacktraces, calls)
some_with old new (Err fault) IsReply outcome read stacktraces calls = calls.0

-- the status of the name that was read
pub some_status : {T : Type 0} (old new : OutboxEngine) (answer : Result (Unit {0}) CallFault) (IsReply : T → Type 0)
    (outcome : SpanStatus → World NoProcessor Filters → Outcome NoProcessor Filters T) (name text : Bytes) (status : SpanStatus)
    → text ≡ name → span_status_name status ≡ text → Calls old new answer IsReply (outcome status)
    → SomeCalls old new answer IsReply (λ (named : StatusNamed name). outcome named.0)
some_status old new answer IsReply outcome name text status read named calls =
    some {A = StatusNamed name} old new answer IsReply (λ (it : StatusNamed name). outcome it.0) (status, named ∙ read) calls
