-- What a call from another language does, by what the seat holds before and after.
use Rattle.std.specs.Prelude.{◌≡◌, ◌<◌, ℕ, Option, Some, None, []}
use Rattle.sentry_state.specs.Outcomes.{Outcome}
use Rattle.sentry_state.specs.Worlds.{World, Stands, first_world}
use Rattle.c_base.specs.Faults.{answer_of}
use Rattle.c_base.specs.Outboxes.{waiting}
use Rattle.c_engine.specs.declared.callbacks.NoProcessor.{NoProcessor}
use Rattle.c_records.specs.declared.filters.Filters.{Filters}
use Rattle.c_engine.specs.declared.outbox_engine.OutboxEngine.{OutboxEngine}
use Rattle.c_engine.specs.Calls.{Calls, SomeCalls, SomeCallsWith, IsUnchanged}

-- a closed seat stays closed, and answers 12; an open one has its engine make the call, whose answer is the number's
abbrev pub IsCalled : {T : Type 0} → Option OutboxEngine → Option OutboxEngine → ℕ → (T → Type 0)
    → (World NoProcessor Filters → Outcome NoProcessor Filters T) → Type 0
IsCalled None new number IsReply outcome = (number ≡ 12) × (new ≡ None)
IsCalled (Some old) None number IsReply outcome = ⊥
IsCalled (Some old) (Some new) number IsReply outcome = (number < 12) × Calls old new (answer_of number) IsReply outcome

-- the same of a call whose record is read from a text
abbrev pub IsSomeCall : {A T : Type 0} → Option OutboxEngine → Option OutboxEngine → ℕ → (T → Type 0)
    → (A → World NoProcessor Filters → Outcome NoProcessor Filters T) → Type 0
IsSomeCall None new number IsReply outcome = (number ≡ 12) × (new ≡ None)
IsSomeCall (Some old) None number IsReply outcome = ⊥
IsSomeCall (Some old) (Some new) number IsReply outcome =
    (number < 12) × SomeCalls old new (answer_of number) IsReply outcome

-- the same, with stack traces that are read too
abbrev pub IsSomeCallWith : {A T : Type 0} → Option OutboxEngine → Option OutboxEngine → ℕ → (T → Type 0)
    → (A → World NoProcessor Filters → Outcome NoProcessor Filters T) → Type 0
IsSomeCallWith None new number IsReply outcome = (number ≡ 12) × (new ≡ None)
IsSomeCallWith (Some old) None number IsReply outcome = ⊥
IsSomeCallWith (Some old) (Some new) number IsReply outcome =
    (number < 12) × SomeCallsWith old new (answer_of number) IsReply outcome

-- a call that reads changes nothing
abbrev pub IsRead : Option OutboxEngine → Option OutboxEngine → ℕ → Type 0
IsRead None new number = (number ≡ 12) × (new ≡ None)
IsRead (Some old) None number = ⊥
IsRead (Some old) (Some new) number = (number < 12) × IsUnchanged old new

-- a closed seat gets an engine that has made no call, unless there is no memory (1); an open one stays as it is (13)
abbrev pub IsOpened : Option OutboxEngine → Option OutboxEngine → ℕ → Type 0
IsOpened (Some old) new number = (number ≡ 13) × (new ≡ Some old)
IsOpened None None number = number ≡ 1
IsOpened None (Some new) number = (number ≡ 0) × (waiting new.outbox ≡ []) × Stands new.engine (first_world 0)

-- a closed seat stays closed, and answers 12; an open one answers 0, keeps its engine, and no envelope waits
abbrev pub IsEmptied : Option OutboxEngine → Option OutboxEngine → ℕ → Type 0
IsEmptied None new number = (number ≡ 12) × (new ≡ None)
IsEmptied (Some old) None number = ⊥
IsEmptied (Some old) (Some new) number = (number ≡ 0) × (new.engine ≡ old.engine) × (waiting new.outbox ≡ [])
