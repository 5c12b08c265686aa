-- What becomes of an engine whose next envelope is asked for.
use Rattle.std.specs.Prelude.{◌≡◌, ◌<◌, ℕ, List, Option, Some, None, OnOk, OnErr}
use Rattle.c_base.specs.Faults.{answer_of}
use Rattle.c_base.specs.Outboxes.{waiting, View, Asks}
use Rattle.c_engine.specs.declared.outbox_engine.OutboxEngine.{OutboxEngine}
use Rattle.c_engine.specs.Calls.{IsUnchanged}

-- the envelopes that wait, with the client and the room
abbrev pub view_of : OutboxEngine → ℕ → List ℕ → View
view_of engine client room = record { waits = waiting engine.outbox; client = client; room = room }

-- a closed seat stays closed, and answers 12; an open one keeps its engine, and its outbox changes as `Asks` says, or
-- not at all
abbrev pub IsFetched : Option OutboxEngine → Option OutboxEngine → ℕ → ℕ × ℕ → List ℕ × List ℕ → ℕ → Type 0
IsFetched None new number client room length = (number ≡ 12) × (new ≡ None) × (room.1 ≡ room.0)
IsFetched (Some old) None number client room length = ⊥
IsFetched (Some old) (Some new) number client room length =
    (number < 12)
    × (new.engine ≡ old.engine)
    × OnErr (answer_of number) (IsUnchanged old new)
    × OnOk (answer_of number)
    (Asks (waiting old.outbox) (view_of old client.0 room.0) (view_of new client.1 room.1) length)
