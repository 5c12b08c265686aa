-- What it means that the next envelope is asked for.
use Rattle.std.specs.Prelude.{◌≡◌, ℕ, List, [], ◌∷◌, ◌++◌, ◌≤◌, length, drop}
use Rattle.sentry_base.specs.declared.protocol.keys.ClientKey.{ClientKey}
use Rattle.sentry_base.specs.declared.protocol.envelope.Envelope.{Envelope}
use Rattle.sentry_envelope.specs.Envelopes.{text_with}
use Rattle.sentry_envelope.specs.Envelopes as envelopes
use Rattle.c_base.specs.declared.outbox.Outbox.{Outbox}
use Rattle.c_base.specs.Queues as queues

-- the stack traces that go with an envelope: of each exception of its event, or of the event if it has none
abbrev pub Stacktraces : Type 0
Stacktraces = envelopes.Stacktraces

-- an envelope that waits, with the client that sends it, and its stack traces
abbrev pub Waiting : Type 0
Waiting = (ClientKey × Envelope) × Stacktraces

-- the envelopes that wait, in order
abbrev pub waiting : Outbox → List Waiting
waiting outbox = queues.waiting outbox.queue

-- the text of an envelope that waits, with its stack traces
abbrev pub text_of : Waiting → List ℕ
text_of next = text_with next.1 next.0.1

-- what waits, the number of the client, and the room, before or after
pub record View : Type 0 where
  pub waits : List Waiting
  pub client : ℕ
  pub room : List ℕ

-- the text, in room for it, and otherwise nothing
abbrev pub Copies : List ℕ → List ℕ → List ℕ → Type 0
Copies text old new =
    (length text ≤ length old → new ≡ text ++ drop (length text) old)
    × ((length text ≤ length old → ⊥) → new ≡ old)

-- what is answered where the next envelope is asked for: how long its text is, with its client; it is taken where the
-- room holds the text, and otherwise goes on waiting; 0 where none waits
abbrev pub Asks : List Waiting → View → View → ℕ → Type 0
Asks [] old new answer = (answer ≡ 0) × (new ≡ old)
Asks (next ∷ rest) old new answer =
    (answer ≡ length (text_of next))
    × (new.client ≡ next.0.0.number)
    × Copies (text_of next) old.room new.room
    × (length (text_of next) ≤ length old.room → new.waits ≡ rest)
    × ((length (text_of next) ≤ length old.room → ⊥) → new.waits ≡ old.waits)
