-- What is printed for an input.
use Rattle.std.specs.Prelude.{◌≡◌, ◌≢◌, ℕ, ◌+◌, ◌-◌, ◌^◌, ◌++◌, min, Bool, true, false, Option, Some, None, Ok, Err, List, [], ◌∷◌}
use Rattle.std.specs.Io.KnownBytes.{Appends, Keeps}
use Rattle.sentry_plain.specs.Texts.{Bytes}
use Rattle.sentry_base.specs.declared.protocol.refusal.Refusal.TheVariants as refusal
use Rattle.sentry_state.specs.Worlds.{Stands, first_world}
use Rattle.sentry_calls.specs.Runs.{StepsTo}
use Rattle.replay_run.specs.declared.command.Command.{Command}
use Rattle.replay_run.specs.declared.fault.ReplayFault.TheVariants.{BadCommand, OutOfMemory, InputOutput}
use Rattle.replay_run.specs.Calls.{call_of}
use Rattle.replay_run.specs.Commands.{Spells}
use Rattle.replay_run.specs.Engines.{same_event, no_callbacks, ReplayState, ReplayWorld, ReplayCall, ReplayAnswer}
use Rattle.replay_run.specs.Faults.{ReplayEnd}
use Rattle.replay_run.specs.Lines.{HasLine, IsOfOneLine}
use Rattle.replay_run.specs.Answers.{answer_text}

-- the number of the next line, which stops at 2^64-1
abbrev pub next_number : ℕ → ℕ
next_number number = min (number + 1) (2 ^ 64 - 1)

-- the answer is out of memory
abbrev pub is_out_of_memory : ReplayAnswer → Bool
is_out_of_memory (Ok out) = false
is_out_of_memory (Err refusal.OutOfMemory) = true
is_out_of_memory (Err other) = false

-- the engine may answer the call so, other than by out of memory, and then stand for the next world
abbrev pub MayAnswer : ReplayWorld → ReplayCall → ReplayAnswer → ReplayWorld → Type 0
MayAnswer world call answer next =
    StepsTo same_event no_callbacks world call answer next × (is_out_of_memory answer ≡ false)

-- the line of this number may print this and lead to the next world: it prints the answer to the
-- call of its command; an empty line does nothing
abbrev pub Prints : ReplayWorld → ℕ → Bytes → Bytes → ReplayWorld → Type 0
Prints world number [] printed next = (printed ≡ []) × (next ≡ world)
Prints world number (b ∷ bs) printed next =
    (command : Command) × (answer : ReplayAnswer) × Spells (b ∷ bs) command
    × MayAnswer world (call_of number command) answer next × (printed ≡ answer_text answer)

-- the line isn't empty, and spells no command
pub record IsBadLine (line : Bytes) : Type 0 where
  pub some : line ≢ []
  pub none : (command : Command) → Spells line command → ⊥

-- a run over this input, whose first line has this number and finds the engine in this world, may
-- print this, leave this of the input unread, and end so
pub data Replays : ReplayWorld → ℕ → Bytes → Bytes → Bytes → ReplayEnd → Type 0 where
  -- the input is at its end
  at_end : {world : ReplayWorld} {number : ℕ} → Replays world number [] [] [] (Ok tt)
  -- the first line prints something, and then the others do
  after_line : {world : ReplayWorld} {number : ℕ} {input unread : Bytes} {end : ReplayEnd}
      (next : ReplayWorld) (line rest printed more : Bytes)
      → HasLine input line rest
      → Prints world number line printed next
      → Replays next (next_number number) rest more unread end
      → Replays world number input (printed ++ more) unread end
  -- the first line is bad
  at_bad_line : {world : ReplayWorld} {number : ℕ} {input rest : Bytes} (line : Bytes)
      → HasLine input line rest
      → IsBadLine line
      → Replays world number input [] rest (Err (BadCommand number))
  -- memory is refused for the first line, of which some or all was read: it prints nothing
  out_of_memory : {world : ReplayWorld} {number : ℕ} {input unread : Bytes} (part : Bytes)
      → input ≡ part ++ unread
      → IsOfOneLine part
      → Replays world number input [] unread (Err OutOfMemory)
  -- the first line can't be read to its end: what was read of it prints nothing
  at_failed_read : {world : ReplayWorld} {number : ℕ} {input unread : Bytes} (part : Bytes)
      → input ≡ part ++ unread
      → IsOfOneLine part
      → Replays world number input [] unread (Err InputOutput)
  -- what the first line prints can't be written to its end: a beginning of it is
  at_failed_write : {world : ReplayWorld} {number : ℕ} {input rest : Bytes} (next : ReplayWorld)
      (line written lost : Bytes)
      → HasLine input line rest
      → Prints world number line (written ++ lost) next
      → Replays world number input written rest (Err InputOutput)

-- a writer that held these bytes before holds these after the text was written, or a beginning of it
-- where writing failed
abbrev pub WritesText : Option Bytes → Option Bytes → Bytes → ReplayEnd → Type 0
WritesText before after text (Ok done) = Appends before after text
WritesText before after text (Err InputOutput) =
    (written lost : Bytes) × (text ≡ written ++ lost) × Appends before after written
WritesText before after text (Err other) = ⊥

-- an engine executed the line of this number, and a writer held these bytes before and after
abbrev pub ExecutesLine : ReplayState → ReplayState → Option Bytes → Option Bytes → ℕ → Bytes
    → ReplayEnd → Type 0
ExecutesLine old new before after number line (Ok done) =
    (world : ReplayWorld) → Stands old world
    → (printed : Bytes) × (next : ReplayWorld) × Prints world number line printed next
    × Stands new next × Appends before after printed
ExecutesLine old new before after number line (Err (BadCommand at)) =
    (at ≡ number) × IsBadLine line × Keeps before after
ExecutesLine old new before after number line (Err OutOfMemory) = Keeps before after
ExecutesLine old new before after number line (Err InputOutput) =
    (world : ReplayWorld) → Stands old world
    → (written lost : Bytes) × (next : ReplayWorld) × Prints world number line (written ++ lost) next
    × Appends before after written

-- where the input is known: what a run over it may print was written, and what it leaves is unread
abbrev pub Writes : Option Bytes → Option Bytes → Option Bytes → Option Bytes → ReplayEnd → Type 0
Writes None left before after end = Unit {0}
Writes (Some input) left before after end =
    (printed unread : Bytes) × (left ≡ Some unread) × Appends before after printed
    × Replays (first_world 0) 1 input printed unread end
