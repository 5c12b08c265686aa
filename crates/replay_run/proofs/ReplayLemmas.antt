-- A run so far, and what its next line makes of it.
use Rattle.std.proofs.Common.{◌≡◌, ◌≢◌, refl, ap, ◌∙◌, sym, subst, ℕ, ◌+◌, ◌-◌, ◌^◌, ◌<◌, arith, List, [], ◌∷◌, ◌++◌, true, false, append_assoc, Ok, Err}
use Rattle.std.specs.Prelude.{Option, Some, None, min}
use Rattle.std.specs.Io.KnownBytes.{Appends, Keeps, Consumes}
use Rattle.sentry_framing.proofs.SendingLemmas.{appends_none, appends_both, appends_kept}
use Rattle.sentry_plain.specs.Texts.{Bytes}
use Rattle.sentry_state.specs.Worlds.{Stands, first_world}
use Rattle.replay_run.specs.declared.command.Command.{Command}
use Rattle.replay_run.specs.declared.fault.ReplayFault.{ReplayFault}
use Rattle.replay_run.specs.declared.fault.ReplayFault.TheVariants.{BadCommand, OutOfMemory, InputOutput}
use Rattle.replay_run.specs.Calls.{call_of}
use Rattle.replay_run.specs.Commands.{Spells}
use Rattle.replay_run.specs.Engines.{ReplayState, ReplayWorld, ReplayAnswer}
use Rattle.replay_run.specs.Faults.{ReplayEnd}
use Rattle.replay_run.specs.Lines.{HasLine, IsOfOneLine, TakesLine, TakesOfOneLine}
use Rattle.replay_run.specs.Answers.{answer_text}
use Rattle.replay_run.specs.Replays.{next_number, MayAnswer, Prints, Replays, at_end, after_line, at_bad_line, out_of_memory, at_failed_read, at_failed_write, WritesText, ExecutesLine, Writes}

-- the number of the line after so many
abbrev pub line_number : ℕ → ℕ
line_number index = min (index + 1) (2 ^ 64 - 1)

pub numbered : (index : ℕ) → index < 2 ^ 64 - 1 → index + 1 ≡ line_number index
numbered index small = omega arith

pub line_number-next : (index : ℕ) → next_number (line_number index) ≡ line_number (index + 1)
line_number-next index = omega arith

-- what was printed so far; whatever is printed for the lines that are left completes it
pub record Reached (input : Bytes) (left before after : Option Bytes) (engine : ReplayState) (number : ℕ) : Type 0 where
  pub world : ReplayWorld
  pub stands : Stands engine world
  pub rest : Bytes
  pub known : left ≡ Some rest
  pub printed : Bytes
  pub appended : Appends before after printed
  pub completes : (more unread : Bytes) (end : ReplayEnd) → Replays world number rest more unread end → Replays (first_world 0) 1 input (printed ++ more) unread end

-- the same where the input may be unknown
abbrev pub Reaches : Option Bytes → Option Bytes → Option Bytes → Option Bytes → ReplayState → ℕ → Type 0
Reaches None left before after engine number = Unit {0}
Reaches (Some input) left before after engine number = Reached input left before after engine number

-- a line that isn't empty, and the answer to its command
pub prints : (world next : ReplayWorld) (number : ℕ) (line : Bytes) (command : Command) (answer : ReplayAnswer) → line ≢ [] → Spells line command → MayAnswer world (call_of number command) answer next → Prints world number line (answer_text answer) next
prints world next number [] command answer some spells may = absurd (some refl)
prints world next number (b ∷ bs) command answer some spells may = (command, answer, spells, may, refl)

-- what a line prints was written, or a beginning of it
pub executed : (old new : ReplayState) (before after : Option Bytes) (number : ℕ) (line printed : Bytes) (end : ReplayEnd)
    → ((world : ReplayWorld) → Stands old world → (next : ReplayWorld) × Prints world number line printed next × Stands new next)
    → WritesText before after printed end → ExecutesLine old new before after number line end
executed old new before after number line printed (Ok done) does wrote = λ world stands.
    let found = does world stands in
    (printed, found.0, found.1, found.2, wrote)
executed old new before after number line printed (Err (BadCommand at)) does wrote = absurd wrote
executed old new before after number line printed (Err OutOfMemory) does wrote = absurd wrote
executed old new before after number line printed (Err InputOutput) does wrote = λ world stands.
    let found = does world stands in
    (wrote.0, wrote.1, found.0, subst (λ (text : Bytes). Prints world number line text found.0) wrote.2 found.1, wrote.3)

pub begins : (input held : Option Bytes) (engine : ReplayState) → Stands engine (first_world 0) → Reaches input input held held engine 1
begins None held engine stands = tt
begins (Some input) held engine stands = record {
  world = first_world 0;
  stands = stands;
  rest = input;
  known = refl;
  printed = [];
  appended = appends_none held;
  completes = λ more unread end run. run;
}

-- what is left after a line that was read from what was left
line_left : (left left' : Option Bytes) (rest line : Bytes) → left ≡ Some rest → TakesLine left left' true line → (rest' : Bytes) × (left' ≡ Some rest') × HasLine rest line rest'
line_left left left' rest line known taken = subst (λ (l : Option Bytes). TakesLine l left' true line) known taken

consumed : (rest : Bytes) (left' : Option Bytes) (part : Bytes) → Consumes (Some rest) left' part → (rest' : Bytes) × (left' ≡ Some rest') × (rest ≡ part ++ rest')
consumed rest None part taken = absurd taken
consumed rest (Some rest') part taken = (rest', refl, taken)

-- what is left after a part of a line that was read from what was left
part_left : (left left' : Option Bytes) (rest : Bytes) → left ≡ Some rest → TakesOfOneLine left left' → (part rest' : Bytes) × (left' ≡ Some rest') × (rest ≡ part ++ rest') × IsOfOneLine part
part_left left left' rest known taken =
    let found = subst (λ (l : Option Bytes). TakesOfOneLine l left') known taken in
    let more = consumed rest left' found.0 found.1 in
    (found.0, more.0, more.1, more.2, found.2)

pub goes_on : (input left left' before after after' : Option Bytes) (engine engine' : ReplayState) (number : ℕ) (line : Bytes)
    → Reaches input left before after engine number → TakesLine left left' true line → ExecutesLine engine engine' after after' number line (Ok tt)
    → Reaches input left' before after' engine' (next_number number)
goes_on None left left' before after after' engine engine' number line reached taken does = tt
goes_on (Some input) left left' before after after' engine engine' number line reached taken does =
    let found = line_left left left' reached.rest line reached.known taken in
    let done = does reached.world reached.stands in
    record {
      world = done.1;
      stands = done.3;
      rest = found.0;
      known = found.1;
      printed = reached.printed ++ done.0;
      appended = appends_both before after after' reached.printed done.0 reached.appended done.4;
      completes = λ more unread end run.
          let one : Replays reached.world number reached.rest (done.0 ++ more) unread end = after_line done.1 line found.0 done.0 more found.2 done.2 run in
          let Q : Bytes → Type 0 = λ printed. Replays (first_world 0) 1 input printed unread end in
          subst Q (sym (append_assoc reached.printed done.0 more)) (reached.completes (done.0 ++ more) unread end one);
    }

-- the run ends here, after it printed so much more
ends : (input : Bytes) (left left' before after after' : Option Bytes) (engine : ReplayState) (number : ℕ) (more unread : Bytes) (end : ReplayEnd)
    → (reached : Reached input left before after engine number) → left' ≡ Some unread → Appends after after' more
    → Replays reached.world number reached.rest more unread end → Writes (Some input) left' before after' end
ends input left left' before after after' engine number more unread end reached known appended run =
    (reached.printed ++ more, unread, known, appends_both before after after' reached.printed more reached.appended appended, reached.completes more unread end run)

pub ends_well : (input left left' before after : Option Bytes) (engine : ReplayState) (number : ℕ) (line : Bytes)
    → Reaches input left before after engine number → TakesLine left left' false line → Writes input left' before after (Ok tt)
ends_well None left left' before after engine number line reached taken = tt
ends_well (Some input) left left' before after engine number line reached taken =
    let none : (reached.rest ≡ []) × (left' ≡ Some []) = subst (λ (l : Option Bytes). TakesLine l left' false line) reached.known taken in
    let P : Bytes → Type 0 = λ rest. Replays reached.world number rest [] [] (Ok tt) in
    ends input left left' before after after engine number [] [] (Ok tt) reached none.1 (appends_none after) (subst P (sym none.0) at_end)

-- a line could not be read
pub ends_unread : (input left left' before after : Option Bytes) (engine : ReplayState) (number : ℕ) (fault : ReplayFault)
    → Reaches input left before after engine number → TakesOfOneLine left left' → ((n : ℕ) → fault ≢ BadCommand n) → Writes input left' before after (Err fault)
ends_unread None left left' before after engine number fault reached taken other = tt
ends_unread (Some input) left left' before after engine number (BadCommand n) reached taken other = absurd (other n refl)
ends_unread (Some input) left left' before after engine number OutOfMemory reached taken other =
    let found = part_left left left' reached.rest reached.known taken in
    ends input left left' before after after engine number [] found.1 (Err OutOfMemory) reached found.2 (appends_none after) (out_of_memory found.0 found.3 found.4)
ends_unread (Some input) left left' before after engine number InputOutput reached taken other =
    let found = part_left left left' reached.rest reached.known taken in
    ends input left left' before after after engine number [] found.1 (Err InputOutput) reached found.2 (appends_none after) (at_failed_read found.0 found.3 found.4)

none_of_line : IsOfOneLine []
none_of_line = λ k d short. absurd (omega (arith, short))

-- no line is counted any more, and none was read
pub ends_uncounted : (input left before after : Option Bytes) (engine : ReplayState) (number : ℕ)
    → Reaches input left before after engine number → Writes input left before after (Err InputOutput)
ends_uncounted None left before after engine number reached = tt
ends_uncounted (Some input) left before after engine number reached =
    ends input left left before after after engine number [] reached.rest (Err InputOutput) reached reached.known (appends_none after) (at_failed_read [] refl none_of_line)

-- a line could not be done
pub ends_undone : (input left left' before after after' : Option Bytes) (engine engine' : ReplayState) (number : ℕ) (line : Bytes) (fault : ReplayFault)
    → Reaches input left before after engine number → TakesLine left left' true line → TakesOfOneLine left left' → ExecutesLine engine engine' after after' number line (Err fault)
    → Writes input left' before after' (Err fault)
ends_undone None left left' before after after' engine engine' number line fault reached taken part does = tt
ends_undone (Some input) left left' before after after' engine engine' number line (BadCommand at) reached taken part does =
    let found = line_left left left' reached.rest line reached.known taken in
    let Q : ℕ → Type 0 = λ n. Writes (Some input) left' before after' (Err (BadCommand n)) in
    subst Q (sym does.0) (ends input left left' before after after' engine number [] found.0 (Err (BadCommand number)) reached found.1 (appends_kept after after' does.2) (at_bad_line line found.2 does.1))
ends_undone (Some input) left left' before after after' engine engine' number line OutOfMemory reached taken part does =
    let found = part_left left left' reached.rest reached.known part in
    ends input left left' before after after' engine number [] found.1 (Err OutOfMemory) reached found.2 (appends_kept after after' does) (out_of_memory found.0 found.3 found.4)
ends_undone (Some input) left left' before after after' engine engine' number line InputOutput reached taken part does =
    let found = line_left left left' reached.rest line reached.known taken in
    let done = does reached.world reached.stands in
    ends input left left' before after after' engine number done.0 found.0 (Err InputOutput) reached found.1 done.4 (at_failed_write done.2 line done.0 done.1 found.2 done.3)
