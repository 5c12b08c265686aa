-- What was read up to a line feed is the first line.
use Rattle.std.proofs.Common.{◌≡◌, ◌≢◌, refl, ap, ◌∙◌, ◌<◌, [], length, arith, true, false, Bool}
use Rattle.std.specs.Prelude.{Option, Some, None, IfSome}
use Rattle.std.specs.Io.{StopsAt, appended_bytes}
use Rattle.std.specs.Io.BufRead.{take_through, drop_through, strip_last, DropsThrough}
use Rattle.std.specs.Io.KnownBytes.{Consumes, IsAtEnd}
use Rattle.sentry_plain.specs.Texts.{Bytes}
use Rattle.replay_run.specs.Lines.{TakesLine, TakesOfOneLine}

-- what was read, less the line feed, is the next line
pub taken : (old left : Option Bytes) (read line : Bytes) → 0 < length read → IfSome old (λ input. read ≡ take_through 10 input) → DropsThrough old left 10 → line ≡ strip_last 10 read → TakesLine old left true line
taken None left read line some bytes rest stripped = tt
taken (Some input) left read line some bytes rest stripped =
    let none : input ≢ [] = λ e. omega (arith, some, ap length (bytes ∙ ap (take_through 10) e)) in
    (drop_through 10 input, rest, (none, stripped ∙ ap (strip_last 10) bytes, refl))

pub none_taken : (old left : Option Bytes) (line : Bytes) → IsAtEnd old → DropsThrough old left 10 → TakesLine old left false line
none_taken None left line end rest = tt
none_taken (Some input) left line end rest = (end, rest ∙ ap (λ (bytes : Bytes). Some (drop_through 10 bytes)) end)

pub of_one_line : (old left : Option Bytes) (before after : Bytes) → Consumes old left (appended_bytes before after) → StopsAt (appended_bytes before after) 10 → TakesOfOneLine old left
of_one_line old left before after taken stops = (appended_bytes before after, taken, stops)
