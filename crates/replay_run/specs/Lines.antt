-- The lines of an input. Each ends with a line feed, which the last may lack.
use Rattle.std.specs.Prelude.{◌≡◌, ◌≢◌, Bool, true, false, Option, Some, None, [], ⊤}
use Rattle.std.specs.Io.{StopsAt}
use Rattle.std.specs.Io.BufRead.{first_piece, drop_through}
use Rattle.std.specs.Io.KnownBytes.{Consumes}
use Rattle.sentry_plain.specs.Texts.{Bytes}

-- the input isn't at its end; its first line is this, without its line feed, and the rest follows
abbrev pub HasLine : Bytes → Bytes → Bytes → Type 0
HasLine input line rest =
    (input ≢ []) × (line ≡ first_piece 10 input) × (rest ≡ drop_through 10 input)

-- no byte but the last is a line feed, so these bytes are of one line
abbrev pub IsOfOneLine : Bytes → Type 0
IsOfOneLine part = StopsAt part 10

-- where the input is known, its next line was taken and the rest is left; or it was at its end
abbrev pub TakesLine : Option Bytes → Option Bytes → Bool → Bytes → Type 0
TakesLine None left found line = ⊤
TakesLine (Some input) left false line = (input ≡ []) × (left ≡ Some [])
TakesLine (Some input) left true line =
    (rest : Bytes) × (left ≡ Some rest) × HasLine input line rest

-- where the input is known, no more than one line of it was taken
abbrev pub TakesOfOneLine : Option Bytes → Option Bytes → Type 0
TakesOfOneLine input left = (part : Bytes) × Consumes input left part × IsOfOneLine part
