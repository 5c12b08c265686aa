-- The lines that the program understands, and what each asks for.
use Rattle.std.specs.Prelude.{◌≡◌, ◌≢◌, ℕ, ◌<◌, ◌^◌, ◌++◌, Option, Some, None, length, codes}
use Rattle.std.specs.List.{AllByRecursion}
use Rattle.std.specs.Str.{IsUtf8}
use Rattle.std.specs.Str.Parse.{IsNumeral, digits_value}
use Rattle.sentry_plain.specs.Texts.{Bytes}
use Rattle.sentry_base.specs.Names.{level_name}
use Rattle.replay_run.specs.declared.command.Command.{Command}
use Rattle.replay_run.specs.declared.command.Command.TheVariants.{Client, Hub, Tag, Message, Empty, Release, Session, End, Flush, Log, Close}

-- a word: at least one byte, and no space
pub record IsWord (text : Bytes) : Type 0 where
  pub some : 0 < length text
  pub solid : AllByRecursion (λ b. b ≢ 32) text

-- a number below 2^64 in decimal digits, of which there is at least one; leading zeros are digits
pub record IsNumber (text : Bytes) (n : ℕ) : Type 0 where
  pub digits : IsNumeral 10 text
  pub value : digits_value 10 text ≡ n
  pub fits : n < 2 ^ 64

-- a release is a word, and `-` stands for no release
abbrev pub IsRelease : Bytes → Option Bytes → Type 0
IsRelease text None = text ≡ codes "-"
IsRelease text (Some release) = (text ≡ release) × IsWord release × (release ≢ codes "-")

-- the forms of a line; the last part of a tag, of a message and of a log may be empty or hold spaces
abbrev pub HasForm : Bytes → Command → Type 0
HasForm line (Client release) =
    (text : Bytes) × IsRelease text release × (line ≡ codes "client " ++ text)
HasForm line (Hub client) =
    (number : Bytes) × IsNumber number client × (line ≡ codes "hub " ++ number)
HasForm line (Tag hub key value) =
    (number : Bytes) × IsNumber number hub × IsWord key
    × (line ≡ codes "tag " ++ number ++ codes " " ++ key ++ codes " " ++ value)
HasForm line (Message hub level text) =
    (number : Bytes) × IsNumber number hub
    × (line ≡ codes "message " ++ number ++ codes " " ++ level_name level ++ codes " " ++ text)
HasForm line (Empty client) =
    (number : Bytes) × IsNumber number client × (line ≡ codes "empty " ++ number)
HasForm line (Release hub) =
    (number : Bytes) × IsNumber number hub × (line ≡ codes "release " ++ number)
HasForm line (Session hub) =
    (number : Bytes) × IsNumber number hub × (line ≡ codes "session " ++ number)
HasForm line (End hub) =
    (number : Bytes) × IsNumber number hub × (line ≡ codes "end " ++ number)
HasForm line (Flush client) =
    (number : Bytes) × IsNumber number client × (line ≡ codes "flush " ++ number)
HasForm line (Log hub text) =
    (number : Bytes) × IsNumber number hub × (line ≡ codes "log " ++ number ++ codes " " ++ text)
HasForm line (Close client) =
    (number : Bytes) × IsNumber number client × (line ≡ codes "close " ++ number)

-- the line is text in UTF-8, and of the form of this command
pub record Spells (line : Bytes) (command : Command) : Type 0 where
  pub utf8 : IsUtf8 line
  pub form : HasForm line command
