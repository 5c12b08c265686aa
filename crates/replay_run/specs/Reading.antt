-- How a line is read, from its front: what the functions that read answer.
use Rattle.std.specs.Prelude.{ℕ, ◌^◌, Bool, ◌&&◌, ◌==◌, nat_lt, if◌then◌else◌, Option, Some, None, [], ◌∷◌, length, codes, find}
use Rattle.std.specs.Option.{option_map, is_none}
use Rattle.std.specs.Str.{all_ascii_digits, bytes_eq}
use Rattle.std.specs.Str.Parse.{digits_value}
use Rattle.sentry_plain.specs.Texts.{Bytes}
use Rattle.sentry_base.specs.declared.protocol.level.Level.{Level}
use Rattle.sentry_base.specs.declared.protocol.level.Level.TheVariants.{Debug, Info, Warning, Error, Fatal}
use Rattle.sentry_base.specs.Names.{level_name}
use Rattle.replay_run.specs.declared.command.Command.{Command}
use Rattle.replay_run.specs.declared.command.Command.TheVariants.{Client, Hub, Tag, Message, Empty, Release, Session, End, Flush, Log, Close}

infixl 10 ◌>>=◌
-- goes on with what was read
abbrev pub ◌>>=◌ : {A B : Type 0} → Option A → (A → Option B) → Option B
None >>= go = None
(Some x) >>= go = go x

-- what stands before the first space, and what follows it
abbrev pub cut : Bytes → Option (Bytes × Bytes)
cut [] = None
cut (b ∷ bs) = if b == 32 then Some ([], bs) else option_map (λ parts. (b ∷ parts.0, parts.1)) (cut bs)

-- one byte at least, and no space
abbrev pub is_word : Bytes → Bool
is_word text = nat_lt 0 (length text) && is_none (cut text)

-- the number that a text of digits spells, below 2^64
unfoldable pub number_of : Bytes → Option ℕ
number_of text =
    if all_ascii_digits text && (nat_lt 0 (length text) && nat_lt (digits_value 10 text) (2 ^ 64))
    then Some (digits_value 10 text)
    else None

-- the level that a word names
unfoldable pub level_of : Bytes → Option Level
level_of text = find (λ level. bytes_eq text (level_name level)) (Debug ∷ Info ∷ Warning ∷ Error ∷ Fatal ∷ [])

unfoldable pub client_of : Bytes → Option Command
client_of text =
    if bytes_eq text (codes "-") then Some (Client None)
    else if is_word text then Some (Client (Some text))
    else None

unfoldable pub hub_of : Bytes → Option Command
hub_of text = number_of text >>= λ client. Some (Hub client)

unfoldable pub tag_of : Bytes → Option Command
tag_of text =
    cut text >>= λ first.
    number_of first.0 >>= λ hub.
    cut first.1 >>= λ second.
    if nat_lt 0 (length second.0) then Some (Tag hub second.0 second.1) else None

unfoldable pub message_of : Bytes → Option Command
message_of text =
    cut text >>= λ first.
    number_of first.0 >>= λ hub.
    cut first.1 >>= λ second.
    level_of second.0 >>= λ level.
    Some (Message hub level second.1)

unfoldable pub empty_of : Bytes → Option Command
empty_of text = number_of text >>= λ client. Some (Empty client)

unfoldable pub release_of : Bytes → Option Command
release_of text = number_of text >>= λ hub. Some (Release hub)

unfoldable pub session_of : Bytes → Option Command
session_of text = number_of text >>= λ hub. Some (Session hub)

unfoldable pub end_of : Bytes → Option Command
end_of text = number_of text >>= λ hub. Some (End hub)

unfoldable pub flush_of : Bytes → Option Command
flush_of text = number_of text >>= λ client. Some (Flush client)

unfoldable pub log_of : Bytes → Option Command
log_of text =
    cut text >>= λ first.
    number_of first.0 >>= λ hub.
    Some (Log hub first.1)

unfoldable pub close_of : Bytes → Option Command
close_of text = number_of text >>= λ client. Some (Close client)

unfoldable pub form_of : Bytes → Bytes → Option Command
form_of word rest =
    if bytes_eq word (codes "client") then client_of rest
    else if bytes_eq word (codes "hub") then hub_of rest
    else if bytes_eq word (codes "tag") then tag_of rest
    else if bytes_eq word (codes "message") then message_of rest
    else if bytes_eq word (codes "empty") then empty_of rest
    else if bytes_eq word (codes "release") then release_of rest
    else if bytes_eq word (codes "session") then session_of rest
    else if bytes_eq word (codes "end") then end_of rest
    else if bytes_eq word (codes "flush") then flush_of rest
    else if bytes_eq word (codes "log") then log_of rest
    else if bytes_eq word (codes "close") then close_of rest
    else None

unfoldable pub command_of : Bytes → Option Command
command_of line = cut line >>= λ first. form_of first.0 first.1
