-- What a text is, by how it lies in memory.
use Rattle.std.specs.Prelude.{ℕ, take, ◌≤◌}
use Rattle.std.specs.Str.{IsUtf8}
use Rattle.std.specs.String.{string_bytes}
use Rattle.sentry_plain.specs.Texts.{Bytes}
use Rattle.sentry_plain.specs.declared.text.Body.{Body}
use Rattle.sentry_plain.specs.declared.text.Body.TheVariants.{Short, Medium, Large}

-- the bytes of the text
abbrev pub text_of : Body → Bytes
text_of (Short count bytes) = take count bytes
text_of (Medium block) = take block.count block.bytes
text_of (Large string) = string_bytes string

-- the first of the bytes, as many as count says, fit into so many and are a text
pub record IsTextIn (room count : ℕ) (bytes : Bytes) : Type 0 where
  pub fits : count ≤ room
  pub utf8 : IsUtf8 (take count bytes)

-- the count fits, and the bytes are a text
abbrev pub IsText : Body → Type 0
IsText (Short count bytes) = IsTextIn 22 count bytes
IsText (Medium block) = IsTextIn 63 block.count block.bytes
IsText (Large string) = Unit {0}
