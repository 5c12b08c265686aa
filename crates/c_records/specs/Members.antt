-- What a member of an object is read as.
use Rattle.std.specs.Prelude.{Option, Some, None, List}
use Rattle.sentry_plain.specs.Texts.{Bytes, value_at}
use Rattle.sentry_plain.specs.Values.{Data}
use Rattle.sentry_plain.specs.Values as values

-- the text that a value is, if it is one
abbrev pub text_in : Option Data → Option Bytes
text_in None = None
text_in (Some (values.text written)) = Some written
text_in (Some other) = None

-- the text under a key, if there is one
abbrev pub text_under : List (Bytes × Data) → Bytes → Option Bytes
text_under members key = text_in (value_at members key)
