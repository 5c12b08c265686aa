-- What is told of a request, and which of its headers go to the next service.
use Rattle.std.specs.List.{before_first}
use Rattle.std.specs.Prelude.{ℕ, List, [], ◌∷◌, codes, filter, if◌then◌else◌, Bool, Option, None, ◌==◌}
use Rattle.sentry_plain.specs.Texts.{Bytes, put}
use Rattle.sentry_texts.specs.UtilityTexts.{is_sensitive}
use Rattle.sentry_trace.specs.HeaderLists.{Header, is_named}

-- the map with the headers put in, one after another, that carry no private data of a user
abbrev pub put_public : List Header → List (Bytes × Bytes) → List (Bytes × Bytes)
put_public [] map = map
put_public (header ∷ rest) map = put_public rest (if is_sensitive header.0 then map else put map header.0 header.1)

-- the headers that say the baggage of a trace
abbrev pub baggage : List Header → List Header
baggage headers = filter (is_named (codes "baggage")) headers

-- a question mark, with which the query of a URL begins
abbrev pub begins_query : ℕ → Bool
begins_query byte = byte == 63

-- a URL up to its query
abbrev pub without_query : Bytes → Bytes
without_query url = before_first begins_query url

-- a text that is personal
abbrev pub if_allowed : Bool → Option Bytes → Option Bytes
if_allowed is_allowed text = if is_allowed then text else None
