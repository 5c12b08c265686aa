-- What follows the header of an item.
use Rattle.std.specs.Prelude.{◌≡◌, ◌≤◌, List, [], Some, ⊤}
use Rattle.json.specs.Json.{Json, max_depth}
use Rattle.json.specs.Tree.{depth, json_tokens}
use Rattle.json.specs.Token.{Token}
use Rattle.sentry_framing.specs.Json.{Bytes, json_text}
use Rattle.sentry_framing.specs.Receiver.{read_json}

-- JSON, or bytes as they are
pub data Content : Type 0 where
  json : Json → Content
  file : Bytes → Content

abbrev pub content_text : Content → Bytes
content_text (json j) = json_text j
content_text (file bytes) = bytes

-- JSON is read back from its text, if it is no deeper than a receiver reads
abbrev pub ReadsBack : Content → Type 0
ReadsBack (json j) = depth j ≤ max_depth → read_json (json_text j) ≡ Some j
ReadsBack (file bytes) = ⊤

-- ---- for clauses of private functions

-- the tokens of JSON; bytes have none
abbrev pub content_tokens : Content → List Token
content_tokens (json j) = json_tokens j
content_tokens (file bytes) = []

-- the text of JSON
abbrev pub record_text : Content → Bytes
record_text (json j) = json_text j
record_text (file bytes) = []
