-- The headers of items, and which headers a receiver reads back.
use Rattle.std.specs.Prelude.{◌≡◌, ℕ, ◌==◌, ◌≤◌, not, true, Bool, ⊤, length, Some, Option, option_map, codes, IsUtf8}
use Rattle.std.specs.List.{list_all}
use Rattle.json.specs.Json.{Json, null, boolean, number, string, array, object, Items, no_items, item, Members, no_members, member, max_depth}
use Rattle.json.specs.Tree.{depth, HasNumbers}
use Rattle.sentry_framing.specs.Json.{Bytes, whole, optional, json_text}
use Rattle.sentry_framing.specs.Lines.{Item}
use Rattle.sentry_framing.specs.Receiver.{stated_length}
use Rattle.sentry_framing.specs.declared.headers.ItemHeader.{ItemHeader}

-- no newline among the bytes
abbrev pub is_line : Bytes → Bool
is_line = list_all (λ b. not (b == 10))

-- no number has a newline in its text
abbrev mutual
  pub HasLines : Json → Type 0
  HasLines null = ⊤
  HasLines (boolean b) = ⊤
  HasLines (number s) = is_line s ≡ true
  HasLines (string s) = ⊤
  HasLines (array js) = ItemsHaveLines js
  HasLines (object ms) = MembersHaveLines ms

  pub ItemsHaveLines : Items → Type 0
  ItemsHaveLines no_items = ⊤
  ItemsHaveLines (item j js) = HasLines j × ItemsHaveLines js

  pub MembersHaveLines : Members → Type 0
  MembersHaveLines no_members = ⊤
  MembersHaveLines (member k j ms) = HasLines j × MembersHaveLines ms

-- the text of the value is a line that reads back as the value
pub record IsHeader (header : Json) : Type 0 where
  pub numbers : HasNumbers header
  pub lines : HasLines header
  pub shallow : depth header ≤ max_depth
  pub utf8 : IsUtf8 (json_text header)

-- the header can be read, and states the length of the payload
pub record IsSendable (i : Item) : Type 0 where
  pub header : IsHeader i.0
  pub stated : stated_length i.0 ≡ Some (length i.1)

-- what the header of an item says beside the length of the payload
pub record Header : Type 0 where
  pub ty : Bytes
  pub item_count : Option ℕ
  pub filename : Option Bytes
  pub attachment_type : Option Bytes
  pub content_type : Option Bytes

-- the texts of a header
abbrev pub header_of : ItemHeader → Header
header_of header = record {
  ty = header.ty.now;
  item_count = header.item_count;
  filename = option_map (λ text. text.now) header.filename;
  attachment_type = option_map (λ text. text.now) header.attachment_type;
  content_type = option_map (λ text. text.now) header.content_type;
}

-- the JSON of the header of an item whose payload has this length
abbrev pub item_header : Header → ℕ → Json
item_header header len = object
    (member (codes "type") (string header.ty)
    (member (codes "length") (whole len)
    (optional whole (codes "item_count") header.item_count
    (optional string (codes "filename") header.filename
    (optional string (codes "attachment_type") header.attachment_type
    (optional string (codes "content_type") header.content_type
    no_members))))))

-- an item with this header and payload
abbrev pub sent : Header → Bytes → Item
sent header payload = (item_header header (length payload), payload)
