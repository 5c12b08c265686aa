-- How a receiver takes an envelope apart, by the rules of the format alone.
use Rattle.std.specs.Prelude.{ℕ, zero, suc, ◌==◌, nat_le, List, [], ◌∷◌, length, take, drop, if◌then◌else◌, Option, Some, None, option_map, option_and_then, codes}
use Rattle.std.specs.Char.{is_ascii_digit}
use Rattle.std.specs.Str.{is_utf8}
use Rattle.std.specs.List.{list_all}
use Rattle.std.specs.Str.Parse.{digits_value}
use Rattle.json.specs.Json.{Json, null, boolean, number, string, array, object, document}
use Rattle.json.specs.Find.{get}
use Rattle.sentry_framing.specs.Json.{Bytes}
use Rattle.sentry_framing.specs.Lines.{Item}

-- what was read, and what follows it
abbrev pub Read : Type 0 → Type 0
Read A = Option (A × Bytes)

-- the bytes before the first newline, and those after it
abbrev pub split_line : Bytes → Read Bytes
split_line [] = None
split_line (b ∷ bs) = if b == 10 then Some ([], bs) else option_map (λ p. (b ∷ p.0, p.1)) (split_line bs)

-- a newline, or the end of the envelope, has to follow a payload
abbrev pub end_payload : Bytes → Bytes → Read Bytes
end_payload payload [] = Some (payload, [])
end_payload payload (b ∷ bs) = if b == 10 then Some (payload, bs) else None

-- a payload of a stated length, whatever bytes it has; with none, the rest of the line
abbrev pub split_payload : Option ℕ → Bytes → Read Bytes
split_payload None text = split_line text
split_payload (Some n) text = if nat_le n (length text) then end_payload (take n text) (drop n text) else None

-- a number of digits alone
abbrev pub number_of : Json → Option ℕ
number_of (number digits) = if list_all is_ascii_digit digits then Some (digits_value 10 digits) else None
number_of null = None
number_of (boolean b) = None
number_of (string s) = None
number_of (array js) = None
number_of (object ms) = None

-- the length that the header of an item states
abbrev pub stated_length : Json → Option ℕ
stated_length header = option_and_then number_of (get (codes "length") header)

-- JSON, in UTF-8
abbrev pub read_json : Bytes → Option Json
read_json text = if is_utf8 text then document text else None

-- a line of JSON
abbrev pub read_header : Bytes → Read Json
read_header text = option_and_then (λ p. option_map (λ header. (header, p.1)) (read_json p.0)) (split_line text)

abbrev pub read_item : Bytes → Read Item
read_item text = option_and_then
    (λ h. option_map (λ p. ((h.0, p.0), p.1)) (split_payload (stated_length h.0) h.1)) (read_header text)

-- items up to the end. The number bounds the turns, and the count of the bytes is always enough.
abbrev pub read_items : ℕ → Bytes → Option (List Item)
read_items turns [] = Some []
read_items zero (b ∷ bs) = None
read_items (suc turns) (b ∷ bs) = option_and_then
    (λ p. option_map (λ items. p.0 ∷ items) (read_items turns p.1)) (read_item (b ∷ bs))

-- the header of an envelope, and its items
abbrev pub read_envelope : Bytes → Option (Json × List Item)
read_envelope text = option_and_then
    (λ h. option_map (λ items. (h.0, items)) (read_items (length h.1) h.1)) (read_header text)
