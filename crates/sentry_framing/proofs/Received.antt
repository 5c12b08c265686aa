-- A receiver takes apart what is written: the theorem of the format.
use Rattle.std.proofs.Common.{◌≡◌, ℕ, zero, suc, ◌<◌, ◌≤◌, ◌==◌, nat_le, true, false, List, [], ◌∷◌, ◌++◌, length, Some, option_map, option_and_then, flat_map, refl, ap, ◌∙◌, arith, append_assoc, append-nil, sym, length-append, cond, None, IsUtf8}
use Rattle.std.specs.Prelude.{⊤}
use Rattle.std.proofs.lemmas.Bool.{and_parts, not-true, le-leb}
use Rattle.std.proofs.lemmas.List.{take_at, drop_at}
use Rattle.std.proofs.lemmas.Str.{is_utf8-from_IsUtf8}
use Rattle.json.specs.Json.{Json, document, value, if_last, max_depth}
use Rattle.json.specs.Lex.{tokens}
use Rattle.json.specs.Tree.{json_tokens, depth}
use Rattle.json.proofs.Printed.Trees.{document-print, value-json_tokens}
use Rattle.sentry_framing.specs.Json.{Bytes, json_text}
use Rattle.sentry_framing.specs.Lines.{Item, line, item_text, envelope_text}
use Rattle.sentry_framing.specs.Receiver.{split_line, split_payload, stated_length, read_json, read_header, read_item, read_items, read_envelope}
use Rattle.sentry_framing.specs.Headers.{is_line, IsHeader, IsSendable}
use Rattle.sentry_framing.proofs.OneLine.{is_line-json_text}

pub split_line-line : (xs rest : Bytes) → is_line xs ≡ true → split_line (xs ++ 10 ∷ rest) ≡ Some (xs, rest)
split_line-line [] rest h = refl
split_line-line (x ∷ xs) rest h =
    let p = and_parts _ _ h in
    let other : (x == 10) ≡ false = not-true (x == 10) p.0 in
    let more = split_line-line xs rest p.1 in
    rw (other, more)

-- a line, and then the rest
line-append : (xs rest : Bytes) → line xs ++ rest ≡ xs ++ 10 ∷ rest
line-append xs rest = append_assoc xs (10 ∷ []) rest

pub is_json : (text : Bytes) (j : Json) → IsUtf8 text → document text ≡ Some j → read_json text ≡ Some j
is_json text j u e = ap (λ b. cond b (document text) None) (is_utf8-from_IsUtf8 text u) ∙ e

read_json-json_text : (j : Json) → IsHeader j → read_json (json_text j) ≡ Some j
read_json-json_text j h =
    ap (λ b. cond b (document (json_text j)) None) (is_utf8-from_IsUtf8 (json_text j) h.utf8)
    ∙ document-print j h.numbers h.shallow

pub read_header-line : (header : Json) (rest : Bytes) → IsHeader header → read_header (line (json_text header) ++ rest) ≡ Some (header, rest)
read_header-line header rest h =
    ap read_header (line-append (json_text header) rest)
    ∙ ap (option_and_then (λ p. option_map (λ j. (j, p.1)) (read_json p.0)))
    (split_line-line (json_text header) rest (is_line-json_text header h.lines))
    ∙ ap (option_map (λ j. (j, rest))) (read_json-json_text header h)

-- whatever bytes the payload has
split_payload-line : (payload rest : Bytes) → split_payload (Some (length payload)) (line payload ++ rest) ≡ Some (payload, rest)
split_payload-line payload rest =
    let fits : nat_le (length payload) (length (payload ++ 10 ∷ rest)) ≡ true = le-leb _ _ (omega (arith, length-append payload (10 ∷ rest))) in
    ap (split_payload (Some (length payload))) (line-append payload rest)
    ∙ rw (fits, take_at payload (10 ∷ rest) (length payload) refl, drop_at payload (10 ∷ rest) (length payload) refl)

pub read_item-item_text : (i : Item) (rest : Bytes) → IsSendable i → read_item (item_text i ++ rest) ≡ Some (i, rest)
read_item-item_text i rest h =
    ap read_item (append_assoc (line (json_text i.0)) (line i.1) rest)
    ∙ ap (option_and_then (λ r. option_map (λ p. ((r.0, p.0), p.1)) (split_payload (stated_length r.0) r.1)))
    (read_header-line i.0 (line i.1 ++ rest) h.header)
    ∙ ap (λ n. option_map (λ p. ((i.0, p.0), p.1)) (split_payload n (line i.1 ++ rest))) h.stated
    ∙ ap (option_map (λ p. ((i.0, p.0), p.1))) (split_payload-line i.1 rest)

abbrev pub AreSendable : List Item → Type 0
AreSendable [] = ⊤
AreSendable (i ∷ items) = IsSendable i × AreSendable items

-- an item takes a byte at least
length-item_text : (i : Item) → 0 < length (item_text i)
length-item_text i =
    omega (arith, length-append (line (json_text i.0)) (line i.1), length-append i.1 (10 ∷ []))

-- one turn, at a text that is not empty
pub read_items-step : (turns : ℕ) (text : Bytes) → 0 < length text → read_items (suc turns) text
    ≡ option_and_then (λ p. option_map (λ items. p.0 ∷ items) (read_items turns p.1)) (read_item text)
read_items-step turns [] h = absurd (omega arith)
read_items-step turns (b ∷ bs) h = refl

pub read_items-nil : (turns : ℕ) → read_items turns [] ≡ Some []
read_items-nil zero = refl
read_items-nil (suc turns) = refl

pub read_items-item_text : (turns : ℕ) (items : List Item) → AreSendable items → length (flat_map item_text items) ≤ turns
    → read_items turns (flat_map item_text items) ≡ Some items
read_items-item_text turns [] h fits = read_items-nil turns
read_items-item_text zero (i ∷ items) h fits =
    absurd (omega (arith, length-append (item_text i) (flat_map item_text items), length-item_text i))
read_items-item_text (suc turns) (i ∷ items) h fits =
    let rest = flat_map item_text items in
    let some : 0 < length (item_text i ++ rest) = omega (arith, length-append (item_text i) rest, length-item_text i) in
    let fewer : length rest ≤ turns = omega (arith, length-append (item_text i) rest, length-item_text i) in
    read_items-step turns (item_text i ++ rest) some
    ∙ ap (option_and_then (λ p. option_map (λ is. p.0 ∷ is) (read_items turns p.1))) (read_item-item_text i rest h.0)
    ∙ ap (option_map (λ is. i ∷ is)) (read_items-item_text turns items h.1 fewer)

-- an envelope is read back: its header, and each item with its header and its payload
pub read_envelope-envelope_text : (header : Json) (items : List Item) → IsHeader header → AreSendable items
    → read_envelope (envelope_text header items) ≡ Some (header, items)
read_envelope-envelope_text header items h k =
    let text = flat_map item_text items in
    ap (option_and_then (λ r. option_map (λ is. (r.0, is)) (read_items (length r.1) r.1))) (read_header-line header text h)
    ∙ ap (option_map (λ is. (header, is))) (read_items-item_text (length text) items k (omega arith))

pub AreSendable-append : (items more : List Item) → AreSendable items → AreSendable more → AreSendable (items ++ more)
AreSendable-append [] more h k = k
AreSendable-append (i ∷ items) more h k = (h.0, AreSendable-append items more h.1 k)

-- the text of a value reads back, if its tokens do
pub document-json_text : (j : Json) → tokens (json_text j) ≡ json_tokens j → depth j ≤ max_depth → document (json_text j) ≡ Some j
document-json_text j e shallow =
    ap (option_and_then (λ p. if_last p.0 p.1))
    (ap (value max_depth) (e ∙ sym (append-nil (json_tokens j))) ∙ value-json_tokens j max_depth [] shallow)
