-- How the parts of an envelope are found in its bytes.
use Rattle.std.proofs.Common.{◌≡◌, ℕ, zero, suc, ◌+◌, ◌-◌, ◌*◌, ◌^◌, ◌<◌, ◌≤◌, ◌==◌, ◌&&◌, nat_le, true, false, cond, not, inl, inr, List, [], ◌∷◌, ◌++◌, map, length, take, drop, get_or, Option, Some, None, is_some, true≢false, unwrap_or, option_map, option_and_then, refl, sym, ap, ◌∙◌, arith, add-one, drop-cons, take-append-drop, append_assoc, IsUtf8}
use Rattle.std.proofs.lemmas.Bool.{and_parts, not-true, cases_lt, cases_Bool, lt-leb, leb-true}
use Rattle.std.proofs.lemmas.List.{take_more, take_all, append-nil, map-append}
use Rattle.std.proofs.lemmas.List.Folds.{list_all-append}
use Rattle.std.proofs.lemmas.Int.Digits.{digits_value_more}
use Rattle.std.proofs.lemmas.Str.{digit_value_digit, IsUtf8-from_is_utf8}
use Rattle.std.specs.Str.{is_utf8}
use Rattle.std.specs.Char.{is_ascii_digit, digit_value}
use Rattle.std.specs.List.{list_all}
use Rattle.std.specs.Str.Parse.{digits_value}
use Rattle.json.specs.Json.{Json, number, document}
use Rattle.sentry_framing.specs.Json.{Bytes}
use Rattle.sentry_framing.specs.Lines.{Item}
use Rattle.sentry_framing.specs.Headers.{is_line}
use Rattle.sentry_framing.specs.Receiver.{Read, split_line, end_payload, split_payload, number_of, stated_length, read_json, read_header, read_item, read_items, read_envelope}
use Rattle.sentry_framing.specs.Raw.{no_more, raw_item, known_item, known_read}
use Rattle.sentry_framing.specs.declared.raw.RawItem.{RawItem}
use Rattle.sentry_framing.proofs.OneLine.{is_line-append}
use Rattle.sentry_framing.proofs.Received.{split_line-line, read_items-step, read_items-nil}

-- the element at a place, and those after it
at_place : {X : Type 0} (xs : List X) (i : ℕ) (d : X) → i < length xs → drop i xs ≡ get_or xs i d ∷ drop (i + 1) xs
at_place xs i d h = rw add-one (drop-cons xs i d h)

-- ---- the first newline

pub line_more : (text : Bytes) (i d : ℕ) → i < length text → is_line (take i text) ≡ true → (get_or text i d == 10) ≡ false → is_line (take (i + 1) text) ≡ true
line_more text i d h line other =
    ap is_line (take_more text i d h) ∙ is_line-append (take i text) (get_or text i d ∷ []) line (ap (λ b. not b && true) other)

pub line_found : (text : Bytes) (i d : ℕ) → i < length text → is_line (take i text) ≡ true → get_or text i d ≡ 10 → split_line text ≡ Some (take i text, drop (i + 1) text)
line_found text i d h line here =
    let at : drop i text ≡ 10 ∷ drop (i + 1) text = at_place text i d h ∙ ap (λ (b : ℕ). b ∷ drop (i + 1) text) here in
    let whole : text ≡ take i text ++ 10 ∷ drop (i + 1) text = sym (take-append-drop i text) ∙ ap (λ (rest : Bytes). take i text ++ rest) at in
    ap split_line whole ∙ split_line-line (take i text) (drop (i + 1) text) line

no_line : (xs : Bytes) → is_line xs ≡ true → split_line xs ≡ None
no_line [] h = refl
no_line (x ∷ xs) h =
    let p = and_parts _ _ h in
    let other : (x == 10) ≡ false = not-true (x == 10) p.0 in
    rw (other, no_line xs p.1)

pub line_none : (text : Bytes) (i : ℕ) → length text ≤ i → is_line (take i text) ≡ true → split_line text ≡ None
line_none text i h line = no_line text (ap is_line (sym (take_all i text h)) ∙ line)

-- ---- a number of digits

-- the first digits were counted
pub record Counted (text : Bytes) (i n : ℕ) : Type 0 where
  pub digits : list_all is_ascii_digit (take i text) ≡ true
  pub value : n ≡ no_more (digits_value 10 (take i text))

digit_is : (c : ℕ) → is_ascii_digit c ≡ true → (48 ≤ c) × (c ≤ 57) × (digit_value c + 48 ≡ c)
digit_is c h =
    let p = and_parts _ _ h in
    let low : 48 ≤ c = leb-true _ _ p.0 in
    let high : c ≤ 57 = leb-true _ _ p.1 in
    (low, high, digit_value_digit c (low, high))

pub counted_more : (digits : Bytes) (i n m : ℕ) → i < length digits → is_ascii_digit (get_or digits i 0) ≡ true → Counted digits i n
    → m ≡ no_more (no_more (n * 10) + (get_or digits i 0 - 48)) → Counted digits (i + 1) m
counted_more digits i n m h is_one so_far is =
    let d = digit_is (get_or digits i 0) is_one in
    record {
      digits =
          ap (list_all is_ascii_digit) (take_more digits i 0 h)
          ∙ list_all-append is_ascii_digit (take i digits) (get_or digits i 0 ∷ [])
          ∙ ap (λ b. b && (is_ascii_digit (get_or digits i 0) && true)) so_far.digits
          ∙ ap (λ b. b && true) is_one;
      value =
          let before = so_far.value in
          let step = digits_value_more 10 digits i h in
          omega (arith, before, step, d, is);
    }

pub counted_all : (digits : Bytes) (i n : ℕ) → length digits ≤ i → Counted digits i n → Some n ≡ option_map no_more (number_of (number digits))
counted_all digits i n h so_far =
    let whole : take i digits ≡ digits = take_all i digits h in
    let all : list_all is_ascii_digit digits ≡ true = ap (list_all is_ascii_digit) (sym whole) ∙ so_far.digits in
    ap Some (so_far.value ∙ ap (λ (ds : Bytes). no_more (digits_value 10 ds)) whole)
    ∙ ap (λ b. option_map no_more (cond b (Some (digits_value 10 digits)) None)) (sym all)

pub counted_none : (digits : Bytes) (i n : ℕ) → i < length digits → is_ascii_digit (get_or digits i 0) ≡ false → Counted digits i n
    → None ≡ option_map no_more (number_of (number digits))
counted_none digits i n h other so_far =
    let rest : list_all is_ascii_digit (drop i digits) ≡ false =
    ap (list_all is_ascii_digit) (at_place digits i 0 h) ∙ ap (λ b. b && list_all is_ascii_digit (drop (i + 1) digits)) other in
    let all : list_all is_ascii_digit digits ≡ false =
    ap (list_all is_ascii_digit) (sym (take-append-drop i digits))
    ∙ list_all-append is_ascii_digit (take i digits) (drop i digits)
    ∙ ap (λ b. b && list_all is_ascii_digit (drop i digits)) so_far.digits
    ∙ rest in
    ap (λ b. option_map no_more (cond b (Some (digits_value 10 digits)) None)) (sym all)

-- ---- the payload

-- a length beyond 64 bits is beyond any text
pub payload_no_more : (o : Option ℕ) (text : Bytes) → length text < 2 ^ 64 - 1 → split_payload (option_map no_more o) text ≡ split_payload o text
payload_no_more None text h = refl
payload_no_more (Some n) text h = elim (cases_lt n (2 ^ 64)) [
  | inl small ↦ let same : no_more n ≡ n = omega arith in ap (λ m. split_payload (Some m) text) same
  | inr large ↦
      let long : nat_le n (length text) ≡ false = lt-leb n (length text) (omega arith) in
      let still : nat_le (no_more n) (length text) ≡ false = lt-leb (no_more n) (length text) (omega arith) in
      ap (λ b. cond b (end_payload (take (no_more n) text) (drop (no_more n) text)) None) still
      ∙ ap (λ b. cond b (end_payload (take n text) (drop n text)) None) (sym long)
]

-- ---- a header

pub not_utf8 : (text : Bytes) → ¬ (IsUtf8 text) → read_json text ≡ None
not_utf8 text h = elim (cases_Bool (is_utf8 text)) [
  | inl e ↦ absurd (h (IsUtf8-from_is_utf8 text e))
  | inr e ↦ ap (λ b. cond b (document text) None) e
]

pub not_json : (text : Bytes) → document text ≡ None → read_json text ≡ None
not_json text h = elim (cases_Bool (is_utf8 text)) [
  | inl e ↦ ap (λ b. cond b (document text) None) e ∙ h
  | inr e ↦ ap (λ b. cond b (document text) None) e
]

pub line_none_header : (text : Bytes) → split_line text ≡ None → read_header text ≡ None
line_none_header text e = ap (option_and_then (λ p. option_map (λ j. (j, p.1)) (read_json p.0))) e

pub header_is : (text line rest : Bytes) → split_line text ≡ Some (line, rest) → read_header text ≡ option_map (λ j. (j, rest)) (read_json line)
header_is text line rest e = ap (option_and_then (λ p. option_map (λ j. (j, p.1)) (read_json p.0))) e

-- ---- an item

pub header_none : (text : Bytes) → read_header text ≡ None → read_item text ≡ None
header_none text e = ap (option_and_then (λ h. option_map (λ p. ((h.0, p.0), p.1)) (split_payload (stated_length h.0) h.1))) e

pub item_is : (text rest : Bytes) (j : Json) → read_header text ≡ Some (j, rest)
    → read_item text ≡ option_map (λ p. ((j, p.0), p.1)) (split_payload (stated_length j) rest)
item_is text rest j e = ap (option_and_then (λ h. option_map (λ p. ((h.0, p.0), p.1)) (split_payload (stated_length h.0) h.1))) e

-- ---- the items

-- so many items were taken off the text
pub record Taken (text rest : Bytes) (raw : List RawItem) : Type 0 where
  pub turns : ℕ
  pub enough : length rest ≤ turns
  pub left : option_map (map known_item) (read_items (length text) text) ≡ option_map (λ items. map raw_item raw ++ map known_item items) (read_items turns rest)

pub taken_none : (text : Bytes) → Taken text text []
taken_none text = record { turns = length text; enough = omega arith; left = refl }

read_some : (o : Read Item) (raw : RawItem) (left : Bytes) → Some (raw_item raw, left) ≡ option_map known_read o
    → (i : Item) × (o ≡ Some (i, left)) × (known_item i ≡ raw_item raw)
read_some None raw left e = absurd (true≢false (ap is_some e))
read_some (Some p) raw left e =
    let both : (raw_item raw, left) ≡ known_read p = ap (λ (o : Option ((Option Json × Bytes) × Bytes)). unwrap_or o (raw_item raw, left)) e in (
      p.0,
      ap (λ (rest : Bytes). Some (p.0, rest)) (sym (ap (λ (q : (Option Json × Bytes) × Bytes). q.1) both)),
      sym (ap (λ (q : (Option Json × Bytes) × Bytes). q.0) both),
    )

read_none : (o : Read Item) → None ≡ option_map known_read o → o ≡ None
read_none None e = refl
read_none (Some p) e = absurd (true≢false (ap is_some (sym e)))

moved : (raw : List RawItem) (item : RawItem) (i : Item) → known_item i ≡ raw_item item → (o : Option (List Item))
    → option_map (λ items. map raw_item raw ++ map known_item items) (option_map (λ items. i ∷ items) o)
    ≡ option_map (λ items. map raw_item (raw ++ item ∷ []) ++ map known_item items) o
moved raw item i k None = refl
moved raw item i k (Some items) =
    ap Some (ap (λ (x : Option Json × Bytes). map raw_item raw ++ x ∷ map known_item items) k
    ∙ sym (append_assoc (map raw_item raw) (raw_item item ∷ []) (map known_item items))
    ∙ ap (λ (xs : List (Option Json × Bytes)). xs ++ map known_item items) (sym (map-append raw_item raw (item ∷ []))))

one_turn : (turns : ℕ) (text rest left : Bytes) (raw : List RawItem) (item : RawItem) (i : Item)
    → option_map (map known_item) (read_items (length text) text) ≡ option_map (λ items. map raw_item raw ++ map known_item items) (read_items turns rest)
    → length rest ≤ turns → length left < length rest → read_item rest ≡ Some (i, left) → known_item i ≡ raw_item item → Taken text left (raw ++ item ∷ [])
one_turn zero text rest left raw item i so_far enough shorter found same = absurd (omega arith)
one_turn (suc turns) text rest left raw item i so_far enough shorter found same = record {
  turns = turns;
  enough = omega arith;
  left =
      so_far
      ∙ ap (option_map (λ items. map raw_item raw ++ map known_item items))
      (read_items-step turns rest (omega arith) ∙ ap (option_and_then (λ p. option_map (λ items. p.0 ∷ items) (read_items turns p.1))) found)
      ∙ moved raw item i same (read_items turns left);
}

pub taken_more : (text rest left : Bytes) (raw : List RawItem) (item : RawItem) → Taken text rest raw → length left < length rest
    → Some (raw_item item, left) ≡ option_map known_read (read_item rest) → Taken text left (raw ++ item ∷ [])
taken_more text rest left raw item t shorter e =
    let found = read_some (read_item rest) item left e in
    one_turn t.turns text rest left raw item found.0 t.left t.enough shorter found.1 found.2

no_turn : (turns : ℕ) (rest : Bytes) → 0 < length rest → read_item rest ≡ None → read_items turns rest ≡ None
no_turn zero [] h e = absurd (omega arith)
no_turn zero (b ∷ bs) h e = refl
no_turn (suc turns) rest h e =
    read_items-step turns rest h ∙ ap (option_and_then (λ p. option_map (λ items. p.0 ∷ items) (read_items turns p.1))) e

pub taken_bad : (text rest : Bytes) (raw : List RawItem) → Taken text rest raw → 0 < length rest → None ≡ option_map known_read (read_item rest)
    → None ≡ option_map (map known_item) (read_items (length text) text)
taken_bad text rest raw t h e =
    sym (t.left ∙ ap (option_map (λ items. map raw_item raw ++ map known_item items)) (no_turn t.turns rest h (read_none (read_item rest) e)))

pub taken_all : (text rest : Bytes) (raw : List RawItem) → Taken text rest raw → length rest ≡ 0
    → Some (map raw_item raw) ≡ option_map (map known_item) (read_items (length text) text)
taken_all text [] raw t h =
    sym (t.left ∙ ap (option_map (λ items. map raw_item raw ++ map known_item items)) (read_items-nil t.turns) ∙ ap Some (append-nil (map raw_item raw)))
taken_all text (b ∷ bs) raw t h = absurd (omega arith)

-- ---- the whole

pub envelope_is : (text rest : Bytes) (j : Json) → read_header text ≡ Some (j, rest)
    → read_envelope text ≡ option_map (λ items. (j, items)) (read_items (length rest) rest)
envelope_is text rest j e = ap (option_and_then (λ h. option_map (λ items. (h.0, items)) (read_items (length h.1) h.1))) e
