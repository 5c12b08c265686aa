-- The headers of items can be read, and state the length of the payload.
use Rattle.std.proofs.Common.{◌≡◌, ℕ, ◌+◌, ◌%◌, ◌^◌, ◌<◌, ◌≤◌, ◌==◌, true, false, cond, not, [], ◌∷◌, length, Option, Some, None, option_and_then, decimal, codes, IsUtf8, refl, ap, ◌∙◌, arith}
use Rattle.std.specs.Prelude.{IfSome}
use Rattle.std.proofs.lemmas.Bool.{and_from, le-leb, ne_eqb}
use Rattle.std.proofs.lemmas.List.Folds.{list_all-append}
use Rattle.std.proofs.lemmas.Fmt.{decimal_by_steps, decimal_is_IsNumeral}
use Rattle.std.specs.Char.{is_ascii_digit}
use Rattle.std.specs.List.{list_all}
use Rattle.std.specs.Str.{bytes_eq}
use Rattle.json.specs.Json.{string, Json, Members, no_members}
use Rattle.json.specs.Tree.{depth, members_depth, HasNumbers, MembersHaveNumbers}
use Rattle.json.specs.Find.{later_or, get_member}
use Rattle.json.proofs.Printed.Decimals.{IsNumber-decimal}
use Rattle.sentry_framing.specs.Json.{Bytes, whole, optional, json_text}
use Rattle.sentry_framing.specs.Receiver.{number_of}
use Rattle.sentry_framing.specs.Headers.{is_line, HasLines, MembersHaveLines, IsSendable, Header, item_header, sent}

-- ---- digits

pub is_digit : (n : ℕ) → n < 10 → is_ascii_digit (48 + n) ≡ true
is_digit n h = and_from _ _ (le-leb 48 (48 + n) (omega arith)) (le-leb (48 + n) 57 (omega arith))

pub digits-decimal : (n : ℕ) → n < 2 ^ 64 → list_all is_ascii_digit (decimal n) ≡ true
digits-decimal =
    decimal_by_steps (λ n ds. list_all is_ascii_digit ds ≡ true)
    (λ n h. and_from _ _ (is_digit n h) refl)
    (λ n ds h k. list_all-append is_ascii_digit ds ((48 + n % 10) ∷ []) ∙ and_from _ _ k (and_from _ _ (is_digit (n % 10) (omega arith)) refl))

pub is_line-decimal : (n : ℕ) → n < 2 ^ 64 → is_line (decimal n) ≡ true
is_line-decimal =
    decimal_by_steps (λ n ds. is_line ds ≡ true)
    (λ n h. and_from _ _ (ap not (ne_eqb (48 + n) 10 (λ e. omega arith))) refl)
    (λ n ds h k. list_all-append (λ b. not (b == 10)) ds ((48 + n % 10) ∷ []) ∙ and_from _ _ k (and_from _ _ (ap not (ne_eqb (48 + n % 10) 10 (λ e. omega arith))) refl))

pub number_of-whole : (n : ℕ) → n < 2 ^ 64 → number_of (whole n) ≡ Some n
number_of-whole n h = rw (digits-decimal n h, (decimal_is_IsNumeral n h).1)

-- ---- members that may be there

-- of a value that may be there
pub each : {X : Type 0} {P : X → Type 0} → ((x : X) → P x) → (o : Option X) → IfSome o P
each f None = tt
each f (Some x) = f x

module _ {X : Type 0} (to_json : X → Json) (key : Bytes) where
  pub MembersHaveNumbers-optional : (o : Option X) (rest : Members) → IfSome o (λ x. HasNumbers (to_json x)) → MembersHaveNumbers rest → MembersHaveNumbers (optional to_json key o rest)
  MembersHaveNumbers-optional None rest h k = k
  MembersHaveNumbers-optional (Some x) rest h k = (h, k)

  pub MembersHaveLines-optional : (o : Option X) (rest : Members) → IfSome o (λ x. HasLines (to_json x)) → MembersHaveLines rest → MembersHaveLines (optional to_json key o rest)
  MembersHaveLines-optional None rest h k = k
  MembersHaveLines-optional (Some x) rest h k = (h, k)

  pub members_depth-optional : (d : ℕ) (o : Option X) (rest : Members) → IfSome o (λ x. depth (to_json x) ≤ d) → members_depth rest ≤ d → members_depth (optional to_json key o rest) ≤ d
  members_depth-optional d None rest h k = k
  members_depth-optional d (Some x) rest h k = let first : depth (to_json x) ≤ d = h in omega arith

  -- a member of another name is not looked at
  pub get_member-optional : (name : Bytes) (o : Option X) (rest : Members) → bytes_eq key name ≡ false → get_member name (optional to_json key o rest) ≡ get_member name rest
  get_member-optional name None rest h = refl
  get_member-optional name (Some x) rest h = ap (λ b. later_or (get_member name rest) (cond b (Some (to_json x)) None)) h ∙ later_or-None (get_member name rest)
    where
      later_or-None : (o : Option Json) → later_or o None ≡ o
      later_or-None None = refl
      later_or-None (Some j) = refl

-- ---- the header of an item

abbrev texts : Header → Members
texts header =
    optional string (codes "filename") header.filename
    (optional string (codes "attachment_type") header.attachment_type
    (optional string (codes "content_type") header.content_type no_members))

texts_numbers : (header : Header) → MembersHaveNumbers (texts header)
texts_numbers header =
    MembersHaveNumbers-optional string (codes "filename") header.filename _ (each (λ x. tt) header.filename)
    (MembersHaveNumbers-optional string (codes "attachment_type") header.attachment_type _ (each (λ x. tt) header.attachment_type)
    (MembersHaveNumbers-optional string (codes "content_type") header.content_type no_members (each (λ x. tt) header.content_type) tt))

texts_lines : (header : Header) → MembersHaveLines (texts header)
texts_lines header =
    MembersHaveLines-optional string (codes "filename") header.filename _ (each (λ x. tt) header.filename)
    (MembersHaveLines-optional string (codes "attachment_type") header.attachment_type _ (each (λ x. tt) header.attachment_type)
    (MembersHaveLines-optional string (codes "content_type") header.content_type no_members (each (λ x. tt) header.content_type) tt))

no_depth : (o : Option (Bytes)) → IfSome o (λ x. depth (string x) ≤ 0)
no_depth None = tt
no_depth (Some x) = omega arith

texts_depth : (header : Header) → members_depth (texts header) ≤ 0
texts_depth header =
    members_depth-optional string (codes "filename") 0 header.filename _ (no_depth header.filename)
    (members_depth-optional string (codes "attachment_type") 0 header.attachment_type _ (no_depth header.attachment_type)
    (members_depth-optional string (codes "content_type") 0 header.content_type no_members (no_depth header.content_type) (omega arith)))

-- a fact about a count, under the bound of its type
under : {P : ℕ → Type 0} → ((n : ℕ) → n < 2 ^ 64 → P n) → (o : Option ℕ) → IfSome o (λ n. n < 2 ^ 64) → IfSome o P
under f None h = tt
under f (Some n) h = f n h

whole_depth : (o : Option ℕ) → IfSome o (λ n. depth (whole n) ≤ 0)
whole_depth None = tt
whole_depth (Some n) = omega arith

pub IsSendable-item_header : (header : Header) (payload : Bytes) → IfSome header.item_count (λ n. n < 2 ^ 64) → length payload < 2 ^ 64
    → IsUtf8 (json_text (item_header header (length payload))) → IsSendable (sent header payload)
IsSendable-item_header header payload count small utf8 = record {
  header = record {
    numbers = (
      tt,
      (
        IsNumber-decimal (length payload) small,
        MembersHaveNumbers-optional whole (codes "item_count") header.item_count (texts header) (under IsNumber-decimal header.item_count count) (texts_numbers header),
      ),
    );
    lines = (
      tt,
      (
        is_line-decimal (length payload) small,
        MembersHaveLines-optional whole (codes "item_count") header.item_count (texts header) (under is_line-decimal header.item_count count) (texts_lines header),
      ),
    );
    shallow =
        let deep : members_depth (optional whole (codes "item_count") header.item_count (texts header)) ≤ 0 =
        members_depth-optional whole (codes "item_count") 0 header.item_count (texts header) (whole_depth header.item_count) (texts_depth header) in
        omega (arith, deep);
    utf8 = utf8;
  };
  stated =
      let skipped : get_member (codes "length") (optional whole (codes "item_count") header.item_count (texts header)) ≡ None =
      get_member-optional whole (codes "item_count") (codes "length") header.item_count (texts header) refl
      ∙ (get_member-optional string (codes "filename") (codes "length") header.filename _ refl
      ∙ (get_member-optional string (codes "attachment_type") (codes "length") header.attachment_type _ refl
      ∙ get_member-optional string (codes "content_type") (codes "length") header.content_type no_members refl)) in
      ap (λ o. option_and_then number_of (later_or (later_or o (Some (whole (length payload)))) None)) skipped
      ∙ number_of-whole (length payload) small;
}
