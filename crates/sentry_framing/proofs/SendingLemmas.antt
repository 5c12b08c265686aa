-- How a text is written: what was written so far, and what is left of it.
use Rattle.std.proofs.Common.{◌≡◌, refl, ap, ◌∙◌, sym, ◌++◌, [], Option, Some, None, take, drop, length, ◌-◌, ℕ, append_assoc, subst}
use Rattle.std.specs.Io.KnownBytes.{Appends, Keeps}
use Rattle.std.proofs.lemmas.List.{append-nil, take-append-drop, take_rest}
use Rattle.sentry_framing.specs.Json.{Bytes}
use Rattle.sentry_framing.specs.Sending.{AppendsFront}

-- what was written so far, and then what is left, is the text
abbrev pub Progress : Option Bytes → Option Bytes → Bytes → Bytes → Type 0
Progress before after text rest = (written : Bytes) × (text ≡ written ++ rest) × Appends before after written

pub appends_none : (known : Option Bytes) → Appends known known []
appends_none None = tt
appends_none (Some bytes) = sym (append-nil bytes)

pub appends_both : (before between after : Option Bytes) (first second : Bytes) → Appends before between first → Appends between after second → Appends before after (first ++ second)
appends_both None between after first second a b = tt
appends_both (Some x) None after first second a b = absurd a
appends_both (Some x) (Some y) None first second a b = absurd b
appends_both (Some x) (Some y) (Some z) first second a b = b ∙ ap (λ (bytes : Bytes). bytes ++ second) a ∙ append_assoc x first second

pub appends_kept : (before after : Option Bytes) → Keeps before after → Appends before after []
appends_kept None after kept = tt
appends_kept (Some x) None kept = absurd kept
appends_kept (Some x) (Some y) kept = kept ∙ sym (append-nil x)

pub keeps_appended : (before after : Option Bytes) → Appends before after [] → Keeps before after
keeps_appended None after appended = tt
keeps_appended (Some x) None appended = absurd appended
keeps_appended (Some x) (Some y) appended = appended ∙ append-nil x

pub nothing_written : (known : Option Bytes) (text : Bytes) → Progress known known text text
nothing_written known text = ([], refl, appends_none known)

-- a call took some of what was left
pub more_written : (before between after : Option Bytes) (text rest : Bytes) (n : ℕ) → Progress before between text rest → Appends between after (take n rest)
    → Progress before after text (take (length rest - n) (drop n rest))
more_written before between after text rest n so_far appended = (
  so_far.0 ++ take n rest,
  so_far.1 ∙ ap (λ (bytes : Bytes). so_far.0 ++ bytes) (sym (take-append-drop n rest)) ∙ sym (append_assoc so_far.0 (take n rest) (drop n rest))
      ∙ ap (λ (bytes : Bytes). (so_far.0 ++ take n rest) ++ bytes) (sym (take_rest rest n)),
  appends_both before between after so_far.0 (take n rest) so_far.2 appended,
)

-- a call took nothing
pub none_written : (before between after : Option Bytes) (text rest : Bytes) → Progress before between text rest → Keeps between after → Progress before after text rest
none_written before between after text rest so_far kept = (
  so_far.0 ++ [],
  so_far.1 ∙ ap (λ (bytes : Bytes). bytes ++ rest) (sym (append-nil so_far.0)),
  appends_both before between after so_far.0 [] so_far.2 (appends_kept between after kept),
)

pub all_written : (before after : Option Bytes) (text rest : Bytes) → Progress before after text rest → rest ≡ [] → Appends before after text
all_written before after text rest so_far none =
    let whole : text ≡ so_far.0 = so_far.1 ∙ ap (λ (bytes : Bytes). so_far.0 ++ bytes) none ∙ append-nil so_far.0 in
    subst (Appends before after) (sym whole) so_far.2

pub some_written : (before after : Option Bytes) (text rest : Bytes) → Progress before after text rest → AppendsFront before after text
some_written before after text rest so_far = (so_far.0, rest, so_far.1, so_far.2)

pub failed : (before between after : Option Bytes) (text rest : Bytes) → Progress before between text rest → Keeps between after → AppendsFront before after text
failed before between after text rest so_far kept = some_written before after text rest (none_written before between after text rest so_far kept)

-- a piece of what was left is written
pub piece_written : (before between after : Option Bytes) (text piece rest : Bytes) → Progress before between text (piece ++ rest) → Appends between after piece
    → Progress before after text rest
piece_written before between after text piece rest so_far appended = (
  so_far.0 ++ piece,
  so_far.1 ∙ sym (append_assoc so_far.0 piece rest),
  appends_both before between after so_far.0 piece so_far.2 appended,
)

-- a beginning of a piece of what was left is written
pub piece_begun : (before between after : Option Bytes) (text piece rest : Bytes) → Progress before between text (piece ++ rest) → AppendsFront between after piece
    → AppendsFront before after text
piece_begun before between after text piece rest so_far begun = (
  so_far.0 ++ begun.0,
  begun.1 ++ rest,
  so_far.1
      ∙ ap (λ (bytes : Bytes). so_far.0 ++ (bytes ++ rest)) begun.2
      ∙ ap (λ (bytes : Bytes). so_far.0 ++ bytes) (append_assoc begun.0 begun.1 rest)
      ∙ sym (append_assoc so_far.0 begun.0 (begun.1 ++ rest)),
  appends_both before between after so_far.0 begun.0 so_far.2 begun.3,
)
