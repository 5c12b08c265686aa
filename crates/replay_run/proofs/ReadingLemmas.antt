-- What is read from the front of a line is what the forms of a line say, and the other way round.
use Rattle.std.proofs.Common.{◌≡◌, ◌≢◌, refl, ap, ◌∙◌, sym, subst, ℕ, ◌<◌, ◌^◌, List, [], ◌∷◌, ◌++◌, Bool, true, length, get_or, arith, inl, inr, Result, Ok, Err, eqb, lit<, suc}
use Rattle.std.specs.Prelude.{Option, Some, None, ◌&&◌, nat_lt, find, codes, is_none}
use Rattle.std.specs.Option.{option_map}
use Rattle.std.specs.Result.{OkIff, result_ok}
use Rattle.std.specs.List.{AllByRecursion}
use Rattle.std.specs.Str.{all_ascii_digits, bytes_eq}
use Rattle.std.specs.Str.Parse.{digits_value, AllDigits, ParsesUnsigned}
use Rattle.std.proofs.lemmas.Bool.{eqb-true, eqb-false, ne_eqb, cond-true, cond-false, and_parts, and_from, ltb-true, lt-ltb, cases_Bool, both_ways, false_from_ne_true}
use Rattle.std.proofs.lemmas.Option.{same_Some, none-some, cond_some, some_pair_parts}
use Rattle.std.proofs.lemmas.Slice.Eq.{bytes_eq-Decides}
use Rattle.std.proofs.lemmas.Str.Pattern.{IsSplitOnceResult, split_parts}
use Rattle.std.proofs.lemmas.Str.Parse.{IsNumeralModel, numerals_by_value, tells_all_ascii_digits, parse_plain, digit_from_value}
use denote.Ref.{Bor}
use Rattle.sentry_plain.specs.Texts.{Bytes}
use Rattle.sentry_base.specs.declared.protocol.level.Level.{Level}
use Rattle.sentry_base.specs.declared.protocol.level.Level.TheVariants.{Debug, Info, Warning, Error, Fatal}
use Rattle.replay_run.specs.Reading.{cut, is_word, number_of, level_of}
use Rattle.sentry_base.specs.Names.{level_name}
use Rattle.replay_run.specs.Commands.{IsWord, IsNumber}

-- no space
abbrev pub Solid : Bytes → Type 0
Solid bs = AllByRecursion (λ b. b ≢ 32) bs

pub cut-solid : (w rest : Bytes) → Solid w → cut (w ++ (32 ∷ rest)) ≡ Some (w, rest)
cut-solid [] rest h = refl
cut-solid (b ∷ w) rest h =
    cond-false (eqb b 32) _ _ (ne_eqb b 32 h.0) ∙ ap (option_map (λ parts. (b ∷ parts.0, parts.1))) (cut-solid w rest h.1)

pub cut-none : (bs : Bytes) → Solid bs → cut bs ≡ None
cut-none [] h = refl
cut-none (b ∷ bs) h =
    cond-false (eqb b 32) _ _ (ne_eqb b 32 h.0) ∙ ap (option_map (λ parts. (b ∷ parts.0, parts.1))) (cut-none bs h.1)

some_pair : {A B : Type 0} (a x : A) (b y : B) → ◌≡◌ {A = Option (A × B)} (Some (a, b)) (Some (x, y)) → (a ≡ x) × (b ≡ y)
some_pair a x b y e = some_pair_parts a x b y e

onto_some : (b : ℕ) (o : Option (Bytes × Bytes)) (w rest : Bytes) → option_map {U = Bytes × Bytes} (λ parts. (b ∷ parts.0, parts.1)) o ≡ Some (w, rest) → (front : Bytes) × (o ≡ Some (front, rest)) × (w ≡ b ∷ front)
onto_some b None w rest e = absurd (none-some (w, rest) e)
onto_some b (Some parts) w rest e =
    let same = some_pair (b ∷ parts.0) w parts.1 rest e in
    (parts.0, ap (λ r. Some (parts.0, r)) same.1, sym same.0)

onto_none : (b : ℕ) (o : Option (Bytes × Bytes)) → option_map {U = Bytes × Bytes} (λ parts. (b ∷ parts.0, parts.1)) o ≡ None → o ≡ None
onto_none b None e = refl
onto_none b (Some parts) e = absurd (none-some (b ∷ parts.0, parts.1) (sym e))

pub cut_some : (bs w rest : Bytes) → cut bs ≡ Some (w, rest) → (bs ≡ w ++ (32 ∷ rest)) × Solid w
cut_some [] w rest e = absurd (none-some (w, rest) e)
cut_some (b ∷ bs) w rest e =
    elim (cases_Bool (eqb b 32)) [
      | inl space ↦
          let same = some_pair [] w bs rest (sym (cond-true (eqb b 32) _ _ space) ∙ e) in
          let P : Bytes → Type 0 = λ front. (b ∷ bs ≡ front ++ (32 ∷ rest)) × Solid front in
          subst P same.0 (ap (λ c. c ∷ bs) (eqb-true b 32 space) ∙ ap (λ r. 32 ∷ r) same.1, tt)
      | inr other ↦
          let more = onto_some b (cut bs) w rest (sym (cond-false (eqb b 32) _ _ other) ∙ e) in
          let found = cut_some bs more.0 rest more.1 in
          let P : Bytes → Type 0 = λ front. (b ∷ bs ≡ front ++ (32 ∷ rest)) × Solid front in
          subst P (sym more.2) (ap (λ r. b ∷ r) found.0, (eqb-false b 32 other, found.1))
    ]

pub cut_none : (bs : Bytes) → cut bs ≡ None → Solid bs
cut_none [] e = tt
cut_none (b ∷ bs) e =
    elim (cases_Bool (eqb b 32)) [
      | inl space ↦ absurd (none-some ([], bs) (sym e ∙ cond-true (eqb b 32) _ _ space))
      | inr other ↦ (eqb-false b 32 other, cut_none bs (onto_none b (cut bs) (sym (cond-false (eqb b 32) _ _ other) ∙ e)))
    ]

solid_at : (bs : Bytes) → ((i : ℕ) → i < length bs → get_or bs i 0 ≢ 32) → Solid bs
solid_at [] h = tt
solid_at (b ∷ bs) h = (h 0 (omega arith), solid_at bs (λ i lt. h (suc i) (omega arith)))

-- what `split_once` answers at a space
pub cut_given : (bs : Bytes) (r : Option (Bor (List ℕ) × Bor (List ℕ))) → IsSplitOnceResult 32 bs r → option_map {U = Bytes × Bytes} (λ parts. (parts.0.now, parts.1.now)) r ≡ cut bs
cut_given bs None h = sym (cut-none bs (solid_at bs (split_parts 32 bs None h (lit< tt))))
cut_given bs (Some parts) h =
    let found = split_parts 32 bs (Some parts) h (lit< tt) in
    sym (ap cut found.0 ∙ cut-solid parts.0.now parts.1.now (solid_at parts.0.now found.1))

-- numbers

model : IsNumeralModel (λ ds. all_ascii_digits ds ≡ true) (digits_value 10)
model = numerals_by_value (λ ds. all_ascii_digits ds ≡ true) tells_all_ascii_digits

pub number_some : (text : Bytes) (n : ℕ) → number_of text ≡ Some n → IsNumber text n
unfolding number_of
number_some text n e =
    let found = cond_some (all_ascii_digits text && (nat_lt 0 (length text) && nat_lt (digits_value 10 text) (2 ^ 64))) (digits_value 10 text) n e in
    let tests = and_parts (all_ascii_digits text) (nat_lt 0 (length text) && nat_lt (digits_value 10 text) (2 ^ 64)) found.0 in
    let sizes = and_parts (nat_lt 0 (length text)) (nat_lt (digits_value 10 text) (2 ^ 64)) tests.1 in
    let P : ℕ → Type 0 = λ m. m < 2 ^ 64 in
    record {
      digits = (ltb-true 0 (length text) sizes.0, model.to text tests.0);
      value = found.1;
      fits = subst P found.1 (ltb-true (digits_value 10 text) (2 ^ 64) sizes.1);
    }

number_when : (text : Bytes) → all_ascii_digits text ≡ true → 0 < length text → digits_value 10 text < 2 ^ 64 → number_of text ≡ Some (digits_value 10 text)
unfolding number_of
number_when text digits some fits =
    cond-true _ _ _ (and_from (all_ascii_digits text) _ digits (and_from (nat_lt 0 (length text)) _ (lt-ltb 0 (length text) some) (lt-ltb (digits_value 10 text) (2 ^ 64) fits)))

pub number-is : (text : Bytes) (n : ℕ) → IsNumber text n → number_of text ≡ Some n
number-is text n h =
    let P : ℕ → Type 0 = λ m. m < 2 ^ 64 in
    number_when text (model.from text h.digits.1) h.digits.0 (subst P (sym h.value) h.fits) ∙ ap Some h.value

-- digits are no spaces
digits_solid : (text : Bytes) → AllDigits 10 text → Solid text
digits_solid [] h = tt
digits_solid (c ∷ cs) h = let digit = digit_from_value c h.0 in (λ space. omega arith, digits_solid cs h.1)

pub number_solid : (text : Bytes) (n : ℕ) → IsNumber text n → Solid text
number_solid text n h = digits_solid text h.digits.1

number_read : {E : Type 0} (text : Bytes) (r : Result ℕ E) → OkIff r ((all_ascii_digits text ≡ true) × (0 < length text) × (digits_value 10 text < 2 ^ 64)) (digits_value 10 text) → result_ok r ≡ number_of text
unfolding number_of
number_read text (Ok n) h = ap Some h.1 ∙ sym (number_when text h.0.0 h.0.1 h.0.2)
number_read text (Err e) h =
    sym (cond-false _ _ _ (false_from_ne_true _ (λ yes.
    let tests = and_parts (all_ascii_digits text) (nat_lt 0 (length text) && nat_lt (digits_value 10 text) (2 ^ 64)) yes in
    let sizes = and_parts (nat_lt 0 (length text)) (nat_lt (digits_value 10 text) (2 ^ 64)) tests.1 in
    h (tests.0, ltb-true 0 (length text) sizes.0, ltb-true (digits_value 10 text) (2 ^ 64) sizes.1))))

-- what `parse` answers where no `+` stands in front
pub number_parsed : {E : Type 0} (text : Bytes) (r : Result ℕ E) → ParsesUnsigned 64 10 text r → get_or text 0 0 ≢ 43 → result_ok r ≡ number_of text
number_parsed text r h plain = number_read text r (parse_plain model 64 text r h plain)

-- a `+` in front is no digit
pub number-plus : (text : Bytes) → get_or text 0 0 ≡ 43 → number_of text ≡ None
unfolding number_of
number-plus [] e = refl
number-plus (c ∷ cs) e = subst (λ (b : ℕ). number_of (b ∷ cs) ≡ None) (sym e) refl

-- levels

find_passes : {X : Type 0} (p : X → Bool) (xs : List X) (x : X) → find p xs ≡ Some x → p x ≡ true
find_passes p [] x e = absurd (none-some x e)
find_passes p (y ∷ ys) x e =
    elim (cases_Bool (p y)) [
      | inl passes ↦ subst (λ z. p z ≡ true) (same_Some y x (sym (cond-true (p y) _ _ passes) ∙ e)) passes
      | inr fails ↦ find_passes p ys x (sym (cond-false (p y) _ _ fails) ∙ e)
    ]

pub level_some : (text : Bytes) (level : Level) → level_of text ≡ Some level → text ≡ level_name level
unfolding level_of
level_some text level e = (bytes_eq-Decides text (level_name level)).0 (find_passes (λ l. bytes_eq text (level_name l)) (Debug ∷ Info ∷ Warning ∷ Error ∷ Fatal ∷ []) level e)

pub level-is : (level : Level) → level_of (level_name level) ≡ Some level
unfolding level_of
level-is Debug = refl
level-is Info = refl
level-is Warning = refl
level-is Error = refl
level-is Fatal = refl

pub level_solid : (level : Level) → Solid (level_name level)
level_solid Debug = cut_none (codes "debug") refl
level_solid Info = cut_none (codes "info") refl
level_solid Warning = cut_none (codes "warning") refl
level_solid Error = cut_none (codes "error") refl
level_solid Fatal = cut_none (codes "fatal") refl

-- words

no_option : {A : Type 0} (o : Option A) → is_none o ≡ true → o ≡ None
no_option None e = refl
no_option (Some x) e = absurd (both_ways true (sym e) refl)

pub is_word_some : (text : Bytes) → is_word text ≡ true → IsWord text
is_word_some text e =
    let tests = and_parts (nat_lt 0 (length text)) (is_none (cut text)) e in
    record { some = ltb-true 0 (length text) tests.0; solid = cut_none text (no_option (cut text) tests.1) }

pub is_word-is : (text : Bytes) → IsWord text → is_word text ≡ true
is_word-is text h =
    and_from (nat_lt 0 (length text)) (is_none (cut text)) (lt-ltb 0 (length text) h.some) (ap is_none (cut-none text h.solid))
