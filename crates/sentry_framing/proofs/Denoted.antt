-- The digits of seconds and of a fraction are the number that they were made from.
use Rattle.std.proofs.Common.{◌≡◌, ℕ, ◌+◌, ◌-◌, ◌*◌, ◌/◌, ◌%◌, ◌^◌, ◌<◌, ◌==◌, inl, inr, [], ◌∷◌, ◌++◌, length, decimal, refl, sym, ap, ◌∙◌, arith}
use Rattle.std.proofs.lemmas.Bool.{cases_Bool, eqb-true}
use Rattle.std.proofs.lemmas.Fmt.{decimal_is_IsNumeral}
use Rattle.std.proofs.lemmas.Str.{digit_value_digit}
use Rattle.std.specs.Char.{digit_value}
use Rattle.std.specs.Str.Parse.{AllDigits, digits_value, digits_value_after}
use Rattle.sentry_framing.specs.Json.{Bytes}
use Rattle.sentry_framing.specs.Moments.{three, fraction, seconds_text, IsFraction, IsSeconds}

digit_is : (d : ℕ) → d < 10 → digit_value (48 + d) ≡ d
digit_is d h =
    let same : digit_value (48 + d) + 48 ≡ 48 + d = digit_value_digit (48 + d) (omega arith, omega arith) in
    omega arith

-- three digits, and then others
three_then : (a n : ℕ) (rest : Bytes) → a < 1000 → digits_value_after 10 n (three a ++ rest) ≡ digits_value_after 10 (n * 1000 + a) rest
three_then a n rest h =
    let x : digit_value (48 + a / 100) ≡ a / 100 = digit_is (a / 100) (omega arith) in
    let y : digit_value (48 + a % 100 / 10) ≡ a % 100 / 10 = digit_is (a % 100 / 10) (omega arith) in
    let z : digit_value (48 + a % 100 % 10) ≡ a % 100 % 10 = digit_is (a % 100 % 10) (omega arith) in
    let is : ((n * 10 + digit_value (48 + a / 100)) * 10 + digit_value (48 + a % 100 / 10)) * 10 + digit_value (48 + a % 100 % 10) ≡ n * 1000 + a = omega arith in
    ap (λ (k : ℕ). digits_value_after 10 k rest) is

three_first : (a : ℕ) (rest : Bytes) → a < 1000 → digits_value_after 10 0 (three a ++ rest) ≡ digits_value_after 10 a rest
three_first a rest h =
    let is : 0 * 1000 + a ≡ a = omega arith in
    three_then a 0 rest h ∙ ap (λ (k : ℕ). digits_value_after 10 k rest) is

three_digits : (a : ℕ) (rest : Bytes) → a < 1000 → AllDigits 10 rest → AllDigits 10 (three a ++ rest)
three_digits a rest h more =
    let x : digit_value (48 + a / 100) ≡ a / 100 = digit_is (a / 100) (omega arith) in
    let y : digit_value (48 + a % 100 / 10) ≡ a % 100 / 10 = digit_is (a % 100 / 10) (omega arith) in
    let z : digit_value (48 + a % 100 % 10) ≡ a % 100 % 10 = digit_is (a % 100 % 10) (omega arith) in
    (omega arith, (omega arith, (omega arith, more)))

-- how much the last digit of a fraction is
power : (digits : Bytes) (n k : ℕ) → length digits ≡ n → 9 - n ≡ k → 10 ^ (9 - length digits) ≡ 10 ^ k
power digits n k e f = ap (λ (l : ℕ). 10 ^ (9 - l)) e ∙ ap (λ (l : ℕ). 10 ^ l) f

-- the digits of a fraction
none : (m : ℕ) → m ≡ 0 → IsFraction [] m
none m e = record { digits = []; text = refl; are_digits = tt; short = omega arith; value = sym e }

milli : (m : ℕ) → m < 1_000_000_000 → m % 1_000_000 ≡ 0 → IsFraction (46 ∷ (three (m / 1_000_000) ++ [])) m
milli m small e =
    let a = m / 1_000_000 in
    let v : digits_value_after 10 0 (three a ++ []) ≡ a = three_first a [] (omega arith) in
    record {
      digits = three a ++ [];
      text = refl;
      are_digits = three_digits a [] (omega arith) tt;
      short = omega arith;
      value = ap (λ (k : ℕ). digits_value 10 (three a ++ []) * k) (power (three a ++ []) 3 6 refl refl) ∙ omega (arith, v);
    }

micro : (m : ℕ) → m < 1_000_000_000 → m % 1_000 ≡ 0 → IsFraction (46 ∷ (three (m / 1_000_000) ++ (three (m / 1_000 % 1_000) ++ []))) m
micro m small e =
    let a = m / 1_000_000 in
    let b = m / 1_000 % 1_000 in
    let v : digits_value_after 10 0 (three a ++ (three b ++ [])) ≡ a * 1000 + b =
    three_first a (three b ++ []) (omega arith) ∙ three_then b a [] (omega arith) in
    record {
      digits = three a ++ (three b ++ []);
      text = refl;
      are_digits = three_digits a (three b ++ []) (omega arith) (three_digits b [] (omega arith) tt);
      short = omega arith;
      value = ap (λ (k : ℕ). digits_value 10 (three a ++ (three b ++ [])) * k) (power (three a ++ (three b ++ [])) 6 3 refl refl) ∙ omega (arith, v);
    }

nano : (m : ℕ) → m < 1_000_000_000 → IsFraction (46 ∷ (three (m / 1_000_000) ++ (three (m / 1_000 % 1_000) ++ three (m % 1_000)))) m
nano m small =
    let a = m / 1_000_000 in
    let b = m / 1_000 % 1_000 in
    let c = m % 1_000 in
    let v : digits_value_after 10 0 (three a ++ (three b ++ three c)) ≡ (a * 1000 + b) * 1000 + c =
    three_first a (three b ++ three c) (omega arith) ∙ three_then b a (three c) (omega arith) ∙ three_then c (a * 1000 + b) [] (omega arith) in
    record {
      digits = three a ++ (three b ++ three c);
      text = refl;
      are_digits = three_digits a (three b ++ three c) (omega arith) (three_digits b (three c) (omega arith) (three_digits c [] (omega arith) tt));
      short = omega arith;
      value = ap (λ (k : ℕ). digits_value 10 (three a ++ (three b ++ three c)) * k) (power (three a ++ (three b ++ three c)) 9 0 refl refl) ∙ omega (arith, v);
    }

pub IsFraction-fraction : (m : ℕ) → m < 1_000_000_000 → IsFraction (fraction m) m
IsFraction-fraction m small = elim (cases_Bool (m == 0)) [
  | inl e ↦ rw e (none m (eqb-true _ _ e))
  | inr e ↦ rw e (elim (cases_Bool (m % 1_000_000 == 0)) [
    | inl f ↦ rw f (milli m small (eqb-true _ _ f))
    | inr f ↦ rw f (elim (cases_Bool (m % 1_000 == 0)) [
      | inl g ↦ rw g (micro m small (eqb-true _ _ g))
      | inr g ↦ rw g (nano m small)
    ])
  ])
]

pub IsSeconds-seconds_text : (n : ℕ) → n < 2 ^ 64 → IsSeconds (seconds_text n) n
IsSeconds-seconds_text n small =
    let numeral = decimal_is_IsNumeral (n / 1_000_000_000) (omega arith) in
    record {
      whole = decimal (n / 1_000_000_000);
      rest = fraction (n % 1_000_000_000);
      text = refl;
      numeral = numeral.0;
      value = numeral.1;
      billionths = IsFraction-fraction (n % 1_000_000_000) (omega arith);
    }
