-- The texts of moments, which are nanoseconds since 1970, and of spans of time.
use Rattle.std.specs.Prelude.{◌≡◌, ℕ, ◌+◌, ◌-◌, ◌*◌, ◌/◌, ◌%◌, ◌^◌, ◌≤◌, ◌==◌, [], ◌∷◌, ◌++◌, length, if◌then◌else◌, decimal}
use Rattle.std.specs.Str.Parse.{AllDigits, IsNumeral, digits_value}
use Rattle.sentry_framing.specs.Json.{Bytes}
use Rattle.sentry_framing.specs.Calendar.{year_of, month_of}

-- a number below 100 in two digits
abbrev pub two : ℕ → Bytes
two n = (48 + n / 10) ∷ (48 + n % 10) ∷ []

-- a number below 1000 in three digits
abbrev pub three : ℕ → Bytes
three n = (48 + n / 100) ∷ two (n % 100)

-- a fraction of so many billionths: a point, and three, six or nine digits, as many as it needs
abbrev pub fraction : ℕ → Bytes
fraction n =
    if n == 0 then []
    else 46 ∷ three (n / 1_000_000)
    ++ (if n % 1_000_000 == 0 then [] else three (n / 1_000 % 1_000)
    ++ (if n % 1_000 == 0 then [] else three (n % 1_000)))

-- nanoseconds as seconds: `1595256674.296`
abbrev pub seconds_text : ℕ → Bytes
seconds_text n = decimal (n / 1_000_000_000) ++ fraction (n % 1_000_000_000)

-- the date of a day: `2020-07-20`
abbrev pub date_text : ℕ → Bytes
date_text day =
    let y = year_of day in
    let m = month_of y.0 y.1 in
    two (y.0 / 100) ++ two (y.0 % 100) ++ 45 ∷ two m.0 ++ 45 ∷ two (m.1 + 1)

-- the time of a day, of so many seconds: `14:51:14`
abbrev pub time_text : ℕ → Bytes
time_text seconds = two (seconds / 3_600) ++ 58 ∷ two (seconds / 60 % 60) ++ 58 ∷ two (seconds % 60)

-- a moment: `2020-07-20T14:51:14.296Z`
abbrev pub moment_text : ℕ → Bytes
moment_text n =
    let seconds = n / 1_000_000_000 in
    date_text (seconds / 86_400) ++ 84 ∷ time_text (seconds % 86_400) ++ fraction (n % 1_000_000_000) ++ 90 ∷ []

-- ---- what the digits denote

-- a point and the digits after it, where there are any
abbrev pub pointed : Bytes → Bytes
pointed [] = []
pointed (d ∷ ds) = 46 ∷ d ∷ ds

-- digits after a point, at most nine, are so many billionths
pub record IsFraction (written : Bytes) (n : ℕ) : Type 0 where
  pub digits : Bytes
  pub text : written ≡ pointed digits
  pub are_digits : AllDigits 10 digits
  pub short : length digits ≤ 9
  pub value : digits_value 10 digits * 10 ^ (9 - length digits) ≡ n

-- a decimal number is so many billionths
pub record IsSeconds (written : Bytes) (n : ℕ) : Type 0 where
  pub whole : Bytes
  pub rest : Bytes
  pub text : written ≡ whole ++ rest
  pub numeral : IsNumeral 10 whole
  pub value : digits_value 10 whole ≡ n / 1_000_000_000
  pub billionths : IsFraction rest (n % 1_000_000_000)
