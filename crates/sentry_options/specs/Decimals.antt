-- Decimals from 0 to 1, in millionths.
use Rattle.std.specs.Prelude.{ℕ, ◌+◌, ◌-◌, ◌*◌, ◌^◌, ◌==◌, ◌&&◌, nat_le, true, false, List, [], ◌∷◌, Option, Some, None, if◌then◌else◌}
use Rattle.sentry_options.specs.declared.decimals.Reading.{Reading}

-- before the first byte
abbrev pub start : Reading
start = record { number = 0; places = 0; has_point = false; has_digits = false }

-- the digits are one number, and behind the point each is a place
abbrev pub with_digit : Reading → ℕ → Reading
with_digit reading digit = record {
  number = reading.number * 10 + digit;
  places = if reading.has_point then reading.places + 1 else reading.places;
  has_point = reading.has_point;
  has_digits = true;
}

abbrev pub with_point : Reading → Option Reading
with_point reading = if reading.has_point then None else Some (record reading { has_point = true })

-- a digit comes after at most five places. What is above a million is above one wherever its point stands
abbrev pub next_reading : Reading → ℕ → Option Reading
next_reading reading byte =
    if byte == 46 then with_point reading
    else if nat_le 48 byte && nat_le byte 57 && nat_le reading.number 1000000 && nat_le reading.places 5
    then Some (with_digit reading (byte - 48))
    else None

-- the number with six places, if it has a digit and is at most one
abbrev pub rate_read : Reading → Option ℕ
rate_read reading =
    if reading.has_digits && nat_le (reading.number * 10 ^ (6 - reading.places)) 1000000
    then Some (reading.number * 10 ^ (6 - reading.places)) else None

-- the same after more bytes
abbrev pub rate_after : Option Reading → List ℕ → Option ℕ
rate_after None bytes = None
rate_after (Some reading) [] = rate_read reading
rate_after (Some reading) (byte ∷ bytes) = rate_after (next_reading reading byte) bytes

-- the rate that a text writes, in millionths
abbrev pub rate_of : List ℕ → Option ℕ
rate_of text = rate_after (Some start) text
