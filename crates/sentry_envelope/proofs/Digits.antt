-- Hexadecimal digits are a text.
use Rattle.std.proofs.Common.{◌≡◌, nat_lt, true, [], ◌∷◌, refl}
use Rattle.std.specs.List.{list_all}
use Rattle.std.specs.Str.{IsAscii, IsUtf8}
use Rattle.std.proofs.lemmas.Bool.{and_parts, ltb-true}
use Rattle.std.proofs.lemmas.Str.{IsUtf8-from_ascii}
use Rattle.std.proofs.lemmas.Str.Ascii.{IsAscii-nil, IsAscii-cons}
use Rattle.hex.specs.Hex.{encode_lower, lower_digits}
use Rattle.hex.proofs.HexLemmas.{IsAscii-encode_with}
use Rattle.sentry_plain.specs.Texts.{Bytes}

ascii_from_test : (bytes : Bytes) → list_all (λ b. nat_lt b 128) bytes ≡ true → IsAscii bytes
ascii_from_test [] h = IsAscii-nil
ascii_from_test (b ∷ bytes) h =
    let p = and_parts _ _ h in
    IsAscii-cons b bytes (ltb-true b 128 p.0) (ascii_from_test bytes p.1)

pub IsUtf8-encode_lower : (bytes : Bytes) → IsUtf8 (encode_lower bytes)
IsUtf8-encode_lower bytes = IsUtf8-from_ascii _ (IsAscii-encode_with lower_digits bytes (ascii_from_test lower_digits refl))
