use Rattle.std.proofs.Common.{◌≡◌, IsUtf8, sym, subst}
use Rattle.hex.specs.Hex.{encode_lower}
use Rattle.sentry_envelope.proofs.Digits.{IsUtf8-encode_lower}
use Rattle.sentry_envelope.proofs.ids.put_digits.Goals as goal

pub unreachable-requires : goal.unreachable-requires
unreachable-requires c =
    let written : c.encode_to_slice.new.output ≡ encode_lower c.args.bytes.now = c.in-Ok.ensures.written in
    c.in-Err-from_utf8.ensures.cases.0 (subst IsUtf8 (sym written) (IsUtf8-encode_lower c.args.bytes.now))
