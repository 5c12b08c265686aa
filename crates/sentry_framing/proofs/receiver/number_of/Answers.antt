use Rattle.std.proofs.Common.{◌≡◌, true, get_or, sym, arith}
use Rattle.std.specs.Char.{is_ascii_digit}
use Rattle.sentry_framing.proofs.Parts.{counted_more}
use Rattle.sentry_framing.proofs.receiver.number_of.Goals as goal

pub loop-digit-preserved : goal.loop-digit-preserved
loop-digit-preserved c =
    let digit : is_ascii_digit (get_or c.args.digits.now c.loop-digit.digit-index 0) ≡ true = sym c.if-not-is_ascii_digit.ensures.value in
    counted_more c.args.digits.now c.loop-digit.digit-index c.loop-digit.n c.saturating_add-n.result c.loop-digit-test.true digit c.loop-digit.invariant
    (omega (arith, c.saturating_add-n.ensures, c.saturating_mul.ensures))
