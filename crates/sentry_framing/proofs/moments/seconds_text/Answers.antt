use Rattle.sentry_framing.proofs.Decimals.{IsNumber-seconds_text}
use Rattle.sentry_framing.proofs.Denoted.{IsSeconds-seconds_text}
use Rattle.sentry_framing.proofs.moments.seconds_text.Goals as goal

pub returns-clause-number : goal.returns-clause-number
returns-clause-number c = IsNumber-seconds_text c.args.nanoseconds c.ranges.nanoseconds.fits

pub returns-clause-denoted : goal.returns-clause-denoted
returns-clause-denoted c = IsSeconds-seconds_text c.args.nanoseconds c.ranges.nanoseconds.fits
