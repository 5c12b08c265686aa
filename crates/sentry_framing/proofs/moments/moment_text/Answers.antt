use Rattle.std.proofs.Common.{◌%◌, ◌<◌, arith}
use Rattle.sentry_framing.proofs.Denoted.{IsFraction-fraction}
use Rattle.sentry_framing.proofs.moments.moment_text.Goals as goal

pub returns-clause-fraction : goal.returns-clause-fraction
returns-clause-fraction c =
    let small : c.args.nanoseconds % 1_000_000_000 < 1_000_000_000 = omega arith in
    IsFraction-fraction (c.args.nanoseconds % 1_000_000_000) small
