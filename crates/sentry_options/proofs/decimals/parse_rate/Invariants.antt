use Rattle.std.proofs.Common.{◌≡◌, drop}
use Rattle.std.specs.Prelude.{Some}
use Rattle.sentry_options.specs.Decimals.{rate_after, rate_of}
use Rattle.sentry_options.proofs.decimals.parse_rate.Given as goal

-- the bytes that are left lead to the whole
abbrev pub invariant-loop-byte : goal.invariant-loop-byte
invariant-loop-byte l = rate_after (Some l.reading) (drop l.byte-index l.byte-items) ≡ rate_of l.byte-items
