use Rattle.std.proofs.Common.{◌≡◌, ◌-◌, true, length, take}
use Rattle.sentry_framing.specs.Headers.{is_line}
use Rattle.sentry_framing.proofs.receiver.split_line.Given as goal

-- no newline yet
abbrev pub invariant-loop-i : goal.invariant-loop-i
invariant-loop-i l = is_line (take l.i l.text) ≡ true

abbrev pub decreases-loop-i : goal.decreases-loop-i
decreases-loop-i l = length l.text - l.i
