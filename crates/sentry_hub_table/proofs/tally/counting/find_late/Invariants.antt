use Rattle.std.proofs.Common.{◌≡◌, take}
use Rattle.std.specs.Prelude.{count_by}
use Rattle.sentry_hub_table.specs.Tallies.{is_key}
use Rattle.sentry_hub_table.proofs.tally.counting.find_late.Given as goal

-- the key does not stand among those so far
abbrev pub invariant-loop-i : goal.invariant-loop-i
invariant-loop-i l = count_by (is_key l.key) (take l.i l.late) ≡ 0
