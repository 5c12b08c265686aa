use Rattle.std.proofs.Common.{◌≡◌}
use Rattle.std.specs.Cmp.Lexicographic.{pointwise}
use Rattle.sentry_plain.specs.Equality.{same_row}
use Rattle.sentry_plain.proofs.table.is_same.Given as goal

-- what is left decides
abbrev pub invariant-loop-number : goal.invariant-loop-number
invariant-loop-number g l =
    pointwise (same_row g.T.PartialEq.eq) l.number-iterator l.other ≡ pointwise (same_row g.T.PartialEq.eq) l.initial.number-iterator l.initial.other
