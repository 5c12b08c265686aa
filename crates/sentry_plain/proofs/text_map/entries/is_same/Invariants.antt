use Rattle.std.proofs.Common.{◌≡◌}
use Rattle.std.specs.Cmp.Lexicographic.{pointwise}
use Rattle.sentry_plain.specs.Equality.{same_entry}
use Rattle.sentry_plain.proofs.text_map.entries.is_same.Given as goal

-- what is left decides
abbrev pub invariant-loop-key : goal.invariant-loop-key
invariant-loop-key g l =
    pointwise (same_entry g.V.PartialEq.eq) l.key-iterator l.other ≡ pointwise (same_entry g.V.PartialEq.eq) l.initial.key-iterator l.initial.other
