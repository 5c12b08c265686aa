use Rattle.std.proofs.Common.{◌≡◌, []}
use Rattle.std.specs.Slice.Iter.{iter_rest}
use Rattle.sentry_plain.specs.Parts.{joined}
use Rattle.sentry_plain.proofs.text_map.iter.next_of.Given as goal

-- the parts so far are empty
abbrev pub invariant-loop-share : goal.invariant-loop-share
invariant-loop-share g l = record { left : joined (iter_rest l.others) ≡ joined (iter_rest l.initial.others); none : iter_rest l.part ≡ [] }
