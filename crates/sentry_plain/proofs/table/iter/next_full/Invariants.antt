use Rattle.std.proofs.Common.{◌≡◌}
use Rattle.std.specs.Slice.Iter.{iter_rest}
use Rattle.sentry_plain.specs.Rows.{live_rows}
use Rattle.sentry_plain.proofs.table.iter.next_full.Given as goal

-- the rows so far have no value
abbrev pub invariant-loop-row : goal.invariant-loop-row
invariant-loop-row g l = live_rows (iter_rest l.rows) ≡ live_rows (iter_rest l.initial.rows)
