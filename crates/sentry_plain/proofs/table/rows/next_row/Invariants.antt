use Rattle.std.proofs.Common.{◌≡◌, [], take}
use Rattle.sentry_plain.specs.Rows.{live_rows}
use Rattle.sentry_plain.specs.Tables.{entries_after}
use Rattle.sentry_plain.proofs.table.rows.next_row.Given as goal

-- the rows so far have no value above the number
abbrev pub invariant-loop-place : goal.invariant-loop-place
invariant-loop-place g l = entries_after l.after (live_rows (take l.place l.rows)) ≡ []
