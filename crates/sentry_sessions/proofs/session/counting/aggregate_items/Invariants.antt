use Rattle.std.proofs.Common.{◌≡◌, ◌++◌, map}
use Rattle.sentry_sessions.specs.SessionQueues.{aggregate_item}
use Rattle.sentry_sessions.proofs.session.counting.aggregate_items.Given as goal

-- the counts that are left complete the items
abbrev pub invariant-loop-key : goal.invariant-loop-key
invariant-loop-key l = l.items ++ map aggregate_item l.key-iterator ≡ map aggregate_item l.fn.counts.entries
