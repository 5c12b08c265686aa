use Rattle.std.proofs.Common.{◌≡◌, ◌+◌, length}
use Rattle.sentry_plain.specs.Tables.{entries_after}
use Rattle.sentry_lock.proofs.Walks.{Leads}
use Rattle.sentry_lock.proofs.locked.Core.drain_each_label.Given as goal

-- what is left to be drained leads to the whole, and is as much as the loop has still to count
abbrev pub invariant-loop : goal.invariant-loop
invariant-loop g l = record {
  tag : l.self.tag ≡ l.initial.self.tag;
  labels : l.self.next_label ≡ l.initial.self.next_label;
  leads : Leads l.initial.self.tag l.last l.initial.self.engine l.self.engine l.initial.self.drainers l.self.drainers;
  left : length (entries_after l.last l.self.drainers) + l.counter ≡ length l.initial.self.drainers;
}
