use Rattle.std.proofs.Common.{rules, ◌≡◌, ◌∙◌, ap, [], true}
use Rattle.std.specs.Prelude.{length, reverse, ◌==◌}
use Rattle.c_base.specs.Queues.{begun_items}
use Rattle.c_base.proofs.QueueLemmas.{refilled, empty_of}
use Rattle.c_base.proofs.queue.Queue.refill.Goals as goal

-- the later batches come next
pub returns-clause-same : goal.returns-clause-same
returns-clause-same g c =
    let old = c.args.self.now in
    let none : old.next.items ≡ [] = empty_of old.next.items (search rules) in
    refilled (begun_items old.begun) old.next.items old.later.items c.reverse.new.self.items c.swap.new.y.items none (search rules) (search rules)
