use Rattle.std.proofs.Common.{◌≡◌, ◌∙◌, ap, sym, None, false, rules}
use Rattle.std.specs.List.{flat_map}
use Rattle.c_base.specs.Queues.{batch_items}
use Rattle.c_base.proofs.QueueLemmas.{begins, none_of}
use Rattle.c_base.proofs.queue.Queue.turn.Goals as goal

-- a batch is taken off the next ones
pub returns-clause-same : goal.returns-clause-same
returns-clause-same g c =
    let none : c.args.self.now.begun ≡ None = none_of c.args.self.now.begun (search rules) in
    begins c.refill.new.self.begun c.pop.result c.refill.new.self.next.items c.pop.new.self.items (flat_map batch_items c.refill.new.self.later.items)
    (c.refill.ensures.begun ∙ none) c.pop.ensures.items
    ∙ c.refill.ensures.same
