use Rattle.std.proofs.Common.{◌≡◌, ◌∙◌, ap, sym, List, [], ◌∷◌, ◌++◌}
use Rattle.std.specs.Prelude.{reverse}
use Rattle.std.specs.List.{flat_map}
use Rattle.c_base.specs.Queues.{noted, waiting, batch_items, begun_items}
use Rattle.c_base.specs.declared.queue.Batch.{Batch}
use Rattle.c_base.proofs.QueueLemmas.{first_of_reversed, one_more}
use Rattle.c_base.proofs.queue.Queue.keep.Goals as goal

-- the batch comes last
pub returns : goal.returns
returns g c =
    let old = c.args.self.now in
    let batch : Batch g.row.T.Denot g.row.N.Denot = record { first = c.in-Some.first; rest = c.pop.new.self; note = c.args.note } in
    let turned : reverse c.args.items ≡ c.pop.new.self.items ++ c.in-Some.first ∷ [] =
    ap reverse (sym c.into_vec-rest.ensures) ∙ sym c.reverse.ensures.items ∙ c.in-Some.ensures.items in
    ap (λ (later : List (Batch g.row.T.Denot g.row.N.Denot)). begun_items old.begun ++ (flat_map batch_items (reverse old.next.items) ++ flat_map batch_items later)) c.push_reserved.ensures.items
    ∙ one_more (begun_items old.begun) (flat_map batch_items (reverse old.next.items)) old.later.items batch
    ∙ ap (λ (items : List g.row.T.Denot). waiting old ++ noted c.args.note items) (first_of_reversed c.args.items c.pop.new.self.items c.in-Some.first turned)
