-- What waits in a queue.
use Rattle.std.specs.Prelude.{◌≡◌, Option, Some, None, [], ◌∷◌, ◌++◌, List, map, reverse}
use Rattle.std.specs.List.{flat_map}
use Rattle.c_base.specs.declared.queue.Batch.{Batch}
use Rattle.c_base.specs.declared.queue.Queue.{Queue}

module _ {T N : Type 0} where
  -- items with one note
  abbrev pub noted : N → List T → List (T × N)
  noted note items = map (λ item. (item, note)) items

  abbrev pub batch_items : Batch T N → List (T × N)
  batch_items batch = noted batch.note (batch.first ∷ reverse batch.rest.items)

  -- the items of the batch that is begun, if one is, with its note
  abbrev pub begun_items : Option (Batch T N) → List (T × N)
  begun_items None = []
  begun_items (Some batch) = batch_items batch

  -- the items of a queue with their notes, the one to be taken next first
  abbrev pub waiting : Queue T N → List (T × N)
  waiting queue =
      begun_items queue.begun
      ++ (flat_map batch_items (reverse queue.next.items) ++ flat_map batch_items queue.later.items)

  -- if anything waits, then a batch is begun
  abbrev pub IsTurned : Queue T N → Type 0
  IsTurned queue = queue.begun ≡ None → waiting queue ≡ []
