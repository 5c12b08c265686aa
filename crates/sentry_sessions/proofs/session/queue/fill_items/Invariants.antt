use Rattle.std.proofs.Common.{◌≡◌, ◌+◌, ◌++◌, map, length}
use Rattle.std.specs.Prelude.{vec_len}
use Rattle.std.specs.Vec.{vec_capacity}
use Rattle.std.specs.Vec.Iter.{into_iter_items}
use Rattle.sentry_base.specs.declared.protocol.envelope.EnvelopeItem.TheVariants as item
use Rattle.sentry_sessions.proofs.session.queue.fill_items.Given as goal

-- the updates that are left complete the items, and there is room for them
abbrev pub invariant-loop-update : goal.invariant-loop-update
invariant-loop-update l = record {
  items : l.items.items ++ map item.SessionUpdate (into_iter_items l.update-iterator)
      ≡ l.fn.items.items ++ map item.SessionUpdate l.fn.updates.items;
  len : vec_len l.items + length (into_iter_items l.update-iterator) ≡ vec_len l.fn.items + length l.fn.updates.items;
  capacity : vec_capacity l.items ≡ vec_capacity l.fn.items;
}
