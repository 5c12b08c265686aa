use Rattle.std.proofs.Common.{◌≡◌, ◌+◌, ◌≤◌, true, length, vec_len}
use Rattle.std.specs.List.{list_all}
use Rattle.std.specs.Vec.{vec_capacity}
use Rattle.std.specs.Vec.Iter.{into_iter_items}
use Rattle.sentry_lock.specs.ValueCalls.{is_ordinary_call}
use Rattle.sentry_lock.proofs.CallLists.{Leads}
use Rattle.sentry_lock.proofs.locked.Core.apply_all.Given as goal

-- the calls that are left are ordinary, lead to the whole, and have room for what they hand out and let go
abbrev pub invariant-loop-call : goal.invariant-loop-call
invariant-loop-call g l = record {
  ordinary : list_all is_ordinary_call (into_iter_items l.call-iterator) ≡ true;
  room : vec_len l.all + length (into_iter_items l.call-iterator) ≤ vec_capacity l.all;
  room_beside : vec_len l.let_go + length (into_iter_items l.call-iterator) ≤ vec_capacity l.let_go;
  labels : l.self.next_label ≡ l.initial.self.next_label;
  leads : Leads _ g.P.EventCallback.gives g.C.Callbacks.meanings l.fn.calls.items l.initial.self l.self (into_iter_items l.call-iterator);
}
