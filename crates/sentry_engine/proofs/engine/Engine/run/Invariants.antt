use Rattle.std.proofs.Common.{◌+◌, ◌≤◌, length, vec_len}
use Rattle.std.specs.Vec.{vec_capacity}
use Rattle.std.specs.Vec.Iter.{into_iter_items}
use Rattle.sentry_state.specs.Worlds.{first_world}
use Rattle.sentry_engine.proofs.RunLemmas.{Reaches}
use Rattle.sentry_engine.proofs.engine.Engine.run.Given as goal

-- the calls that are left complete the run, and there is room for their answers
abbrev pub invariant-loop-call : goal.invariant-loop-call
invariant-loop-call g l = record {
  reaches :
      Reaches g.P.EventCallback.gives g.C.Callbacks.meanings (first_world l.fn.tag) l.fn.calls.items l.engine l.answers.items (into_iter_items l.call-iterator);
  room : vec_len l.answers + length (into_iter_items l.call-iterator) ≤ vec_capacity l.answers;
}
