use Rattle.std.proofs.Common.{◌≡◌, ◌∷◌, rules, arith}
use Rattle.std.specs.Vec.Iter.{into_iter_items}
use Rattle.sentry_lock.proofs.CallLists.{leads_on, leads_refused}
use Rattle.sentry_lock.proofs.locked.Core.apply_all.Goals as goal

pub loop-call-preserved : goal.loop-call-preserved
loop-call-preserved g c =
    let loop = c.loop-call in
    let left = into_iter_items c.next.new.self in
    let e : into_iter_items loop.call-iterator ≡ c.in-Some.call ∷ left = search rules in
    let did = c.in-Ok.ensures.done in
    record {
      ordinary = search rules;
      room = grind (arith, c.push_reserved-in-Ok.ensures.len, c.push_reserved-in-Ok.ensures.capacity, loop.invariant.room, e);
      room_beside = grind (arith, c.push_reserved.ensures.len, c.push_reserved.ensures.capacity, loop.invariant.room_beside, e);
      labels = search rules;
      leads =
          leads_on _ g.P.EventCallback.gives g.C.Callbacks.meanings c.args.calls.items c.args.self.now loop.self
          c.drain_and_apply.new.self c.in-Some.call _ left e loop.invariant.leads
          (c.in-Ok.handed.out, did.0, did.1, did.2, did.3, did.4);
    }

pub returns-in-Err-clause-refused : goal.returns-in-Err-clause-refused
returns-in-Err-clause-refused g c =
    let loop = c.loop-call in
    let left = into_iter_items c.next.new.self in
    let e : into_iter_items loop.call-iterator ≡ c.in-Some.call ∷ left = search rules in
    leads_refused _ g.P.EventCallback.gives g.C.Callbacks.meanings c.args.calls.items c.args.self.now loop.self
    c.in-Some.call _ left c.in-Err.refusal e loop.invariant.leads c.in-Err.ensures.refusal
