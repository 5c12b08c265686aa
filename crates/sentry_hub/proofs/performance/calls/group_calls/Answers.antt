use Rattle.std.proofs.Common.{◌≡◌, [], ◌∷◌, List, arith, length, refl, rules, subst}
use Rattle.std.specs.Prelude.{◌++◌, map}
use Rattle.std.specs.Vec.Iter.{into_iter_items}
use Rattle.sentry_calls.specs.declared.call.Call.TheVariants as group
use Rattle.sentry_calls.specs.declared.call.spans.records.SpanCall.{SpanCall}
use Rattle.sentry_hub.proofs.Groups.{are_ordinary, grouped_all, grouped_more}
use Rattle.sentry_hub.proofs.performance.calls.group_calls.Goals as goal

no_calls : (calls : List SpanCall) → length calls ≡ 0 → calls ≡ []
no_calls [] none = refl
no_calls (call ∷ calls) none = absurd (omega arith)

pub loop-call-preserved : goal.loop-call-preserved
loop-call-preserved g c =
    let left = into_iter_items c.next.new.self in
    let e : into_iter_items c.loop-call.call-iterator ≡ c.in-Some.call ∷ left = search rules in
    let before : c.loop-call.all.items ++ map group.Span (c.in-Some.call ∷ left) ≡ map group.Span c.args.calls.items =
    subst (λ (l : List SpanCall). c.loop-call.all.items ++ map group.Span l ≡ map group.Span c.args.calls.items) e
    c.loop-call.invariant in
    rw c.in_ok-push.ensures.items (grouped_more c.loop-call.all.items _ c.in-Some.call left before)

pub returns-clause-calls : goal.returns-clause-calls
returns-clause-calls g c =
    let none : into_iter_items c.loop-call.call-iterator ≡ [] = no_calls _ (grind arith) in
    grouped_all c.loop-call.all.items _ _ none c.loop-call.invariant

pub returns-clause-ordinary : goal.returns-clause-ordinary
returns-clause-ordinary g c =
    let none : into_iter_items c.loop-call.call-iterator ≡ [] = no_calls _ (grind arith) in
    rw (grouped_all c.loop-call.all.items _ _ none c.loop-call.invariant) (are_ordinary _ _ c.args.calls.items)
