-- Calls on transactions and spans, as calls of their group.
use Rattle.std.proofs.Common.{◌≡◌, ◌∙◌, append_assoc, append-nil, refl, sym, subst}
use Rattle.std.specs.Prelude.{List, [], ◌∷◌, ◌++◌, true, map}
use Rattle.std.specs.List.{list_all}
use Rattle.sentry_calls.specs.declared.call.Call.{Call}
use Rattle.sentry_calls.specs.declared.call.Call.TheVariants as group
use Rattle.sentry_calls.specs.declared.call.spans.records.SpanCall.{SpanCall}
use Rattle.sentry_lock.specs.ValueCalls.{is_ordinary_call}

module _ {P C : Type 0} where
  -- the first of those that are left comes to the end of the list
  pub grouped_more : (all whole : List (Call P C)) (call : SpanCall) (left : List SpanCall)
      → all ++ map group.Span (call ∷ left) ≡ whole → (all ++ group.Span call ∷ []) ++ map group.Span left ≡ whole
  grouped_more all whole call left is = append_assoc all (group.Span call ∷ []) (map group.Span left) ∙ is

  -- none is left
  pub grouped_all : (all whole : List (Call P C)) (left : List SpanCall) → left ≡ []
      → all ++ map group.Span left ≡ whole → all ≡ whole
  grouped_all all whole left none is =
      sym (append-nil all) ∙ subst (λ (l : List SpanCall). all ++ map group.Span l ≡ whole) none is

pub are_ordinary : (P C : Type 0) (calls : List SpanCall)
    → list_all (is_ordinary_call {P = P} {C = C}) (map group.Span calls) ≡ true
are_ordinary P C [] = refl
are_ordinary P C (call ∷ calls) = are_ordinary P C calls
