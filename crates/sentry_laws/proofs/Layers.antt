-- What each layer of a stack is, after a change of the stack.
use Rattle.std.proofs.Common.{List, [], ◌∷◌, ◌++◌}
use Rattle.std.specs.List.{AllByRecursion}
use Rattle.sentry_scope.specs.declared.scope.stack.Stack.{Stack}
use Rattle.sentry_scope.specs.declared.scope.stack.StackLayer.{StackLayer}
use Rattle.sentry_scope.specs.Stacks.{pop, stack_of, stack_of_any}

module _ {P : Type 0} where
  -- each layer of the stack is so
  abbrev pub AllLayers : (StackLayer P → Type 0) → Stack P → Type 0
  AllLayers IsSo stack = AllByRecursion IsSo (stack.top ∷ stack.below)

  pub all_map : (IsSo Then : StackLayer P → Type 0) → ((layer : StackLayer P) → IsSo layer → Then layer)
      → (layers : List (StackLayer P)) → AllByRecursion IsSo layers → AllByRecursion Then layers
  all_map IsSo Then f [] h = tt
  all_map IsSo Then f (layer ∷ rest) h = (f layer h.0, all_map IsSo Then f rest h.1)

  module _ (IsSo : StackLayer P → Type 0) where
    all_append : (layers : List (StackLayer P)) (layer : StackLayer P) → AllByRecursion IsSo layers → IsSo layer
        → AllByRecursion IsSo (layers ++ layer ∷ [])
    all_append [] layer h k = (k, tt)
    all_append (first ∷ rest) layer h k = (h.0, all_append rest layer h.1 k)

    stack_of_all : (lowest : StackLayer P) (above : List (StackLayer P)) → AllByRecursion IsSo (lowest ∷ above)
        → AllLayers IsSo (stack_of lowest above)
    stack_of_all lowest [] h = h
    stack_of_all lowest (layer ∷ above) h = let r = stack_of_all layer above h.1 in (r.0, (h.0, r.1))

    any_all : (below : List (StackLayer P)) (stack : Stack P) → AllByRecursion IsSo below → AllLayers IsSo stack
        → AllLayers IsSo (stack_of_any below stack)
    any_all [] stack h k = k
    any_all (lowest ∷ above) stack h k = stack_of_all lowest above h

    -- a push copies the top layer
    pub all_pushed : (stack : Stack P) → AllLayers IsSo stack → AllByRecursion IsSo (stack.below ++ stack.top ∷ [])
    all_pushed stack h = all_append stack.below stack.top h.1 h.0

    pub all_popped : (stack : Stack P) → AllLayers IsSo stack → AllLayers IsSo (pop stack)
    unfolding pop
    all_popped stack h = any_all stack.below stack h.1 h
