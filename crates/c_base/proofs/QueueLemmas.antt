-- What a queue holds after a step.
use Rattle.std.proofs.lemmas.Bool.Decides.{nat_tests}
use Rattle.std.proofs.Common.{arith, ◌≡◌, ◌∙◌, refl, ap, sym, ℕ, List, [], ◌∷◌, ◌++◌, drop, append_assoc}
use Rattle.std.specs.Prelude.{reverse, length, Option, Some, None, is_some, true, false, ◌==◌}
use Rattle.std.specs.Option.{option_to_list}
use Rattle.std.specs.List.{flat_map}
use Rattle.std.proofs.lemmas.List.{append-nil, reverse-append, reverse-reverse}
use Rattle.std.proofs.lemmas.List.Concat.{flat_map-append}
use Rattle.c_base.specs.declared.queue.Batch.{Batch}
use Rattle.c_base.specs.Queues.{batch_items, begun_items}

module _ {T : Type 0} where
  -- the last item of a reversed list is the first one
  pub first_of_reversed : (items rest : List T) (first : T) → reverse items ≡ rest ++ first ∷ [] → first ∷ reverse rest ≡ items
  first_of_reversed items rest first is =
      sym (reverse-append rest (first ∷ [])) ∙ ap reverse (sym is) ∙ reverse-reverse items

module _ {T N : Type 0} where
  -- a batch comes after all that waits
  pub one_more : (begun next : List (T × N)) (later : List (Batch T N)) (batch : Batch T N)
      → begun ++ (next ++ flat_map batch_items (later ++ batch ∷ [])) ≡ (begun ++ (next ++ flat_map batch_items later)) ++ batch_items batch
  one_more begun next later batch =
      ap (λ rest. begun ++ (next ++ rest)) (flat_map-append batch_items later (batch ∷ []) ∙ ap (λ rest. flat_map batch_items later ++ rest) (append-nil (batch_items batch)))
      ∙ ap (λ rest. begun ++ rest) (sym (append_assoc next (flat_map batch_items later) (batch_items batch)))
      ∙ sym (append_assoc begun (next ++ flat_map batch_items later) (batch_items batch))

  -- the next batch is begun
  pub one_less : (next : List (Batch T N)) (batch : Batch T N) (later : List (T × N))
      → batch_items batch ++ (flat_map batch_items (reverse next) ++ later) ≡ flat_map batch_items (reverse (next ++ batch ∷ [])) ++ later
  one_less next batch later =
      sym (append_assoc (batch_items batch) (flat_map batch_items (reverse next)) later)
      ∙ ap (λ batches. flat_map batch_items batches ++ later) (sym (reverse-append next (batch ∷ [])))

  -- the later batches come next
  pub refilled : (begun : List (T × N)) (next later next_after later_after : List (Batch T N)) → next ≡ [] → next_after ≡ reverse later
      → later_after ≡ [] → begun ++ (flat_map batch_items (reverse next_after) ++ flat_map batch_items later_after)
      ≡ begun ++ (flat_map batch_items (reverse next) ++ flat_map batch_items later)
  refilled begun next later next_after later_after none turned left =
      ap (λ (batches : List (Batch T N)). begun ++ (flat_map batch_items (reverse batches) ++ flat_map batch_items later_after)) turned
      ∙ ap (λ (batches : List (Batch T N)). begun ++ (flat_map batch_items (reverse (reverse later)) ++ flat_map batch_items batches)) left
      ∙ ap (λ (items : List (T × N)). begun ++ items) (append-nil (flat_map batch_items (reverse (reverse later))))
      ∙ ap (λ (batches : List (Batch T N)). begun ++ flat_map batch_items batches) (reverse-reverse later)
      ∙ ap (λ (batches : List (Batch T N)). begun ++ (flat_map batch_items (reverse batches) ++ flat_map batch_items later)) (sym none)

  -- a batch is taken off the next ones, and begun
  pub begins : (begun result : Option (Batch T N)) (next next_after : List (Batch T N)) (later : List (T × N)) → begun ≡ None
      → next ≡ next_after ++ option_to_list result
      → begun_items result ++ (flat_map batch_items (reverse next_after) ++ later)
      ≡ begun_items begun ++ (flat_map batch_items (reverse next) ++ later)
  begins begun None next next_after later none popped =
      ap (λ (batches : List (Batch T N)). flat_map batch_items (reverse batches) ++ later) (sym (append-nil next_after) ∙ sym popped)
      ∙ ap (λ (some : Option (Batch T N)). begun_items some ++ (flat_map batch_items (reverse next) ++ later)) (sym none)
  begins begun (Some batch) next next_after later none popped =
      one_less next_after batch later
      ∙ ap (λ (batches : List (Batch T N)). flat_map batch_items (reverse batches) ++ later) (sym popped)
      ∙ ap (λ (some : Option (Batch T N)). begun_items some ++ (flat_map batch_items (reverse next) ++ later)) (sym none)

pub none_of : {X : Type 0} (some : Option X) → is_some some ≡ false → some ≡ None
none_of None is = refl
none_of (Some x) is = absurd cc

pub empty_of : {X : Type 0} (xs : List X) → (length xs == 0) ≡ true → xs ≡ []
empty_of [] is = refl
empty_of (x ∷ xs) is = absurd (grind (arith, nat_tests))
