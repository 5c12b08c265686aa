-- What is asked for, once it is known what waits.
use Rattle.std.proofs.Common.{◌≡◌, refl, sym, subst, ℕ, List, [], ◌∷◌, ◌≤◌, length}
use Rattle.c_base.specs.Outboxes.{View, Waiting, text_of, Copies, Asks}

module _ (waits : List Waiting) (old new : View) (answer : ℕ) where
  pub asks_none : waits ≡ [] → answer ≡ 0 → new ≡ old → Asks waits old new answer
  asks_none is zero same = subst (λ (all : List Waiting). Asks all old new answer) (sym is) (zero, same)

  pub asks_some : (next : Waiting) (rest : List Waiting) → waits ≡ next ∷ rest
      → answer ≡ length (text_of next) → new.client ≡ next.0.0.number → Copies (text_of next) old.room new.room
      → (length (text_of next) ≤ length old.room → new.waits ≡ rest)
      → ((length (text_of next) ≤ length old.room → ⊥) → new.waits ≡ old.waits) → Asks waits old new answer
  asks_some next rest is long client copied taken left =
      subst (λ (all : List Waiting). Asks all old new answer) (sym is) (long, client, copied, taken, left)
