-- Queues that calls made.
use mathlib.Core.Logic.{∥∥₁_map, ∥∥₁_elim}
use native.Mathlib.Bridge.{le_prop}
use Rattle.std.proofs.Common.{◌≡◌, ◌≤◌, ℕ, List, [], ◌∷◌, Option, sym, subst}
use Rattle.sentry_client_reports.specs.LossWords.{LossPart}
use Rattle.sentry_transport.specs.QueueHistories.{Queue, QueueCall, StandsFor, waiting_count}
use Rattle.sentry_transport.specs.QueueCalls.{IsMadeByCalls, MakesCall}
use Rattle.sentry_transport.proofs.CountLemmas.{waits_within_capacity}

-- a new queue
pub made_new : (room : ℕ) (first : Option LossPart) (queue : Queue) → StandsFor room first [] queue
    → ∥ IsMadeByCalls queue ∥₁
made_new room first queue stands = ∣ record { room = room; first = first; history = []; stands = stands } ∣₁

-- one more call
pub made_after_call : (call : QueueCall) (old new : Queue) → MakesCall call old new → ∥ IsMadeByCalls old ∥₁
    → ∥ IsMadeByCalls new ∥₁
made_after_call call old new makes made =
    ∥∥₁_map made (λ m. record {
      room = m.room;
      first = m.first;
      history = call ∷ m.history;
      stands = makes m.room m.first m.history m.stands;
    })

-- no more wait than the capacity
pub made_within : (queue : Queue) (count : ℕ)
    → ((room : ℕ) (first : Option LossPart) (history : List QueueCall) → StandsFor room first history queue
    → count ≡ waiting_count room history)
    → ∥ IsMadeByCalls queue ∥₁ → count ≤ queue.capacity
made_within queue count counts made =
    ∥∥₁_elim made le_prop (λ m.
    subst (λ n. n ≤ queue.capacity) (sym (counts m.room m.first m.history m.stands))
    (subst (λ n. waiting_count m.room m.history ≤ n) (sym m.stands.capacity) (waits_within_capacity m.room m.history)))
