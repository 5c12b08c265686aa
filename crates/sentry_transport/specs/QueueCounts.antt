-- What became of the envelopes that were offered to a queue, counted.
use Rattle.std.specs.Prelude.{ℕ, ◌+◌, if◌then◌else◌, List, [], ◌∷◌}
use Rattle.sentry_transport.specs.Limits.{leaves_something, is_turned_away}
use Rattle.sentry_transport.specs.QueueHistories.{QueueCall, offer_call, take_call, limit_call, settle_call, is_limited, waiting_count}

-- how many were offered
abbrev pub offered_count : List QueueCall → ℕ
offered_count [] = 0
offered_count (offer_call envelope now ∷ history) = offered_count history + 1
offered_count (take_call ∷ history) = offered_count history
offered_count (limit_call which until ∷ history) = offered_count history
offered_count (settle_call ∷ history) = offered_count history

-- how many had limited items alone, so that nothing was left of them
abbrev pub emptied_count : List QueueCall → ℕ
emptied_count [] = 0
emptied_count (offer_call envelope now ∷ history) =
    emptied_count history + (if leaves_something (is_limited history now) envelope then 0 else 1)
emptied_count (take_call ∷ history) = emptied_count history
emptied_count (limit_call which until ∷ history) = emptied_count history
emptied_count (settle_call ∷ history) = emptied_count history

-- how many the queue had no room for
abbrev pub turned_away_count : ℕ → List QueueCall → ℕ
turned_away_count capacity [] = 0
turned_away_count capacity (offer_call envelope now ∷ history) =
    turned_away_count capacity history
    + (if is_turned_away (is_limited history now) capacity (waiting_count capacity history) envelope then 1 else 0)
turned_away_count capacity (take_call ∷ history) = turned_away_count capacity history
turned_away_count capacity (limit_call which until ∷ history) = turned_away_count capacity history
turned_away_count capacity (settle_call ∷ history) = turned_away_count capacity history
