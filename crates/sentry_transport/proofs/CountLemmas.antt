-- What became of each envelope that was offered to a queue.
use Rattle.std.proofs.Common.{◌≡◌, ◌≤◌, ◌+◌, ◌-◌, ℕ, ltb, not, Bool, true, false, ◌&&◌, List, [], ◌∷◌, ◌++◌, length, refl, ap, ◌∙◌, arith, length-append}
use Rattle.std.proofs.lemmas.Bool.Decides.{nat_tests}
use Rattle.std.specs.Prelude.{if◌then◌else◌}
use Rattle.sentry_base.specs.declared.protocol.envelope.Envelope.{Envelope}
use Rattle.sentry_transport.specs.Limits.{without_limited, leaves_something, kept_of}
use Rattle.sentry_transport.specs.QueueHistories.{QueueCall, offer_call, take_call, limit_call, settle_call, is_limited, waiting_count, kept_envelopes}
use Rattle.sentry_transport.specs.QueueCounts.{offered_count, emptied_count, turned_away_count}

-- an offer is kept, turned away, or leaves nothing
one_fate : (left has_room : Bool) (envelope : Envelope)
    → length (if left && has_room then envelope ∷ [] else [])
    + (if left && not has_room then 1 else 0) + (if left then 0 else 1) ≡ 1
one_fate true true envelope = refl
one_fate true false envelope = refl
one_fate false has_room envelope = refl

one_more : (is_left has_room : Bool) (count capacity : ℕ) → ltb count capacity ≡ has_room → count ≤ capacity
    → count + (if is_left && has_room then 1 else 0) ≤ capacity
one_more true true count capacity e h = grind (arith, nat_tests)
one_more true false count capacity e h = omega arith
one_more false has_room count capacity e h = omega arith

module _ (capacity : ℕ) where
  -- each envelope that was offered was kept, turned away, or had nothing left
  pub offers_add_up : (history : List QueueCall)
      → offered_count history
      ≡ length (kept_envelopes capacity history) + turned_away_count capacity history + emptied_count history
  offers_add_up [] = refl
  offers_add_up (offer_call envelope now ∷ history) =
      let limited = is_limited history now in
      let count = waiting_count capacity history in
      let a = one_fate (leaves_something limited envelope) (ltb count capacity) (without_limited limited envelope) in
      let b = length-append (kept_envelopes capacity history) (kept_of limited capacity count envelope) in
      let r = offers_add_up history in omega arith
  offers_add_up (take_call ∷ history) = offers_add_up history
  offers_add_up (limit_call which until ∷ history) = offers_add_up history
  offers_add_up (settle_call ∷ history) = offers_add_up history

  pub waits_within_capacity : (history : List QueueCall) → waiting_count capacity history ≤ capacity
  waits_within_capacity [] = omega arith
  waits_within_capacity (offer_call envelope now ∷ history) =
      let count = waiting_count capacity history in
      one_more (leaves_something (is_limited history now) envelope) (ltb count capacity) count capacity refl
      (waits_within_capacity history)
  waits_within_capacity (take_call ∷ history) = let r = waits_within_capacity history in omega arith
  waits_within_capacity (limit_call which until ∷ history) = waits_within_capacity history
  waits_within_capacity (settle_call ∷ history) = waits_within_capacity history
