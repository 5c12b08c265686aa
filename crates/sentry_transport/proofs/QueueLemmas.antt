-- What every history of a queue meets.
use Rattle.std.proofs.Common.{◌≡◌, ◌≤◌, ◌+◌, ◌-◌, ℕ, zero, suc, ltb, Bool, true, false, ◌&&◌, List, [], ◌∷◌, ◌++◌, length, drop, refl, ap, sym, ◌∙◌, arith, append_assoc, length-append}
use Rattle.std.proofs.lemmas.Bool.Decides.{nat_tests}
use Rattle.std.proofs.lemmas.List.{length-drop, drop-drop, drop-append-le, drop_all}
use Rattle.std.specs.Prelude.{if◌then◌else◌, slice_get, option_to_list}
use Rattle.sentry_base.specs.declared.protocol.envelope.Envelope.{Envelope}
use Rattle.sentry_transport.specs.Limits.{without_limited, leaves_something, is_kept, kept_of}
use Rattle.sentry_transport.specs.QueueHistories.{QueueCall, offer_call, take_call, limit_call, settle_call, is_limited, waiting_count, kept_envelopes, queued_envelopes, taken_envelopes}

kept_length : (b : Bool) (left : Envelope) → length (if b then left ∷ [] else []) ≡ (if b then 1 else 0)
kept_length true left = refl
kept_length false left = refl

module _ (capacity : ℕ) where
  pub count_after_offer : (envelope : Envelope) (now : ℕ) (history : List QueueCall)
      → waiting_count capacity (offer_call envelope now ∷ history)
      ≡ waiting_count capacity history + length (kept_of (is_limited history now) capacity (waiting_count capacity history) envelope)
  count_after_offer envelope now history =
      let limited = is_limited history now in
      ap (λ n. waiting_count capacity history + n)
      (sym (kept_length (is_kept limited capacity (waiting_count capacity history) envelope) (without_limited limited envelope)))

  pub waits_at_most_kept : (history : List QueueCall) → waiting_count capacity history ≤ length (kept_envelopes capacity history)
  waits_at_most_kept [] = omega arith
  waits_at_most_kept (offer_call envelope now ∷ history) =
      let kept = kept_of (is_limited history now) capacity (waiting_count capacity history) envelope in
      let a = count_after_offer envelope now history in
      let b = length-append (kept_envelopes capacity history) kept in
      let r = waits_at_most_kept history in omega arith
  waits_at_most_kept (take_call ∷ history) = let r = waits_at_most_kept history in omega arith
  waits_at_most_kept (limit_call which until ∷ history) = waits_at_most_kept history
  waits_at_most_kept (settle_call ∷ history) = waits_at_most_kept history

  pub queue_length : (history : List QueueCall) → length (queued_envelopes capacity history) ≡ waiting_count capacity history
  queue_length history =
      let kept = kept_envelopes capacity history in
      let a = length-drop (length kept - waiting_count capacity history) kept in
      let r = waits_at_most_kept history in omega arith

  kept_within : (left : Bool) (count : ℕ) → count ≤ capacity → count + (if left && ltb count capacity then 1 else 0) ≤ capacity
  kept_within true count h = within (ltb count capacity) count refl h where
    within : (b : Bool) (count : ℕ) → ltb count capacity ≡ b → count ≤ capacity → count + (if b then 1 else 0) ≤ capacity
    within true count e h = grind (arith, nat_tests)
    within false count e h = omega arith
  kept_within false count h = omega arith

  pub waits_at_most_capacity : (history : List QueueCall) → waiting_count capacity history ≤ capacity
  waits_at_most_capacity [] = omega arith
  waits_at_most_capacity (offer_call envelope now ∷ history) =
      kept_within (leaves_something (is_limited history now) envelope) (waiting_count capacity history) (waits_at_most_capacity history)
  waits_at_most_capacity (take_call ∷ history) = let r = waits_at_most_capacity history in omega arith
  waits_at_most_capacity (limit_call which until ∷ history) = waits_at_most_capacity history
  waits_at_most_capacity (settle_call ∷ history) = waits_at_most_capacity history

  pub queue_is_bounded : (history : List QueueCall) → length (queued_envelopes capacity history) ≤ capacity
  queue_is_bounded history = let a = queue_length history in let b = waits_at_most_capacity history in omega arith

  -- an offer puts what it keeps at the end
  pub queue_after_offer : (envelope : Envelope) (now : ℕ) (history : List QueueCall)
      → queued_envelopes capacity (offer_call envelope now ∷ history)
      ≡ queued_envelopes capacity history ++ kept_of (is_limited history now) capacity (waiting_count capacity history) envelope
  queue_after_offer envelope now history =
      let kept = kept_envelopes capacity history in
      let more = kept_of (is_limited history now) capacity (waiting_count capacity history) envelope in
      let count = waiting_count capacity history in
      let a = count_after_offer envelope now history in
      let b = length-append kept more in
      let r = waits_at_most_kept history in
      let same : length (kept ++ more) - waiting_count capacity (offer_call envelope now ∷ history) ≡ length kept - count = omega arith in
      let within : length kept - count ≤ length kept = omega arith in
      ap (λ n. drop n (kept ++ more)) same ∙ drop-append-le (length kept - count) kept more within

  one_less : (kept : List Envelope) (count : ℕ) → count ≤ length kept → drop (length kept - (count - 1)) kept ≡ drop 1 (drop (length kept - count) kept)
  one_less kept zero h =
      let all : length kept ≤ length kept - (zero - 1) = omega arith in
      let gone : length kept ≤ length kept - zero = omega arith in
      drop_all (length kept - (zero - 1)) kept all ∙ sym (ap (λ xs. drop 1 xs) (drop_all (length kept - zero) kept gone))
  one_less kept (suc n) h =
      let next : length kept - (suc n - 1) ≡ (length kept - suc n) + 1 = omega arith in
      ap (λ k. drop k kept) next ∙ sym (drop-drop 1 (length kept - suc n) kept)

  -- a take leaves the rest
  pub queue_after_take : (history : List QueueCall)
      → queued_envelopes capacity (take_call ∷ history) ≡ drop 1 (queued_envelopes capacity history)
  queue_after_take history = one_less (kept_envelopes capacity history) (waiting_count capacity history) (waits_at_most_kept history)

  first_and_rest : (queue : List Envelope) → option_to_list (slice_get queue 0) ++ drop 1 queue ≡ queue
  first_and_rest [] = refl
  first_and_rest (first ∷ rest) = refl

  pub taken_then_queued : (history : List QueueCall) → taken_envelopes capacity history ++ queued_envelopes capacity history ≡ kept_envelopes capacity history
  taken_then_queued [] = refl
  taken_then_queued (offer_call envelope now ∷ history) =
      let more = kept_of (is_limited history now) capacity (waiting_count capacity history) envelope in
      let taken = taken_envelopes capacity history in
      ap (λ queue. taken ++ queue) (queue_after_offer envelope now history)
      ∙ sym (append_assoc taken (queued_envelopes capacity history) more)
      ∙ ap (λ kept. kept ++ more) (taken_then_queued history)
  taken_then_queued (take_call ∷ history) =
      let taken = taken_envelopes capacity history in
      let queue = queued_envelopes capacity history in
      ap (λ rest. (taken ++ option_to_list (slice_get queue 0)) ++ rest) (queue_after_take history)
      ∙ append_assoc taken (option_to_list (slice_get queue 0)) (drop 1 queue)
      ∙ ap (λ rest. taken ++ rest) (first_and_rest queue)
      ∙ taken_then_queued history
  taken_then_queued (limit_call which until ∷ history) = taken_then_queued history
  taken_then_queued (settle_call ∷ history) = taken_then_queued history
