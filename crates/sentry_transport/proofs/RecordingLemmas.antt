-- A recorder that records one list of losses after another, and a queue after each call.
use Rattle.std.proofs.Common.{◌≡◌, ◌<◌, ◌≤◌, ℕ, ltb, max, Bool, true, false, not, ◌&&◌, ◌||◌, cond, Option, None, Some, List, [], ◌∷◌, ◌++◌, length, map, drop, replicate, refl, ap, ap₂, sym, ◌∙◌, arith, append_assoc, append-nil, ⊎_elim}
use mathlib.Core.Path.{fun_ext}
use native.Mathlib.Nat.{max-eq_left, max-eq_right, le_of_lt}
use Rattle.std.proofs.lemmas.Bool.{or_right}
use Rattle.std.proofs.lemmas.Bool.Decides.{nat_tests, leb_tells}
use Rattle.std.specs.Prelude.{◌==◌, if◌then◌else◌, option_map, slice_index}
use Rattle.sentry_base.specs.declared.protocol.envelope.Envelope.{Envelope}
use Rattle.sentry_base.specs.declared.protocol.envelope.EnvelopeItem.{EnvelopeItem}
use Rattle.sentry_base.specs.declared.protocol.losses.Category.{Category}
use Rattle.sentry_base.specs.declared.protocol.losses.Reason.TheVariants.{RatelimitBackoff, QueueOverflow}
use Rattle.sentry_base.specs.RecordLosses.{item_losses, envelope_losses}
use Rattle.sentry_base.specs.Losses.{category_index}
use Rattle.sentry_client_reports.specs.LossWords.{LossPart, steps_to_record}
use Rattle.sentry_transport.specs.Limits.{is_item_limited, has_limited, limited_items, other_items, without_limited, leaves_something, is_lost, kept_of, losses_of}
use Rattle.sentry_transport.specs.QueueHistories.{QueueCall, offer_call, take_call, limit_call, settle_call, acts_on, is_limited, is_limited_by, waiting_count, queue_losses, has_lost, is_settled, steps_to_record_each, recorder_after, Queue, StandsFor}
use Rattle.sentry_transport.specs.QueueSteps.{after_offer, after_recording_limited, after_enqueue, AreLimited}
use Rattle.sentry_transport.proofs.LimitLemmas.{none_below, none_limited}
use Rattle.sentry_transport.proofs.QueueLemmas.{queue_length, queue_after_offer, queue_after_take}

steps_of_both : (some more : List (List ℕ)) → steps_to_record_each (some ++ more) ≡ steps_to_record_each some ++ steps_to_record_each more
steps_of_both [] more = refl
steps_of_both (losses ∷ some) more =
    ap (λ steps. steps_to_record losses ++ steps) (steps_of_both some more)
    ∙ sym (append_assoc (steps_to_record losses) (steps_to_record_each some) (steps_to_record_each more))

-- one list of losses after another
pub recorder_after_both : (some more : List (List ℕ)) (recorder : LossPart)
    → recorder_after more (recorder_after some recorder) ≡ recorder_after (some ++ more) recorder
recorder_after_both some more recorder =
    ap (λ steps. record recorder { steps = steps })
    (append_assoc recorder.steps (steps_to_record_each some) (steps_to_record_each more)
    ∙ ap (λ steps. recorder.steps ++ steps) (sym (steps_of_both some more)))

pub recorded_both : (some more : List (List ℕ)) (recorder : Option LossPart)
    → option_map (recorder_after more) (option_map (recorder_after some) recorder) ≡ option_map (recorder_after (some ++ more)) recorder
recorded_both some more None = refl
recorded_both some more (Some recorder) = ap Some (recorder_after_both some more recorder)

recorded_none : (recorder : Option LossPart) → option_map (recorder_after []) recorder ≡ recorder
recorded_none None = refl
recorded_none (Some recorder) = ap (λ steps. Some (record recorder { steps = steps })) (append-nil recorder.steps)

-- the rest of the items after the first
limited_first : (limited : Category → Bool) (first : EnvelopeItem) (rest : List EnvelopeItem)
    → limited_items limited (first ∷ []) ++ limited_items limited rest ≡ limited_items limited (first ∷ rest)
limited_first limited first rest = by (is_item_limited limited first) where
  by : (b : Bool) → cond b (first ∷ []) [] ++ limited_items limited rest ≡ cond b (first ∷ limited_items limited rest) (limited_items limited rest)
  by true = refl
  by false = refl

map_both : (f : EnvelopeItem → List ℕ) (some more : List EnvelopeItem) → map f (some ++ more) ≡ map f some ++ map f more
map_both f [] more = refl
map_both f (x ∷ some) more = ap (λ xs. f x ∷ xs) (map_both f some more)

-- a recorder that records the first item, and then the rest
pub recorded_first : (limited : Category → Bool) (first : EnvelopeItem) (rest : List EnvelopeItem) (recorder : LossPart)
    → recorder_after (map (item_losses RatelimitBackoff) (limited_items limited rest))
    (recorder_after (map (item_losses RatelimitBackoff) (limited_items limited (first ∷ []))) recorder)
    ≡ recorder_after (map (item_losses RatelimitBackoff) (limited_items limited (first ∷ rest))) recorder
recorded_first limited first rest recorder =
    let losses = item_losses RatelimitBackoff in
    let one = limited_items limited (first ∷ []) in
    let others = limited_items limited rest in
    recorder_after_both (map losses one) (map losses others) recorder
    ∙ ap (λ each. recorder_after each recorder) (sym (map_both losses one others) ∙ ap (map losses) (limited_first limited first rest))

-- an offer is its two steps
pub offered : (leaves waits some : Bool) (queue : Queue) (out : List (List ℕ)) (left : Envelope) (lost : List ℕ)
    → (if leaves
    then (if waits
    then record queue {
      envelopes = queue.envelopes ++ left ∷ [];
      recorder = option_map (recorder_after out) queue.recorder;
      has_lost = some || queue.has_lost;
    }
    else record queue {
      recorder = option_map (recorder_after (lost ∷ [])) (option_map (recorder_after out) queue.recorder);
      has_lost = true;
    })
    else record queue { recorder = option_map (recorder_after out) queue.recorder; has_lost = some || queue.has_lost })
    ≡ record queue {
      envelopes = queue.envelopes ++ (if leaves && waits then left ∷ [] else []);
      recorder = option_map (recorder_after (out ++ (if leaves && not waits then lost ∷ [] else []))) queue.recorder;
      has_lost = ((leaves && not waits) || some) || queue.has_lost;
    }
offered true true some queue out left lost =
    ap (λ losses. record queue {
      envelopes = queue.envelopes ++ left ∷ [];
      recorder = option_map (recorder_after losses) queue.recorder;
      has_lost = some || queue.has_lost;
    }) (sym (append-nil out))
offered true false some queue out left lost =
    ap₂ (λ envelopes recorder. record queue { envelopes = envelopes; recorder = recorder; has_lost = true })
    (sym (append-nil queue.envelopes)) (recorded_both out (lost ∷ []) queue.recorder)
offered false waits some queue out left lost =
    ap₂ (λ envelopes losses. record queue {
      envelopes = envelopes;
      recorder = option_map (recorder_after losses) queue.recorder;
      has_lost = some || queue.has_lost;
    }) (sym (append-nil queue.envelopes)) (sym (append-nil out))

pub leaves_if_empty : (limited : Category → Bool) (envelope : Envelope) → (length envelope.items == 0) ≡ true
    → leaves_something limited envelope ≡ true
leaves_if_empty limited envelope e = ap (λ b. b || not (length (other_items limited envelope.items) == 0)) e

pub leaves_if_left : (limited : Category → Bool) (envelope left : Envelope) → left ≡ without_limited limited envelope
    → not (length left.items == 0) ≡ true → leaves_something limited envelope ≡ true
leaves_if_left limited envelope left is e =
    or_right (length envelope.items == 0) (not (length (other_items limited envelope.items) == 0))
    (sym (ap (λ l. not (length l.items == 0)) is) ∙ e)

-- an offer that leaves something, step by step
pub offered_by_steps : (queue recorded after : Queue) (envelope left : Envelope) (now : ℕ) (limits : List ℕ)
    → recorded ≡ after_recording_limited queue envelope now
    → limits ≡ recorded.limits
    → left ≡ without_limited (is_limited_by limits now) envelope
    → leaves_something (is_limited_by limits now) envelope ≡ true
    → after ≡ after_enqueue recorded left
    → after ≡ after_offer queue envelope now
offered_by_steps queue recorded after envelope left now limits recording same leaving leaves enqueued =
    let here : limits ≡ queue.limits = same ∙ ap (λ q. q.limits) recording in
    let limited : Category → Bool = is_limited_by queue.limits now in
    let whole : Envelope = without_limited limited envelope in
    let waits : Bool = ltb (length queue.envelopes) queue.capacity in
    let limits_some : Bool = has_limited limited envelope.items in
    let out : List (List ℕ) = map (item_losses RatelimitBackoff) (limited_items limited envelope.items) in
    let lost : List ℕ = envelope_losses QueueOverflow whole.items in
    let left_is : left ≡ whole = leaving ∙ ap (λ ls. without_limited (is_limited_by ls now) envelope) here in
    let is_left : true ≡ leaves_something limited envelope = sym leaves ∙ ap (λ ls. leaves_something (is_limited_by ls now) envelope) here in
    enqueued
    ∙ ap₂ (λ q l. after_enqueue q l) recording left_is
    ∙ offered true waits limits_some queue out whole lost
    ∙ ap (λ some. record queue {
      envelopes = queue.envelopes ++ (if some && waits then whole ∷ [] else []);
      recorder = option_map (recorder_after (out ++ (if some && not waits then lost ∷ [] else []))) queue.recorder;
      has_lost = ((some && not waits) || limits_some) || queue.has_lost;
    }) is_left

pub stands_new : (room : ℕ) (first : Option LossPart) (envelopes : List Envelope) (capacity : ℕ) (limits : List ℕ)
    → capacity ≡ room → envelopes ≡ [] → limits ≡ replicate 7 0
    → StandsFor room first [] (record { envelopes = envelopes; capacity = capacity; limits = limits; recorder = first; has_lost = false })
stands_new room first envelopes capacity limits same none zeros = record {
  capacity = same;
  envelopes = none;
  limits = λ now category. ap (λ ls. ltb now (slice_index ls (category_index category))) zeros
      ∙ ap (λ moment. ltb now moment) (none_limited category) ∙ none_below now;
  recorder = sym (recorded_none first);
  has_lost = refl;
}

module _ (capacity : ℕ) (recorder : Option LossPart) (history : List QueueCall) (queue : Queue) (stands : StandsFor capacity recorder history queue) where
  pub same_count : length queue.envelopes ≡ waiting_count capacity history
  same_count = ap length stands.envelopes ∙ queue_length capacity history

  pub stands_after_offer : (envelope : Envelope) (now : ℕ)
      → StandsFor capacity recorder (offer_call envelope now ∷ history) (after_offer queue envelope now)
  stands_after_offer envelope now =
      let same : is_limited_by queue.limits now ≡ is_limited history now = fun_ext (stands.limits now) in
      let kept : kept_of (is_limited_by queue.limits now) queue.capacity (length queue.envelopes) envelope
      ≡ kept_of (is_limited history now) capacity (waiting_count capacity history) envelope =
      ap (λ limited. kept_of limited queue.capacity (length queue.envelopes) envelope) same
      ∙ ap (λ c. kept_of (is_limited history now) c (length queue.envelopes) envelope) stands.capacity
      ∙ ap (λ n. kept_of (is_limited history now) capacity n envelope) same_count in
      let losses : losses_of (is_limited_by queue.limits now) queue.capacity (length queue.envelopes) envelope
      ≡ losses_of (is_limited history now) capacity (waiting_count capacity history) envelope =
      ap (λ limited. losses_of limited queue.capacity (length queue.envelopes) envelope) same
      ∙ ap (λ c. losses_of (is_limited history now) c (length queue.envelopes) envelope) stands.capacity
      ∙ ap (λ n. losses_of (is_limited history now) capacity n envelope) same_count in
      let lost : is_lost (is_limited_by queue.limits now) queue.capacity (length queue.envelopes) envelope
      ≡ is_lost (is_limited history now) capacity (waiting_count capacity history) envelope =
      ap (λ limited. is_lost limited queue.capacity (length queue.envelopes) envelope) same
      ∙ ap (λ c. is_lost (is_limited history now) c (length queue.envelopes) envelope) stands.capacity
      ∙ ap (λ n. is_lost (is_limited history now) capacity n envelope) same_count in record {
        capacity = stands.capacity;
        envelopes = ap₂ (λ some more. some ++ more) stands.envelopes kept ∙ sym (queue_after_offer capacity envelope now history);
        limits = stands.limits;
        recorder = ap₂ (λ each part. option_map (recorder_after each) part) losses stands.recorder
            ∙ recorded_both (queue_losses capacity history)
            (losses_of (is_limited history now) capacity (waiting_count capacity history) envelope) recorder;
        has_lost = ap₂ (λ some before. some || before) lost stands.has_lost;
      }

  pub stands_after_take : (envelopes : List Envelope) → envelopes ≡ drop 1 queue.envelopes
      → StandsFor capacity recorder (take_call ∷ history) (record queue { envelopes = envelopes })
  stands_after_take envelopes rest = record {
    capacity = stands.capacity;
    envelopes = rest ∙ ap (λ all. drop 1 all) stands.envelopes ∙ sym (queue_after_take capacity history);
    limits = stands.limits;
    recorder = stands.recorder;
    has_lost = stands.has_lost;
  }

  pub settled_answer : (not queue.has_lost && length queue.envelopes == 0) ≡ is_settled capacity history
  settled_answer = ap₂ (λ lost count. not lost && count == 0) stands.has_lost same_count

  pub stands_after_settle : StandsFor capacity recorder (settle_call ∷ history) (record queue { has_lost = false })
  stands_after_settle = record {
    capacity = stands.capacity;
    envelopes = stands.envelopes;
    limits = stands.limits;
    recorder = stands.recorder;
    has_lost = refl;
  }

  beyond : (now some until : ℕ) → ltb now (max some until) ≡ (ltb now until || ltb now some)
  beyond now some until = ⊎_elim
      (λ t. ap (λ moment. ltb now moment) (max-eq_right t.1) ∙ later now some until t.1)
      (λ t. ap (λ moment. ltb now moment) (max-eq_left (le_of_lt t.1)) ∙ sooner now some until t.1)
      (leb_tells some until) where
        later : (now some until : ℕ) → some ≤ until → ltb now until ≡ (ltb now until || ltb now some)
        later now some until h = grind (arith, nat_tests)

        sooner : (now some until : ℕ) → until < some → ltb now some ≡ (ltb now until || ltb now some)
        sooner now some until h = grind (arith, nat_tests)

  limited_more : (acts : Bool) (now some until : ℕ) → ltb now (if acts then max some until else some) ≡ ((acts && ltb now until) || ltb now some)
  limited_more true now some until = beyond now some until
  limited_more false now some until = refl

  pub stands_after_limit : (which : Option Category) (until : ℕ) (limits : List ℕ) → AreLimited which until queue.limits limits
      → StandsFor capacity recorder (limit_call which until ∷ history) (record queue { limits = limits })
  stands_after_limit which until limits moved = record {
    capacity = stands.capacity;
    envelopes = stands.envelopes;
    limits = λ now category. ap (λ moment. ltb now moment) (moved category)
        ∙ limited_more (acts_on which category) now (slice_index queue.limits (category_index category)) until
        ∙ ap (λ others. (acts_on which category && ltb now until) || others) (stands.limits now category);
    recorder = stands.recorder;
    has_lost = stands.has_lost;
  }
