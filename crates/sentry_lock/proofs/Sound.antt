-- What the lock keeps, after each thing that is done under it.
use mathlib.Core.HLevel.{⊥_prop}
use mathlib.Core.Logic.{∥∥₁_elim, ∥∥₁_map}
use Rattle.std.proofs.Common.{◌≡◌, refl, ap, ◌∙◌, sym, subst, ℕ, List, [], Bool, true, false, arith}
use Rattle.std.specs.Prelude.{Option, Some, None, Result, Ok, Err, IfOk, IfErr, ◌==◌, ◌&&◌, if◌then◌else◌}
use Rattle.std.specs.Option.{is_some}
use Rattle.sentry_plain.specs.Tables.{value_at, put, replace_at}
use Rattle.sentry_base.proofs.ByIndex.{at_index}
use Rattle.sentry_base.specs.Losses.{plus, no_losses}
use Rattle.sentry_base.specs.declared.protocol.keys.ClientKey.{ClientKey}
use Rattle.sentry_base.specs.declared.protocol.keys.Label.{Label}
use Rattle.sentry_base.specs.declared.protocol.refusal.Refusal.{Refusal}
use Rattle.sentry_base.specs.declared.protocol.refusal.Refusal.TheVariants.{OutOfMemory, ForeignLosses, Full}
use Rattle.sentry_client_reports.specs.LossBooks.{LossEntry, drained_losses}
use Rattle.sentry_client_reports.specs.LossCounts.{CountedPart}
use Rattle.sentry_options.specs.Meanings.{Meanings}
use Rattle.sentry_options.specs.declared.clientoptions.ClientOptions.{ClientOptions}
use Rattle.sentry_state.specs.Books.{has_book, with_book, with_entry}
use Rattle.sentry_state.specs.Outcomes.{Outcome, Need, memory, nothing, DoesWith, IsAnswer, require, reply_with}
use Rattle.sentry_state.specs.Worlds.{World, Stands, first_world}
use Rattle.sentry_state.specs.declared.state.Out.{Out}
use Rattle.sentry_state.specs.declared.state.State.{State}
use Rattle.sentry_calls.specs.Clients.{add_client}
use Rattle.sentry_calls.specs.Losses.{absorb}
use Rattle.sentry_laws.proofs.Absorbed.{KeepsBooks}
use Rattle.sentry_laws.proofs.Increasing.{IsIncreasing, increasing_put, increasing_replaced}
use Rattle.sentry_lock.specs.Words.{AreZero, Drainers, DrainsOne, EndsWords}
use Rattle.sentry_lock.specs.Locked.{Absorbs, IsHeld, IsSound}
use Rattle.sentry_lock.proofs.NoLosses.{nothing_absorbed}
use Rattle.sentry_lock.proofs.Bounds.{queues_short, spans_kept, books_balanced}
use Rattle.sentry_lock.proofs.Tied.{HistoriesAreTied, histories_tied, books_tied, tied_after_call, tied_after_absorb, tied_after_place, tied_after_new}

never_refused : {T : Type 0} (expected : Result (Out T) Refusal) (out : Out T) (refusal : Refusal)
    → expected ≡ Ok out → IsAnswer expected (Err refusal) nothing → ⊥
never_refused expected out OutOfMemory is answer = answer
never_refused expected out refusal is answer = absurd cc

new_book : (books : List (ℕ × List LossEntry)) (n : ℕ) → value_at books n ≡ None → with_book books n ≡ put books n []
new_book books n free = ap (λ o. if is_some o then books else put books n []) free

free_by : (a : Bool) (o : Option (List LossEntry)) → a ≡ true → false ≡ (a && is_some o) → o ≡ None
free_by true None is h = refl
free_by true (Some held) is h = absurd cc
free_by false o is h = absurd cc

-- nothing is lost
pub quiet_words : AreZero no_losses
quiet_words i inside = at_index (λ k. 0) i inside

module _ {P C : Type 0} where
  made_sound : (engine : State P C) (drainers : Drainers) (world : World P C) → Stands engine world
      → IsIncreasing 0 world.books → HistoriesAreTied world.books drainers → IsSound engine drainers
  made_sound engine drainers world stands sorted tied = record {
    world = world;
    stands = stands;
    sorted = sorted;
    short = queues_short engine world stands;
    kept = spans_kept engine world stands;
    balanced = books_balanced engine world stands;
    tied = books_tied engine.books world.books stands.books drainers tied;
  }

  tied_in_world : {engine : State P C} {drainers : Drainers} (s : IsSound engine drainers)
      → HistoriesAreTied s.world.books drainers
  tied_in_world {engine} {drainers} s = histories_tied engine.books s.world.books s.stands.books drainers s.tied

  -- a new engine, and no drainers
  pub first_sound : (engine : State P C) (drainers : Drainers) (tag : ℕ) → Stands engine (first_world tag)
      → drainers ≡ [] → ∥ IsSound engine drainers ∥₁
  first_sound engine drainers tag stands none =
      subst (λ d. ∥ IsSound engine d ∥₁) (sym none)
      ∣ made_sound engine [] (first_world tag) stands tt (λ n drainer history at found. absurd cc) ∣₁

  -- a call that leaves what the books absorbed
  pub after_call : {T : Type 0} (need : Need) (old new : State P C) (result : Result (Out T) Refusal)
      (outcome : World P C → Outcome P C T) (drainers : Drainers) → DoesWith need old new result outcome
      → ((world : World P C) → KeepsBooks world.books (outcome world).after.books)
      → ∥ IsSound old drainers ∥₁ → ∥ IsSound new drainers ∥₁
  after_call need old new (Ok out) outcome drainers does keeps sound =
      ∥∥₁_map sound (λ s.
      made_sound new drainers (outcome s.world).after (does s.world s.stands).1 ((keeps s.world).increasing s.sorted)
      (tied_after_call s.world.books (outcome s.world).after.books drainers (keeps s.world) s.sorted (tied_in_world s)))
  after_call need old new (Err refusal) outcome drainers does keeps sound =
      subst (λ (e : State P C). ∥ IsSound e drainers ∥₁) (sym does.0) sound

  -- the same, where the answer holds what the call came to
  pub after_handed : {T H : Type 0} (old new : State P C) (result : Result H Refusal) (out : H → Out T)
      (outcome : World P C → Outcome P C T) (drainers : Drainers)
      → IfOk result (λ handed. DoesWith memory old new (Ok (out handed)) outcome) → IfErr result (λ _. new ≡ old)
      → ((world : World P C) → KeepsBooks world.books (outcome world).after.books)
      → ∥ IsSound old drainers ∥₁ → ∥ IsSound new drainers ∥₁
  after_handed old new (Ok handed) out outcome drainers does same keeps sound =
      after_call memory old new (Ok (out handed)) outcome drainers does keeps sound
  after_handed old new (Err refusal) out outcome drainers does same keeps sound =
      subst (λ (e : State P C). ∥ IsSound e drainers ∥₁) (sym same) sound

  -- ---- losses

  absorbed_world : (world : World P C) (label : Label) (quantities : List ℕ) → has_book world label ≡ true
      → (absorb label quantities world).after ≡ with_entry world label (drained_losses quantities)
  unfolding absorb
  absorbed_world world label quantities has =
      ap (λ b. (require {T = Unit {0}} ForeignLosses world b
      (reply_with tt [] (with_entry world label (drained_losses quantities)))).after) has

  absorb_accepted : (world : World P C) (label : Label) (quantities : List ℕ) → has_book world label ≡ true
      → (absorb label quantities world).answer ≡ Ok (record { reply = tt; sent = [] })
  unfolding absorb
  absorb_accepted world label quantities has =
      ap (λ b. (require {T = Unit {0}} ForeignLosses world b
      (reply_with tt [] (with_entry world label (drained_losses quantities)))).answer) has

  -- a label that is held is never refused
  pub held_absorbs : (old new : State P C) (label : Label) (quantities : List ℕ)
      (result : Result (Out (Unit {0})) Refusal) → ∥ ((world : World P C) × Stands old world) ∥₁ → IsHeld true label old
      → DoesWith nothing old new result (absorb label quantities) → Absorbs label quantities old new
  held_absorbs old new label quantities (Ok out) stands held does = (out, does)
  held_absorbs old new label quantities (Err refusal) stands held does =
      absurd (∥∥₁_elim stands ⊥_prop (λ s.
      never_refused (absorb label quantities s.0).answer (record { reply = tt; sent = [] }) refusal
      (absorb_accepted s.0 label quantities (held s.0 s.1)) (does.1 s.0 s.1)))

  -- nothing is absorbed by leaving the engine as it is
  pub absorbs_nothing : (engine : State P C) (label : Label) (quantities : List ℕ) → AreZero quantities
      → IsHeld true label engine → Absorbs label quantities engine engine
  absorbs_nothing engine label quantities zero held = (
    record { reply = tt; sent = [] },
    λ world stands.
        let there = held world stands in (
          absorb_accepted world label quantities there,
          subst (λ (w : World P C). Stands engine w) (sym (absorbed_world world label quantities there))
              (nothing_absorbed quantities zero engine world label stands),
        ),
  )

  -- some world is stood for
  pub some_world : (engine : State P C) (drainers : Drainers) → ∥ IsSound engine drainers ∥₁
      → ∥ ((world : World P C) × Stands engine world) ∥₁
  some_world engine drainers sound = ∥∥₁_map sound (λ s. (s.world, s.stands))

  held_book : (world : World P C) (label : Label) → has_book world label ≡ true
      → (held : List LossEntry) × (value_at world.books label.number ≡ Some held)
  held_book world label has = held-by (label.tag == world.tag) (value_at world.books label.number) refl has
    where
      held-by : (a : Bool) (o : Option (List LossEntry)) → value_at world.books label.number ≡ o
          → (a && is_some o) ≡ true → (held : List LossEntry) × (value_at world.books label.number ≡ Some held)
      held-by true None e h = absurd cc
      held-by true (Some held) e h = (held, e)
      held-by false o e h = absurd cc

  -- the book of a label absorbed what its drainer took; or what stood in its words, which were ended
  after_absorb : (old new : State P C) (drainers : Drainers) (label : Label) (before : CountedPart)
      (slot : Option CountedPart) (quantities : List ℕ) (out : Out (Unit {0}))
      → value_at drainers label.number ≡ Some (Some before)
      → ((d : CountedPart) → slot ≡ Some d → d.taken ≡ plus before.taken quantities)
      → IsHeld true label old → DoesWith nothing old new (Ok out) (absorb label quantities) → ∥ IsSound old drainers ∥₁
      → ∥ IsSound new (replace_at drainers label.number slot) ∥₁
  after_absorb old new drainers label before slot quantities out at taken held does sound =
      ∥∥₁_map sound (λ s.
      let there = held s.world s.stands in
      let book = held_book s.world label there in
      made_sound new (replace_at drainers label.number slot)
      (with_entry s.world label (drained_losses quantities))
      (subst (λ (w : World P C). Stands new w) (absorbed_world s.world label quantities there)
      (does s.world s.stands).1)
      (increasing_replaced 0 label.number _ s.world.books s.sorted)
      (tied_after_absorb s.world.books drainers label.number before book.0 quantities slot at book.1 taken
      (tied_in_world s)))

  pub after_drain : (old new : State P C) (drainers drained : Drainers) (label : Label) (quantities : List ℕ)
      → DrainsOne drainers drained label.number quantities → IsHeld true label old → Absorbs label quantities old new
      → ∥ IsSound old drainers ∥₁ → ∥ IsSound new drained ∥₁
  after_drain old new drainers drained label quantities one held absorbs sound =
      subst (λ d. ∥ IsSound new d ∥₁) (sym one.others)
      (after_absorb old new drainers label one.before (Some one.after) quantities absorbs.0 one.found
      (λ d is. let same : one.after ≡ d = cc in ap (λ (part : CountedPart). part.taken) (sym same) ∙ one.taken)
      held absorbs.1 sound)

  pub after_end : (old new : State P C) (drainers ended : Drainers) (label : Label) (quantities : List ℕ)
      → EndsWords drainers ended label.number quantities → IsHeld true label old → Absorbs label quantities old new
      → ∥ IsSound old drainers ∥₁ → ∥ IsSound new ended ∥₁
  after_end old new drainers ended label quantities ends held absorbs sound =
      subst (λ d. ∥ IsSound new d ∥₁) (sym ends.others)
      (after_absorb old new drainers label ends.before None quantities absorbs.0 ends.found (λ d is. absurd cc)
      held absorbs.1 sound)

  -- ---- clients

  -- a place for a drainer that is still to come
  pub after_place : (engine : State P C) (drainers : Drainers) (n : ℕ) → ∥ IsSound engine drainers ∥₁
      → ∥ IsSound engine (put drainers n None) ∥₁
  after_place engine drainers n sound =
      ∥∥₁_map sound (λ s.
      made_sound engine (put drainers n None) s.world s.stands s.sorted
      (tied_after_place s.world.books drainers n (tied_in_world s)))

  abbrev Fits : Drainers → World P C → Type 0
  Fits drainers world = IsIncreasing 0 world.books × HistoriesAreTied world.books drainers

  -- what holds of the outcome of a call that was accepted
  accepted : {T : Type 0} (Q : World P C → Type 0) (refusal : Refusal) (world : World P C) (b : Bool)
      (go : Outcome P C T) (out : Out T) → (require refusal world b go).answer ≡ Ok out
      → (b ≡ true → go.answer ≡ Ok out → Q go.after) → Q (require refusal world b go).after
  accepted Q refusal world true go out e h = h refl e
  accepted Q refusal world false go out e h = absurd cc

  module _ (meanings : C → Meanings) (options : ClientOptions C) (transport : Bool) (label : Label) (now : ℕ) where
    added : (world : World P C) (drainers : Drainers) (drainer : CountedPart) (out : Out ClientKey)
        → IsIncreasing 0 world.books → HistoriesAreTied world.books drainers
        → value_at drainers label.number ≡ Some None → false ≡ has_book world label → drainer.taken ≡ no_losses
        → (add_client meanings options transport label now world).answer ≡ Ok out
        → Fits (replace_at drainers label.number (Some drainer))
        (add_client meanings options transport label now world).after
    unfolding add_client
    added world drainers drainer out sorted tied place has none answer =
        let next = replace_at drainers label.number (Some drainer) in
        accepted (Fits next) ForeignLosses world (label.tag == world.tag) _ out answer (λ own rest.
        accepted (Fits next) Full world _ _ out rest (λ left last.
        let is = sym (new_book world.books label.number
        (free_by (label.tag == world.tag) (value_at world.books label.number) own has)) in (
          subst (IsIncreasing 0) is (increasing_put 0 label.number [] world.books (omega arith) sorted),
          subst (λ books. HistoriesAreTied books next) is
              (tied_after_new world.books drainers label.number drainer place none tied),
        )))

    -- a client came, with a drainer that took nothing
    pub after_add : (old new : State P C) (out : Out ClientKey) (drainers : Drainers) (drainer : CountedPart)
        → DoesWith memory old new (Ok out) (add_client meanings options transport label now)
        → ((world : World P C) → Stands old world → false ≡ has_book world label)
        → value_at drainers label.number ≡ Some None → drainer.taken ≡ no_losses → ∥ IsSound old drainers ∥₁
        → ∥ IsSound new (replace_at drainers label.number (Some drainer)) ∥₁
    after_add old new out drainers drainer does has place none sound =
        ∥∥₁_map sound (λ s.
        let fits = added s.world drainers drainer out s.sorted (tied_in_world s) place (has s.world s.stands) none
        (does s.world s.stands).0 in
        made_sound new (replace_at drainers label.number (Some drainer))
        (add_client meanings options transport label now s.world).after (does s.world s.stands).1 fits.0 fits.1)

  -- fewer drainers
  pub with_fewer : (engine : State P C) (drainers fewer : Drainers)
      → ((n : ℕ) (slot : Option CountedPart) → value_at fewer n ≡ Some slot → value_at drainers n ≡ Some slot)
      → ∥ IsSound engine drainers ∥₁ → ∥ IsSound engine fewer ∥₁
  with_fewer engine drainers fewer there sound =
      ∥∥₁_map sound (λ s.
      made_sound engine fewer s.world s.stands s.sorted
      (λ n drainer history at found. tied_in_world s n drainer history (there n (Some drainer) at) found))
