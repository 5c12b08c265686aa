-- What ties the drainers to the books, after each thing that is done under the lock.
use Rattle.std.proofs.Common.{◌≡◌, ◌%◌, ◌^◌, refl, ap, ◌∙◌, sym, ℕ, List, [], ◌∷◌, Bool, true, false, sum_by, get_or, arith}
use Rattle.std.proofs.lemmas.List.Sums.{sum_by-cons}
use Rattle.std.specs.Prelude.{Option, Some, None, ◌==◌, unwrap_or, if◌then◌else◌}
use Rattle.std.specs.Option.{option_map}
use Rattle.sentry_plain.specs.Tables.{value_at, put, replace_at}
use Rattle.sentry_base.specs.Losses.{plus, no_losses}
use Rattle.sentry_base.proofs.ByIndex.{same_by_index, sum_first}
use Rattle.sentry_client_reports.specs.LossBooks.{Book, LossEntry, engine_losses, drained_losses, report_point, absorbed_losses, losses_absorbed, book_of}
use Rattle.sentry_client_reports.specs.LossCounts.{CountedPart}
use Rattle.sentry_state.specs.Worlds.{map_values}
use Rattle.sentry_state.proofs.Keeping.{value_at-map_values}
use Rattle.sentry_laws.specs.Losses.{absorbed}
use Rattle.sentry_laws.proofs.Absorbed.{KeepsBooks}
use Rattle.sentry_laws.proofs.Found.{found_put, found_replaced}
use Rattle.sentry_laws.proofs.Increasing.{IsIncreasing}
use Rattle.sentry_lock.specs.Words.{Drainers}
use Rattle.sentry_lock.specs.Locked.{AreTied}

-- ---- what a history absorbed, as a sum and as quantities

total_absorbed : (history : List LossEntry) (i : ℕ) → sum_by (λ losses. get_or losses i 0) (losses_absorbed history)
    ≡ absorbed history i
total_absorbed [] i = refl
total_absorbed (engine_losses losses ∷ history) i = total_absorbed history i
total_absorbed (report_point ∷ history) i = total_absorbed history i
total_absorbed (drained_losses losses ∷ history) i =
    let first = sum_by-cons (λ losses. get_or losses i 0) losses (losses_absorbed history) in
    let rest = total_absorbed history i in omega arith

same_absorbed : (now before : List LossEntry) → ((i : ℕ) → absorbed now i ≡ absorbed before i)
    → absorbed_losses now ≡ absorbed_losses before
same_absorbed now before same =
    same_by_index (λ i. sum_by (λ losses. get_or losses i 0) (losses_absorbed now) % 2 ^ 64)
    (λ i. sum_by (λ losses. get_or losses i 0) (losses_absorbed before) % 2 ^ 64)
    (λ i less. ap (λ n. n % 2 ^ 64) (total_absorbed now i ∙ (same i ∙ sym (total_absorbed before i))))

one_more : (quantities : List ℕ) (history : List LossEntry)
    → plus (absorbed_losses history) quantities ≡ absorbed_losses (drained_losses quantities ∷ history)
one_more quantities history = sum_first quantities (losses_absorbed history)

-- ---- the same tie, with the histories that the books stand for

abbrev pub HistoriesAreTied : List (ℕ × List LossEntry) → Drainers → Type 0
HistoriesAreTied books drainers =
    (n : ℕ) (drainer : CountedPart) (history : List LossEntry) → value_at drainers n ≡ Some (Some drainer)
    → value_at books n ≡ Some history → absorbed_losses history ≡ drainer.taken

module _ (books : List (ℕ × Book)) (histories : List (ℕ × List LossEntry)) (same : books ≡ map_values book_of histories)
    (drainers : Drainers) where
  books_at : (n : ℕ) → value_at books n ≡ option_map book_of (value_at histories n)
  books_at n = ap (λ table. value_at table n) same ∙ value_at-map_values book_of histories n

  pub histories_tied : AreTied books drainers → HistoriesAreTied histories drainers
  histories_tied tied n drainer history at found =
      tied n drainer (book_of history) at (books_at n ∙ ap (option_map book_of) found)

  tied-by : (o : Option (List LossEntry)) (book : Book) (taken : List ℕ) → option_map book_of o ≡ Some book
      → ((history : List LossEntry) → o ≡ Some history → absorbed_losses history ≡ taken) → book.absorbed ≡ taken
  tied-by None book taken e h = absurd cc
  tied-by (Some history) book taken e h =
      let is : book_of history ≡ book = cc in ap (λ (b : Book). b.absorbed) (sym is) ∙ h history refl

  pub books_tied : HistoriesAreTied histories drainers → AreTied books drainers
  books_tied tied n drainer book at found =
      tied-by (value_at histories n) book drainer.taken (sym (books_at n) ∙ found)
      (λ history there. tied n drainer history at there)

-- ---- after a call that leaves what the books absorbed

pub tied_after_call : (old new : List (ℕ × List LossEntry)) (drainers : Drainers) → KeepsBooks old new
    → IsIncreasing 0 old → HistoriesAreTied old drainers → HistoriesAreTied new drainers
tied_after_call old new drainers keeps sorted tied n drainer history at found =
    let before = keeps.same sorted n history found in
    same_absorbed history before.0 before.2 ∙ tied n drainer before.0 at before.1

-- ---- after a change under one number, of the drainers and of the books

tied_at : (b : Bool) (slot : Option CountedPart) (own history : List LossEntry) (o : Option (Option CountedPart))
    (p : Option (List LossEntry)) (drainer : CountedPart)
    → ((d : CountedPart) → slot ≡ Some d → absorbed_losses own ≡ d.taken)
    → (o ≡ Some (Some drainer) → p ≡ Some history → absorbed_losses history ≡ drainer.taken)
    → (if b then Some slot else o) ≡ Some (Some drainer) → (if b then Some own else p) ≡ Some history
    → absorbed_losses history ≡ drainer.taken
tied_at true slot own history o p drainer here there at found =
    let is : own ≡ history = cc in
    let stands : slot ≡ Some drainer = cc in
    ap absorbed_losses (sym is) ∙ here drainer stands
tied_at false slot own history o p drainer here there at found = there at found

-- the book absorbed what the drainer took; or the words were ended
pub tied_after_absorb : (books : List (ℕ × List LossEntry)) (drainers : Drainers) (n : ℕ) (before : CountedPart)
    (held : List LossEntry) (quantities : List ℕ) (slot : Option CountedPart)
    → value_at drainers n ≡ Some (Some before) → value_at books n ≡ Some held
    → ((d : CountedPart) → slot ≡ Some d → d.taken ≡ plus before.taken quantities)
    → HistoriesAreTied books drainers
    → HistoriesAreTied (replace_at books n (drained_losses quantities ∷ unwrap_or (value_at books n) []))
    (replace_at drainers n slot)
tied_after_absorb books drainers n before held quantities slot at found taken tied k drainer history there here =
    tied_at (k == n) slot (drained_losses quantities ∷ held) history (value_at drainers k) (value_at books k) drainer
    (λ d is. sym (one_more quantities held)
    ∙ (ap (λ sums. plus sums quantities) (tied n before held at found) ∙ sym (taken d is)))
    (tied k drainer history)
    (sym (found_replaced drainers n k slot (Some before) at) ∙ there)
    (sym (ap (λ o. value_at (replace_at books n (drained_losses quantities ∷ unwrap_or o [])) k) found
    ∙ found_replaced books n k (drained_losses quantities ∷ held) held found) ∙ here)

-- a place for a drainer that is still to come
pub tied_after_place : (books : List (ℕ × List LossEntry)) (drainers : Drainers) (n : ℕ)
    → HistoriesAreTied books drainers → HistoriesAreTied books (put drainers n None)
tied_after_place books drainers n tied k drainer history there here =
    place-at (k == n) (sym (found_put drainers n k None) ∙ there)
  where
    place-at : (b : Bool) → (if b then Some None else value_at drainers k) ≡ Some (Some drainer)
        → absorbed_losses history ≡ drainer.taken
    place-at true e = absurd cc
    place-at false e = tied k drainer history e here

-- a drainer that took nothing, with a new book
pub tied_after_new : (books : List (ℕ × List LossEntry)) (drainers : Drainers) (n : ℕ) (new : CountedPart)
    → value_at drainers n ≡ Some None → new.taken ≡ no_losses → HistoriesAreTied books drainers
    → HistoriesAreTied (put books n []) (replace_at drainers n (Some new))
tied_after_new books drainers n new place none tied k drainer history there here =
    tied_at (k == n) (Some new) [] history (value_at drainers k) (value_at books k) drainer
    (λ d is. let same : new ≡ d = cc in sym none ∙ ap (λ (part : CountedPart). part.taken) same)
    (tied k drainer history)
    (sym (found_replaced drainers n k (Some new) None place) ∙ there) (sym (found_put books n k []) ∙ here)
