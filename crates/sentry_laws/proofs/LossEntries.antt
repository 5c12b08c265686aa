-- What books hold, reports aside, after one entry.
use Rattle.std.proofs.Common.{◌≡◌, refl, ap, ◌∙◌, sym, ℕ, List, [], ◌∷◌, ◌++◌, Bool, true, false}
use Rattle.std.specs.Prelude.{Option, Some, None, ◌==◌, ◌&&◌, unwrap_or, if◌then◌else◌}
use Rattle.std.specs.Option.{is_some}
use Rattle.sentry_plain.specs.Tables.{value_at, put, replace_at, without}
use Rattle.sentry_plain.proofs.NumberLemmas.{same_number, equal_to_itself, equal_turned}
use Rattle.sentry_base.specs.declared.protocol.keys.Label.{Label}
use Rattle.sentry_client_reports.specs.LossBooks.{LossEntry, engine_losses, drained_losses, report_point}
use Rattle.sentry_state.specs.Books.{with_book, is_label}
use Rattle.sentry_state.proofs.Keeping.{replace_absent}
use Rattle.sentry_laws.specs.LossesByCalls.{losses_in}
use Rattle.sentry_laws.proofs.Found.{found_put, found_replaced}
use Rattle.sentry_laws.proofs.Increasing.{IsIncreasing, without_if}

-- what the book at a number holds, reports aside
abbrev pub losses_at : List (ℕ × List LossEntry) → ℕ → List LossEntry
losses_at books n = losses_in (unwrap_or (value_at books n) [])

abbrev held_by : Option (List LossEntry) → List LossEntry
held_by o = losses_in (unwrap_or o [])

one_more : (entry : LossEntry) (history : List LossEntry)
    → losses_in (entry ∷ history) ≡ losses_in (entry ∷ []) ++ losses_in history
one_more (engine_losses losses) history = refl
one_more (drained_losses losses) history = refl
one_more report_point history = refl

pub none_if : (b : Bool) (held : List LossEntry) → (if b then [] else []) ++ held ≡ held
none_if true held = refl
none_if false held = refl

module _ (books : List (ℕ × List LossEntry)) where
  entered-by : (k n : ℕ) (entry : LossEntry) (held : List LossEntry) → value_at books k ≡ Some held → (b : Bool)
      → (n == k) ≡ b
      → held_by (if b then Some (entry ∷ held) else value_at books n)
      ≡ (if b then losses_in (entry ∷ []) else []) ++ losses_at books n
  entered-by k n entry held at true e =
      one_more entry held
      ∙ ap (λ (o : Option (List LossEntry)). losses_in (entry ∷ []) ++ held_by o)
      (sym (ap (value_at books) (same_number n k e) ∙ at))
  entered-by k n entry held at false e = refl

  -- an entry comes to a book that is there
  pub entered : (k n : ℕ) (entry : LossEntry) (o : Option (List LossEntry)) → value_at books k ≡ o → is_some o ≡ true
      → losses_at (replace_at books k (entry ∷ unwrap_or o [])) n
      ≡ (if n == k then losses_in (entry ∷ []) else []) ++ losses_at books n
  entered k n entry None at there = absurd cc
  entered k n entry (Some held) at there =
      ap held_by (found_replaced books k n (entry ∷ held) held at) ∙ entered-by k n entry held at (n == k) refl

  -- a report is taken of a book that is there or not
  pub pointed : (k n : ℕ) (o : Option (List LossEntry)) → value_at books k ≡ o
      → losses_at (replace_at books k (report_point ∷ unwrap_or o [])) n ≡ losses_at books n
  pointed k n None at =
      ap (λ (m : List (ℕ × List LossEntry)). losses_at m n) (replace_absent books k (report_point ∷ []) at)
  pointed k n (Some held) at =
      entered k n report_point (Some held) at refl ∙ none_if (n == k) (losses_at books n)

  -- a book begins, unless it is there
  pub booked : (k n : ℕ) → losses_at (with_book books k) n ≡ losses_at books n
  booked k n = by_some (is_some (value_at books k)) refl
    where
      none_there : (o : Option (List LossEntry)) → is_some o ≡ false → o ≡ None
      none_there None e = refl
      none_there (Some held) e = absurd cc

      by_own : (b : Bool) → (n == k) ≡ b → is_some (value_at books k) ≡ false
          → held_by (if b then Some [] else value_at books n) ≡ losses_at books n
      by_own true q e =
          sym (ap held_by (ap (value_at books) (same_number n k q) ∙ none_there (value_at books k) e))
      by_own false q e = refl

      by_some : (b : Bool) → is_some (value_at books k) ≡ b
          → losses_at (if b then books else put books k []) n ≡ losses_at books n
      by_some true e = refl
      by_some false e = ap held_by (found_put books k n []) ∙ by_own (n == k) refl e

  -- a book that is left where another one went is as it was
  pub left : (k n : ℕ) → IsIncreasing 0 books → (b : Bool)
      → is_some (value_at (if b then books else without books k) n) ≡ true
      → losses_at (if b then books else without books k) n ≡ losses_at books n
  left k n i true there = refl
  left k n i false there = by_own (n == k) (without_if 0 k n books i)
    where
      by_own : (b : Bool) → value_at (without books k) n ≡ (if b then None else value_at books n)
          → losses_at (without books k) n ≡ losses_at books n
      by_own true e = absurd (let no : false ≡ true = sym (ap is_some e) ∙ there in cc)
      by_own false e = ap held_by e

-- ---- labels of an engine

-- two labels of one engine are the same where their numbers are
pub same_labels : (label other : Label) (tag : ℕ) → (label.tag == tag) ≡ true → (other.tag == tag) ≡ true
    → is_label label other ≡ (label.number == other.number)
same_labels label other tag of_engine others =
    let tags : label.tag ≡ other.tag = same_number label.tag tag of_engine ∙ sym (same_number other.tag tag others) in
    ap (λ t. (other.tag == t) && (other.number == label.number)) tags
    ∙ (ap (λ b. b && (other.number == label.number)) (equal_to_itself other.tag) ∙ equal_turned other.number label.number)
