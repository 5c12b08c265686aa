-- To absorb nothing leaves the book.
use Rattle.std.proofs.Common.{◌≡◌, refl, ap, ◌∙◌, sym, ℕ, List, [], ◌∷◌, get_or, arith}
use Rattle.std.specs.Prelude.{Option, Some, None, unwrap_or}
use Rattle.std.specs.Option.{option_map}
use Rattle.std.proofs.lemmas.List.Sums.{sum_by-cons}
use Rattle.sentry_plain.specs.Tables.{value_at, replace_at}
use Rattle.sentry_base.proofs.ByIndex.{same_by_index}
use Rattle.sentry_base.specs.Losses.{sum_losses}
use Rattle.sentry_base.specs.declared.protocol.keys.Label.{Label}
use Rattle.sentry_client_reports.specs.LossBooks.{LossEntry, drained_losses, book_of, losses_absorbed, losses_since_report, recorded_losses, reported_losses}
use Rattle.sentry_plain.proofs.ChangeLemmas.{changed_same}
use Rattle.sentry_state.proofs.Keeping.{replace_absent, replace_at-map_values, value_at-map_values}
use Rattle.sentry_state.specs.Books.{with_entry}
use Rattle.sentry_state.specs.Worlds.{World, Stands, map_values}
use Rattle.sentry_state.specs.declared.state.State.{State}
use Rattle.sentry_lock.specs.Words.{AreZero}

module _ (zeros : List ℕ) (zero : AreZero zeros) where
  same_sum : (ls : List (List ℕ)) → sum_losses (λ l. l) (zeros ∷ ls) ≡ sum_losses (λ l. l) ls
  same_sum ls = same_by_index _ _ (λ i less.
      let more = sum_by-cons (λ x. get_or x i 0) zeros ls in
      let none = zero i less in
      omega arith)

  book_stays : (history : List LossEntry) → book_of (drained_losses zeros ∷ history) ≡ book_of history
  book_stays history = λ i. record {
    pending = same_sum (losses_since_report history) i;
    recorded = recorded_losses history;
    absorbed = same_sum (losses_absorbed history) i;
    reported = reported_losses history;
  }

  books_stay : (books : List (ℕ × List LossEntry)) (n : ℕ) (o : Option (List LossEntry)) → value_at books n ≡ o
      → map_values book_of (replace_at books n (drained_losses zeros ∷ unwrap_or o [])) ≡ map_values book_of books
  books_stay books n None at = ap (map_values book_of) (replace_absent books n (drained_losses zeros ∷ []) at)
  books_stay books n (Some history) at =
      replace_at-map_values book_of books n (drained_losses zeros ∷ history)
      ∙ (ap (replace_at (map_values book_of books) n) (book_stays history)
      ∙ changed_same (map_values book_of books) n (book_of history)
      (value_at-map_values book_of books n ∙ ap (option_map book_of) at))

  -- the engine stands for the world with it
  pub nothing_absorbed : {P C : Type 0} (engine : State P C) (world : World P C) (label : Label) → Stands engine world
      → Stands engine (with_entry world label (drained_losses zeros))
  nothing_absorbed engine world label s = record {
    tag = s.tag;
    next = s.next;
    clients = s.clients;
    hubs = s.hubs;
    sessions = s.sessions;
    spans = s.spans;
    books = s.books ∙ sym (books_stay world.books label.number (value_at world.books label.number) refl);
  }
