-- What reports told and what is pending is what the calls brought.
use Rattle.std.proofs.Common.{◌≡◌, ◌+◌, ◌%◌, ◌^◌, refl, ap, ◌∙◌, sym, subst, ℕ, List, [], ◌∷◌, ◌++◌, Bool, true, false, arith}
use Rattle.std.specs.Prelude.{Option, Some, None, Result, ◌==◌, ◌&&◌, slice_index, unwrap_or, if◌then◌else◌}
use Rattle.std.specs.Option.{is_some}
use Rattle.sentry_plain.specs.Tables.{value_at}
use Rattle.sentry_base.specs.Callbacks.{Partial}
use Rattle.sentry_base.specs.declared.protocol.keys.Label.{Label}
use Rattle.sentry_base.specs.declared.protocol.refusal.Refusal.{Refusal}
use Rattle.sentry_options.specs.Meanings.{Meanings}
use Rattle.sentry_client_reports.specs.LossBooks.{LossEntry, engine_losses, drained_losses, report_point}
use Rattle.sentry_state.specs.Books.{has_client_of}
use Rattle.sentry_state.specs.Worlds.{World, starting_world}
use Rattle.sentry_state.specs.declared.state.Out.{Out}
use Rattle.sentry_calls.specs.Runs.{StepsTo, Run}
use Rattle.sentry_calls.specs.declared.call.Call.{Call}
use Rattle.sentry_calls.specs.declared.call.Reply.{Reply}
use Rattle.sentry_laws.specs.Losses.{came_in}
use Rattle.sentry_laws.specs.LossesByCalls.{losses_in, losses_by_answer, brought_since, CallsAddUp}
use Rattle.sentry_laws.specs.Reports.{history_of}
use Rattle.sentry_laws.proofs.LabelBooks.{HasBooks, no_books, kept_books}
use Rattle.sentry_laws.proofs.LossesByCalls.{kept_tag, records_call}
use Rattle.sentry_laws.proofs.Reports.{reports_add_up}
use Rattle.std.proofs.lemmas.Bool.{and_parts}

-- what came to a book, reports aside
came_but : (history : List LossEntry) (i : ℕ) → came_in history i ≡ came_in (losses_in history) i
came_but [] i = refl
came_but (report_point ∷ history) i = came_but history i
came_but (engine_losses losses ∷ history) i = ap (λ n. n + slice_index losses i) (came_but history i)
came_but (drained_losses losses ∷ history) i = ap (λ n. n + slice_index losses i) (came_but history i)

came_after : (some history : List LossEntry) (i : ℕ) → came_in (some ++ history) i ≡ came_in history i + came_in some i
came_after [] history i = omega arith
came_after (report_point ∷ some) history i = came_after some history i
came_after (engine_losses losses ∷ some) history i =
    let rest = came_after some history i in ap (λ n. n + slice_index losses i) rest ∙ omega arith
came_after (drained_losses losses ∷ some) history i =
    let rest = came_after some history i in ap (λ n. n + slice_index losses i) rest ∙ omega arith

module _ {P C : Type 0} (gives : P → Partial) (meanings : C → Meanings) (label : Label) (i : ℕ) where
  -- what was brought is what the book of the label says, if a client has the label, and nothing otherwise
  record Brought (brought : ℕ) (world : World P C) : Type 0 where
    books : HasBooks world
    comes : has_client_of label world.clients ≡ true → brought ≡ came_in (history_of world label) i
    none : has_client_of label world.clients ≡ false → brought ≡ 0

  -- a label without a client has no book
  no_history : (world : World P C) → HasBooks world → (label.tag == world.tag) ≡ true
      → has_client_of label world.clients ≡ false → came_in (history_of world label) i ≡ 0
  no_history world books own gone =
      by_book (value_at world.books label.number)
      (sym (ap (λ b. b && is_some (value_at world.books label.number)) own) ∙ (books.same label ∙ gone))
    where
      by_book : (o : Option (List LossEntry)) → is_some o ≡ false → came_in (unwrap_or o []) i ≡ 0
      by_book None e = refl
      by_book (Some history) e = absurd cc

  came_so_far : (brought : ℕ) (world : World P C) → Brought brought world → (label.tag == world.tag) ≡ true
      → brought ≡ came_in (history_of world label) i
  came_so_far brought world b own = by_client (has_client_of label world.clients) refl
    where
      by_client : (has : Bool) → has_client_of label world.clients ≡ has
          → brought ≡ came_in (history_of world label) i
      by_client true e = b.comes e
      by_client false e = b.none e ∙ sym (no_history world b.books own e)

  next-by : (has : Bool) (brought : ℕ) (next : World P C) → HasBooks next → has_client_of label next.clients ≡ has
      → (has_client_of label next.clients ≡ true → brought ≡ came_in (history_of next label) i)
      → Brought (if has then brought else 0) next
  next-by true brought next books is comes = record { books = books; comes = comes; none = λ no. absurd cc }
  next-by false brought next books is comes = record { books = books; comes = λ yes. absurd cc; none = λ no. refl }

  brought_by : (brought : ℕ) (call : Call P C) (answer : Result (Out (Reply P C)) Refusal) (world next : World P C)
      → StepsTo gives meanings world call answer next → Brought brought world
      → Brought (if has_client_of label next.clients
      then brought + came_in (losses_by_answer gives meanings label world call answer) i else 0) next
  brought_by brought call answer world next may b =
      let books : HasBooks next = kept_books gives meanings call answer world next may b.books in
      next-by (has_client_of label next.clients)
      (brought + came_in (losses_by_answer gives meanings label world call answer) i) next books refl (λ has.
      let own : (label.tag == world.tag) ≡ true =
      ap (λ t. label.tag == t) (sym (kept_tag gives meanings call answer world next may))
      ∙ (and_parts (label.tag == next.tag) _ (books.same label ∙ has)).0 in
      let some = losses_by_answer gives meanings label world call answer in
      ap (λ n. n + came_in some i) (came_so_far brought world b own ∙ came_but (history_of world label) i)
      ∙ (sym (came_after some (losses_in (history_of world label)) i)
      ∙ (ap (λ l. came_in l i) (sym (records_call gives meanings call answer world next may b.books label has))
      ∙ sym (came_but (history_of next label) i))))

  brought_run : (calls : List (Call P C)) (answers : List (Result (Out (Reply P C)) Refusal)) (world last : World P C)
      (brought : ℕ) (run : Run gives meanings world calls answers last) → Brought brought world
      → Brought (brought_since gives meanings label i brought world calls answers last run) last
  brought_run [] [] world last brought run b = subst (Brought brought) (sym run) b
  brought_run (call ∷ calls) (answer ∷ answers) world last brought run b =
      brought_run calls answers run.0 last _ run.2 (brought_by brought call answer world run.0 run.1 b)
  brought_run [] (answer ∷ answers) world last brought run b = absurd run
  brought_run (call ∷ calls) [] world last brought run b = absurd run

module _ {P C : Type 0} (gives : P → Partial) (meanings : C → Meanings) where
  pub calls_add_up : (tag start : ℕ) (calls : List (Call P C)) (answers : List (Result (Out (Reply P C)) Refusal))
      (last : World P C) (run : Run gives meanings (starting_world tag start) calls answers last)
      → CallsAddUp gives meanings (starting_world tag start) calls answers last run
  calls_add_up tag start calls answers last run label i has low =
      let first : Brought gives meanings label i 0 (starting_world tag start) = record {
        books = no_books meanings tag start;
        comes = λ yes. refl;
        none = λ no. refl;
      } in
      let brought = brought_run gives meanings label i calls answers (starting_world tag start) last 0 run first in
      reports_add_up gives meanings tag start calls answers last run label i has low
      ∙ ap (λ n. n % 2 ^ 64) (sym (brought.comes has))
