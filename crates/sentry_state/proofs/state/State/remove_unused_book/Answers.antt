use Rattle.std.proofs.Common.{rules, ◌≡◌, true, false}
use Rattle.std.specs.List.{list_any}
use Rattle.sentry_state.specs.Books.{is_label}
use Rattle.sentry_state.proofs.Keeping.{book_kept, book_removed}
use Rattle.sentry_state.proofs.state.State.remove_unused_book.Goals as goal

pub returns-then-has_client_of : goal.returns-then-has_client_of
returns-then-has_client_of g c =
    let has : list_any (λ entry. is_label c.args.label entry.1.label) c.args.self.now.clients ≡ true = search rules in
    λ world s. book_kept c.args.self.now world s c.args.label has

pub returns : goal.returns
returns g c =
    let has : list_any (λ entry. is_label c.args.label entry.1.label) c.args.self.now.clients ≡ false = search rules in
    λ world s.
    let books = book_removed c.args.self.now world s c.args.label has in
    search rules
