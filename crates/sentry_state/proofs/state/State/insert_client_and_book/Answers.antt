use Rattle.std.proofs.Common.{rules, ◌≡◌, refl, true, false}
use Rattle.std.specs.Prelude.{Result, Ok, Err, OnOk}
use Rattle.std.specs.Option.{is_some}
use Rattle.sentry_plain.specs.Tables.{value_at, put}
use Rattle.sentry_state.proofs.Keeping.{stands_with_same_books, new_book_in_world, stored_in_world}
use Rattle.sentry_state.proofs.state.State.insert_client_and_book.Goals as goal

on_ok_map : {T E A B : Type 0} (result : Result T E) → OnOk result A → (A → B) → OnOk result B
on_ok_map (Ok x) a f = f a
on_ok_map (Err e) a f = tt

pub returns-then-is_some-clause-in_world : goal.returns-then-is_some-clause-in_world
returns-then-is_some-clause-in_world g c =
    let has : is_some (value_at c.args.self.now.books c.args.client.label.number) ≡ true = search rules in
    on_ok_map c.insert_client.result c.insert_client.ensures.in_world (λ inserted world state s is.
    stands_with_same_books c.args.self.now world s _ has _ (record world {
      clients = put world.clients c.args.number state;
    }) refl (inserted world state s is))

pub returns-in-Ok-clause-in_world : goal.returns-in-Ok-clause-in_world
returns-in-Ok-clause-in_world g c =
    let has : is_some (value_at c.args.self.now.books c.args.client.label.number) ≡ false = search rules in
    λ world state s is.
    let books = new_book_in_world c.args.self.now world s c.args.client.label.number has in
    let clients = stored_in_world c.args.self.now world s c.args.number state in
    search rules
