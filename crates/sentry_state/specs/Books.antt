-- The books of losses, one for each label of a client.
use Rattle.std.specs.Prelude.{ℕ, List, ◌==◌, Bool, ◌&&◌, Option, Some, None, [], ◌∷◌, unwrap_or, if◌then◌else◌}
use Rattle.std.specs.List.{list_any}
use Rattle.std.specs.Option.{is_some, option_and_then}
use Rattle.sentry_plain.specs.Tables.{value_at, put, replace_at, without}
use Rattle.sentry_base.specs.declared.protocol.client_report.ClientReport.{ClientReport}
use Rattle.sentry_base.specs.declared.protocol.keys.Label.{Label}
use Rattle.sentry_client_reports.specs.LossBooks.{LossEntry, pending_losses, report_items, report_of}
use Rattle.sentry_state.specs.Worlds.{World, ClientHistory}

-- the books with one under a label's number: as they are where there is one, and else with a new one
abbrev pub with_book : List (ℕ × List LossEntry) → ℕ → List (ℕ × List LossEntry)
with_book books number = if is_some (value_at books number) then books else put books number []

abbrev pub is_label : Label → Label → Bool
is_label label other = (other.tag == label.tag) && (other.number == label.number)

-- a client has the label
abbrev pub has_client_of : {C : Type 0} → Label → List (ℕ × ClientHistory C) → Bool
has_client_of label clients = list_any (λ entry. is_label label entry.1.label) clients

module _ {P C : Type 0} where
  -- the world without the book of a label, unless a client has the label
  abbrev pub without_unused_book : Label → World P C → World P C
  without_unused_book label world = record world {
    books = if has_client_of label world.clients then world.books else without world.books label.number;
  }

  -- the world has a book for the label
  abbrev pub has_book : World P C → Label → Bool
  has_book world label = (label.tag == world.tag) && is_some (value_at world.books label.number)

  -- the report of what is pending under a label, if anything is
  abbrev pub pending_report : World P C → Label → Option ClientReport
  pending_report world label =
      option_and_then (λ history. report_of (report_items (pending_losses history))) (value_at world.books label.number)

  -- the world with one more entry in the book of a label
  abbrev pub with_entry : World P C → Label → LossEntry → World P C
  with_entry world label entry = record world {
    books = replace_at world.books label.number (entry ∷ unwrap_or (value_at world.books label.number) []);
  }

  -- the world with an entry, if there is one
  abbrev pub with_entry_if_any : World P C → Label → Option LossEntry → World P C
  with_entry_if_any world label None = world
  with_entry_if_any world label (Some entry) = with_entry world label entry
