-- Books of losses balance: what their reports told and what is pending is what was recorded and absorbed.
use Rattle.sentry_plain.specs.Tables.{value_at}
use Rattle.sentry_base.specs.Callbacks.{Partial}
use Rattle.sentry_base.specs.declared.protocol.refusal.Refusal.{Refusal}
use Rattle.sentry_options.specs.Meanings.{Meanings}
use Rattle.sentry_state.specs.Worlds.{World, starting_world}
use Rattle.sentry_state.specs.declared.state.Out.{Out}
use Rattle.std.specs.Prelude.{◌≡◌, ◌<◌, ◌+◌, ◌%◌, ◌^◌, ℕ, Bool, true, false, Result, Option, Some, None, List, [], ◌∷◌, slice_index}
use Rattle.sentry_base.specs.Losses.{no_losses}
use Rattle.sentry_base.specs.RecordLosses.{report_losses}
use Rattle.sentry_base.specs.declared.protocol.client_report.ClientReport.{ClientReport}
use Rattle.sentry_base.specs.declared.protocol.losses.TheConstants.{LOSS_QUANTITIES}
use Rattle.sentry_calls.specs.Runs.{StepsTo, Run}
use Rattle.sentry_calls.specs.declared.call.Call.{Call}
use Rattle.sentry_calls.specs.declared.call.Call.TheVariants.{Client}
use Rattle.sentry_calls.specs.declared.call.Reply.{Reply}
use Rattle.sentry_calls.specs.declared.call.clients.ClientCall.TheVariants.{AddClient, Absorb}
use Rattle.sentry_client_reports.specs.LossBooks.{LossEntry, engine_losses, drained_losses, report_point, pending_losses, report_items, report_of}

-- the quantities that a report tells, by index
abbrev pub told_by : Option ClientReport → List ℕ
told_by None = no_losses
told_by (Some report) = report_losses report.items

-- the quantities at an index in all reports of a book
abbrev pub reported : List LossEntry → ℕ → ℕ
reported [] i = 0
reported (report_point ∷ history) i =
    reported history i + slice_index (told_by (report_of (report_items (pending_losses history)))) i
reported (engine_losses losses ∷ history) i = reported history i
reported (drained_losses losses ∷ history) i = reported history i

-- the quantities at an index that were recorded or absorbed
abbrev pub came_in : List LossEntry → ℕ → ℕ
came_in [] i = 0
came_in (report_point ∷ history) i = came_in history i
came_in (engine_losses losses ∷ history) i = came_in history i + slice_index losses i
came_in (drained_losses losses ∷ history) i = came_in history i + slice_index losses i

-- the quantities at an index that were absorbed
abbrev pub absorbed : List LossEntry → ℕ → ℕ
absorbed [] i = 0
absorbed (report_point ∷ history) i = absorbed history i
absorbed (engine_losses losses ∷ history) i = absorbed history i
absorbed (drained_losses losses ∷ history) i = absorbed history i + slice_index losses i

abbrev pub BooksBalance : Type 0
BooksBalance =
    (history : List LossEntry) (i : ℕ) → i < LOSS_QUANTITIES
    → (reported history i + slice_index (pending_losses history) i) % 2 ^ 64 ≡ came_in history i % 2 ^ 64

-- the calls but those by which a book begins or absorbs something
abbrev pub leaves_absorbed : {P C : Type 0} → Call P C → Bool
leaves_absorbed (Client (AddClient options transport label now)) = false
leaves_absorbed (Client (Absorb label losses)) = false
leaves_absorbed call = true

-- any other call leaves what each book absorbed
abbrev pub AbsorbedStays : {P C : Type 0} → (P → Partial) → (C → Meanings) → Type 0
AbsorbedStays {P} {C} gives meanings =
    (tag start : ℕ) (earlier : List (Call P C)) (answers : List (Result (Out (Reply P C)) Refusal))
    (first last : World P C)
    (call : Call P C) (answer : Result (Out (Reply P C)) Refusal)
    → Run gives meanings (starting_world tag start) earlier answers first → StepsTo gives meanings first call answer last
    → leaves_absorbed call ≡ true → (number : ℕ) (history : List LossEntry) → value_at last.books number ≡ Some history
    → (before : List LossEntry) × (value_at first.books number ≡ Some before)
    × ((i : ℕ) → absorbed history i ≡ absorbed before i)
