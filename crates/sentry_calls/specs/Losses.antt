-- What the calls on losses answer and leave.
use Rattle.std.specs.Prelude.{ℕ, Option, List, []}
use Rattle.sentry_base.specs.declared.protocol.client_report.ClientReport.{ClientReport}
use Rattle.sentry_base.specs.declared.protocol.keys.Label.{Label}
use Rattle.sentry_base.specs.declared.protocol.refusal.Refusal.TheVariants.{ForeignLosses}
use Rattle.sentry_client_reports.specs.LossBooks.{drained_losses, report_point}
use Rattle.sentry_state.specs.Worlds.{World}
use Rattle.sentry_state.specs.Outcomes.{Outcome, require, reply_with}
use Rattle.sentry_state.specs.Books.{has_book, pending_report, with_entry}

module _ {P C : Type 0} where
  -- the pending report of a label, which then counts as reported
  unfoldable pub take_report : Label → World P C → Outcome P C (Option ClientReport)
  take_report label world =
      require ForeignLosses world (has_book world label)
      (reply_with (pending_report world label) [] (with_entry world label report_point))

  -- losses that were drained, which go into the book of their label
  unfoldable pub absorb : Label → List ℕ → World P C → Outcome P C (Unit {0})
  absorb label quantities world =
      require ForeignLosses world (has_book world label)
      (reply_with tt [] (with_entry world label (drained_losses quantities)))
