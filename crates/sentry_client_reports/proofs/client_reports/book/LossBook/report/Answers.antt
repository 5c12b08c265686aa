use Rattle.std.proofs.Common.{◌∙◌, ap, sym}
use Rattle.sentry_base.specs.Losses as losses
use Rattle.sentry_client_reports.specs.LossBooks.{report_items, report_of}
use Rattle.sentry_client_reports.proofs.client_reports.book.LossBook.report.Goals as goal

pub returns-then-not-self : goal.returns-then-not-self
unfolding losses.values_from
returns-then-not-self c =
    ap (λ quantities. report_of (report_items quantities)) (sym (c.self.invariant c.if-not-self.true))
    ∙ ap (λ book. report_of (report_items book.pending)) c.self.view_is
