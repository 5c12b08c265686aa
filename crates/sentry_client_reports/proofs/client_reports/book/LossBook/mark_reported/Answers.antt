use Rattle.std.proofs.Common.{◌∙◌, ap, sym}
use Rattle.sentry_client_reports.proofs.LossBalances.{nothing_reported}
use Rattle.sentry_client_reports.proofs.client_reports.book.LossBook.mark_reported.Goals as goal

pub returns-then-not-self : goal.returns-then-not-self
returns-then-not-self c = λ history same.
    same ∙ sym (nothing_reported history (sym (ap (λ book. book.pending) (c.self.view_is ∙ same)) ∙ c.self.invariant c.if-not-self.true))
