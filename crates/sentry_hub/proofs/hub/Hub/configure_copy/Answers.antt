use Rattle.sentry_calls.specs.Hubs as hubs
use Rattle.sentry_lock.specs.Answers.{LockDrainsAndAnswers}
use Rattle.sentry_scope.specs.declared.scope.edit.ScopeEdit.{ScopeEdit}
use Rattle.std.proofs.Common.{◌∙◌, rules, subst}
use Rattle.std.specs.Prelude.{List}
use Rattle.sentry_hub.proofs.hub.Hub.configure_copy.Goals as goal

pub returns : goal.returns
returns g c =
    let done = subst (λ (list : List (ScopeEdit g.row.L-Processor.Denot)). LockDrainsAndAnswers g.row.L-Processor.Denot g.row.L-Callbacks.Denot g.row.L-Transport.Denot tt
    (hubs.configure c.args.self.now list c.args.now)) (c.into_vec.ensures ∙ c.into_edits.ensures) c.in_ok-configure.ensures in
    record { lent = _; left = _; shows = search rules; begins = search rules; met = c.in_ok-answer.ensures; done = done }
