use Rattle.std.proofs.Common.{sym, ap, ◌∙◌, ◌≡◌, subst, length, rules}
use Rattle.sentry_base.specs.Losses.{no_losses, plus}
use Rattle.sentry_client_reports.specs.LossCounts.{CountTaken, CountedPart}
use Rattle.sentry_client_reports.proofs.LossCounts.{counts_more, counts_same, plus_none}
use Rattle.sentry_client_reports.proofs.client_reports.counted.CountedDrainer.drain_into.Goals as goal

-- nothing was taken
pub invariant_of-self : goal.invariant_of-self
invariant_of-self c =
    counts_same c.self.inside.drainer.steps c.drain_into.new.self.steps c.self.inside.taken.quantities c.if-not-drain_into.ensures.steps c.self.invariant

pub returns-then-not-drain_into-clause-taken : goal.returns-then-not-drain_into-clause-taken
returns-then-not-drain_into-clause-taken c =
    let sums = c.self.inside.taken.quantities in
    let long : length sums ≡ 63 = search rules in
    plus_none c.self.inside.drainer.steps sums long c.self.invariant ∙ ap (λ (part : CountedPart). plus part.taken no_losses) c.self.view_is

-- what was taken is counted
pub invariant_of-self-2 : goal.invariant_of-self-2
invariant_of-self-2 c =
    let sums = c.self.inside.taken.quantities in
    subst (λ qs. CountTaken c.drain_into.new.self.steps qs) (sym c.add.ensures.each)
    (counts_more c.self.inside.drainer.steps c.drain_into.new.self.steps c.drain_into.new.losses.quantities sums c.if-not-drain_into.ensures.steps c.self.invariant)
