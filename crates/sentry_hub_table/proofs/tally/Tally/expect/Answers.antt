use Rattle.std.proofs.Common.{ap, sym, ◌∙◌, refl}
use Rattle.sentry_hub_table.specs.Entries.{has_entry}
use Rattle.sentry_hub_table.proofs.TallyLemmas.{entered, here_put}
use Rattle.sentry_hub_table.proofs.tally.Tally.expect.Goals as goal

-- an entry of 0 comes
pub returns-clause-keeps : goal.returns-clause-keeps
returns-clause-keeps c =
    entered c.args.self.now _ c.args.number (sym c.in_default.ensures) refl c.in_ok-insert.ensures.ok refl

pub returns-clause-ok : goal.returns-clause-ok
returns-clause-ok c =
    ap (λ counts. has_entry counts c.args.number) c.in_ok-insert.ensures.ok ∙ here_put c.args.self.now.counts c.args.number 0
