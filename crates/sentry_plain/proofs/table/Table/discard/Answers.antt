use Rattle.std.proofs.Common.{◌∙◌, None, ap, cond, is_eq}
use Rattle.std.specs.Ordering.{nat_cmp}
use Rattle.sentry_plain.proofs.TableLemmas.{left_at}
use Rattle.sentry_plain.specs.Tables.{value_at}
use Rattle.sentry_plain.proofs.table.Table.discard.Goals as goal

pub returns-clause-updates : goal.returns-clause-updates
returns-clause-updates g c = λ n.
    ap (λ m. value_at m n) (c.trim.ensures.live ∙ c.drop_value.ensures.live)
    ∙ left_at c.self.inside.rows.items c.self.inside.full c.args.number n c.self.invariant
    ∙ ap (λ m. cond (is_eq (nat_cmp c.args.number n)) None (value_at m n)) c.self.view_is
