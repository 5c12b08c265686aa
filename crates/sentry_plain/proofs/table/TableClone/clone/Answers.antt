use Rattle.std.proofs.Common.{◌∙◌, ap}
use Rattle.sentry_plain.proofs.CloneLemmas.{table-clone, rows-same}
use Rattle.sentry_plain.specs.Rows.{live_rows}
use Rattle.sentry_plain.proofs.table.TableClone.clone.Goals as goal

pub invariant_of-result : goal.invariant_of-result
invariant_of-result g c = table-clone g.T.Clone.is_clone c.self.inside.rows.items c.in_ok-clone.field-0.items c.self.inside.full c.in_ok-clone.ensures.cases.0 c.self.invariant

pub returns : goal.returns
returns g c = record { cases = λ same. ap live_rows (rows-same g.T.Clone.is_clone same c.self.inside.rows.items c.in_ok-clone.field-0.items c.in_ok-clone.ensures.cases.0) ∙ c.self.view_is }
