use Rattle.sentry_writers.proofs.NameLemmas.{names_in_order, names_differ}
use Rattle.sentry_writers.proofs.laws.names_are_in_order.Goals as goal

pub returns-clause-order : goal.returns-clause-order
returns-clause-order c = names_in_order

pub returns-clause-apart : goal.returns-clause-apart
returns-clause-apart c = names_differ
