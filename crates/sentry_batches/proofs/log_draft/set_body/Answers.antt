use Rattle.std.proofs.Common.{rules}
use Rattle.sentry_batches.proofs.log_draft.set_body.Goals as goal

-- the text and the log that there were
pub returns : goal.returns
returns c = (c.in_ok-body.field-0, search rules, (c.in_ok-log.log, search rules, search rules))
