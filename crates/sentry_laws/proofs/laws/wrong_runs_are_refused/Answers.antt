use Rattle.sentry_laws.proofs.Wrong.{derived_leaves, silent_refused, kept_log_refused, later_crash_refused, overwritten_refused, foreign_span_refused, outliving_refused}
use Rattle.sentry_laws.proofs.laws.wrong_runs_are_refused.Goals as goal

pub returns : goal.returns
returns c s = record {
  isolation = λ meanings. derived_leaves c.row.P.Denot c.row.C.Denot meanings;
  logs = silent_refused c.row.P.Denot c.row.C.Denot;
  closed = kept_log_refused c.row.P.Denot c.row.C.Denot;
  status = later_crash_refused;
  kept = overwritten_refused c.row.P.Denot c.row.C.Denot;
  traces = foreign_span_refused;
  sessions = outliving_refused c.row.P.Denot c.row.C.Denot;
}
