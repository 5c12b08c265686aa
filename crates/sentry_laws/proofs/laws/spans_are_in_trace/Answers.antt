use Rattle.sentry_laws.proofs.FinishedTraces.{finished_with_trace}
use Rattle.sentry_laws.proofs.SentTraces.{sent_in_trace}
use Rattle.sentry_laws.proofs.Traces.{kept_in_trace, held_in_trace}
use Rattle.sentry_laws.proofs.laws.spans_are_in_trace.Goals as goal

pub returns : goal.returns
returns c s = record {
  kept = kept_in_trace;
  held = held_in_trace;
  sent = sent_in_trace;
  finished = finished_with_trace;
}
