use Rattle.std.proofs.Common.{◌≡◌, ◌∙◌}
use Rattle.sentry_state.specs.Books.{pending_report}
use Rattle.sentry_telemetry.proofs.ForClient.{for_client_more}
use Rattle.sentry_telemetry.proofs.prepared_envelopes.prepare_envelopes.Goals as goal

-- the first envelopes took the report, or left it
pub returns-clause-sent : goal.returns-clause-sent
returns-clause-sent g c = λ world s others.
    let items : c.reserve.new.self.items ≡ c.in_ok-sent.sent = c.reserve.ensures.items ∙ c.into_vec-sent.ensures in
    for_client_more c.args.key (pending_report world c.args.label) c.in_ok-report.report c.args.envelopes others
    c.in_ok-sent.sent c.reserve.new.self.items items (c.in_ok-sent.ensures world s) (c.in_ok-report.ensures world s)
