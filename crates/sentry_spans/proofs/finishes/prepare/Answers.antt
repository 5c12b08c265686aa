use Rattle.sentry_spans.specs.Spans.{sent_transaction}
use Rattle.sentry_spans.proofs.SendLemmas.{prepared_is}
use Rattle.sentry_spans.proofs.finishes.prepare.Goals as goal

pub returns-clause-envelope : goal.returns-clause-envelope
returns-clause-envelope g c =
    prepared_is c.get-options.result.now c.args.client.now.options c.get-options.ensures
    (record {
      filling = c.in_ok-filling.filling;
      trace = c.in_ok-trace.trace;
      report = c.in_ok-report.report;
      items = c.in_ok-items.items;
      sent = c.in_ok-sent.sent;
    })
    c.args.held.now.context
    c.args.rate
    c.args.transaction.now
    (λ spans moment. sent_transaction c.args.client.now c.args.scope.now c.args.held.now.context spans moment c.args.transaction.now)
    c.in_ok-filling.ensures c.in_ok-trace.ensures
