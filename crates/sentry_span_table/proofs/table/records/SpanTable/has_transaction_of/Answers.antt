use Rattle.std.proofs.Common.{◌∙◌, ap}
use Rattle.sentry_span_table.specs.SpanTables.{has_transaction_of}
use Rattle.sentry_span_table.specs.declared.table.records.SpanTable.{SpanTable}
use Rattle.sentry_span_table.proofs.SpanCountLemmas.{senders_counted}
use Rattle.sentry_span_table.proofs.table.records.SpanTable.has_transaction_of.Goals as goal

-- a count above 0 says that the client will send one
pub returns : goal.returns
returns c =
    let table = c.self.inside in
    c.is_counted.ensures
    ∙ (senders_counted table.tag table.transactions table.sender_counts c.self.invariant.of_senders c.args.client c.if-client-self.false
    ∙ ap (λ (held : SpanTable). has_transaction_of held c.args.client) c.self.view_is)
