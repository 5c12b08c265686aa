use Rattle.std.proofs.Common.{◌∙◌, ap}
use Rattle.sentry_span_table.specs.SpanTables.{has_span_of}
use Rattle.sentry_span_table.specs.declared.table.records.SpanTable.{SpanTable}
use Rattle.sentry_span_table.proofs.SpanCountLemmas.{spans_counted}
use Rattle.sentry_span_table.proofs.table.records.SpanTable.has_span_of.Goals as goal

-- a count above 0 says that a span belongs to it
pub returns : goal.returns
returns c =
    let table = c.self.inside in
    c.is_counted.ensures
    ∙ (spans_counted table.tag table.spans table.span_counts c.self.invariant.of_spans c.args.key c.if-key-self.false
    ∙ ap (λ (held : SpanTable). has_span_of held c.args.key) c.self.view_is)
