use Rattle.std.proofs.Common.{◌≡◌, ◌∙◌, ap, sym, subst, ℕ, List, None}
use Rattle.std.specs.Prelude.{Option}
use Rattle.sentry_plain.specs.Tables.{value_at}
use Rattle.sentry_plain.specs.Counts.{Counts, Raises}
use Rattle.sentry_span_table.specs.TrueCounts.{transaction_of}
use Rattle.sentry_span_table.specs.declared.table.records.SpanRecord.{SpanRecord}
use Rattle.sentry_plain.proofs.CountLemmas.{comes}
use Rattle.sentry_span_table.proofs.table.records.SpanTable.insert_span.Goals as goal

-- one more belongs to its transaction
pub invariant_of-self-in_default-insert : goal.invariant_of-self-in_default-insert
invariant_of-self-in_default-insert c =
    let table = c.self.inside in
    let none : value_at table.spans c.args.number ≡ None = sym c.in_default.ensures in
    let named = c.transaction_of-transaction.ensures ∙ ap (transaction_of table.tag) c.get-2.ensures in
    let raises = subst (λ (name : Option ℕ). Raises table.span_counts c.raise.new.counts name) named c.in_ok-raise.ensures.ok in
    let counted = comes (transaction_of table.tag) table.spans c.args.number c.args.span none table.span_counts c.raise.new.counts
    c.self.invariant.of_spans raises in
    let true_counts = subst (λ (held : List (ℕ × SpanRecord)). Counts (transaction_of table.tag) c.raise.new.counts held)
    (sym c.in_default-insert.ensures.ok) counted in
    record { of_spans = true_counts; of_senders = c.self.invariant.of_senders }
