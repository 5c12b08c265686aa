use Rattle.std.proofs.Common.{◌≡◌, ◌∙◌, ap, sym, subst, ℕ, List, None}
use Rattle.std.specs.Prelude.{Option}
use Rattle.sentry_plain.specs.Tables.{value_at}
use Rattle.sentry_plain.specs.Counts.{Counts, Raises}
use Rattle.sentry_span_table.specs.TrueCounts.{sender_of}
use Rattle.sentry_span_table.specs.declared.table.records.TransactionRecord.{TransactionRecord}
use Rattle.sentry_plain.proofs.CountLemmas.{comes}
use Rattle.sentry_span_table.proofs.table.records.SpanTable.insert_transaction.Goals as goal

-- its client will send one more
pub invariant_of-self-in_default-insert : goal.invariant_of-self-in_default-insert
invariant_of-self-in_default-insert c =
    let table = c.self.inside in
    let none : value_at table.transactions c.args.number ≡ None = sym c.in_default.ensures in
    let named = c.client_of-client.ensures ∙ ap (sender_of table.tag) c.get-2.ensures in
    let raises = subst (λ (name : Option ℕ). Raises table.sender_counts c.raise.new.counts name) named c.in_ok-raise.ensures.ok in
    let counted = comes (sender_of table.tag) table.transactions c.args.number c.args.transaction none table.sender_counts c.raise.new.counts
    c.self.invariant.of_senders raises in
    let true_counts = subst (λ (held : List (ℕ × TransactionRecord)). Counts (sender_of table.tag) c.raise.new.counts held)
    (sym c.in_default-insert.ensures.ok) counted in
    record { of_spans = c.self.invariant.of_spans; of_senders = true_counts }
