use Rattle.std.proofs.Common.{◌≡◌, ◌∙◌, ap, sym, subst, ℕ, List, Some, None}
use Rattle.std.specs.Prelude.{Option}
use Rattle.sentry_plain.specs.Tables.{value_at}
use Rattle.sentry_plain.specs.Counts.{Counts, Lowers}
use Rattle.sentry_span_table.specs.TrueCounts.{transaction_of}
use Rattle.sentry_span_table.specs.declared.table.records.SpanRecord.{SpanRecord}
use Rattle.sentry_plain.proofs.CountLemmas.{goes, is_there, none_goes}
use Rattle.sentry_span_table.proofs.table.records.SpanTable.remove_span.Goals as goal

-- nothing stood there
pub invariant_of-self : goal.invariant_of-self
invariant_of-self c =
    let table = c.self.inside in
    let none : value_at table.spans c.args.number ≡ None = sym c.in_default.ensures.value in
    let true_counts = subst (λ (held : List (ℕ × SpanRecord)). Counts (transaction_of table.tag) table.span_counts held)
    (sym c.remove.ensures.rest) (none_goes (transaction_of table.tag) table.spans c.args.number none table.span_counts c.self.invariant.of_spans) in
    record { of_spans = true_counts; of_senders = c.self.invariant.of_senders }

-- its transaction is counted
pub lower-requires : goal.lower-requires
lower-requires c =
    let table = c.self.inside in
    let found : value_at table.spans c.args.number ≡ Some c.in-Some.held = sym c.in-Some.ensures.value in
    let named = c.transaction_of-transaction.ensures ∙ ap (transaction_of table.tag) c.get.ensures in
    λ number is.
    is_there (transaction_of table.tag) table.spans c.args.number c.in-Some.held found table.span_counts c.self.invariant.of_spans number (sym named ∙ is)

-- and then is not
pub invariant_of-self-2 : goal.invariant_of-self-2
invariant_of-self-2 c =
    let table = c.self.inside in
    let found : value_at table.spans c.args.number ≡ Some c.in-Some.held = sym c.in-Some.ensures.value in
    let named = c.transaction_of-transaction.ensures ∙ ap (transaction_of table.tag) c.get.ensures in
    let lowers = subst (λ (name : Option ℕ). Lowers table.span_counts c.lower.new.counts name) named c.lower.ensures in
    let true_counts = subst (λ (held : List (ℕ × SpanRecord)). Counts (transaction_of table.tag) c.lower.new.counts held)
    (sym c.remove.ensures.rest)
    (goes (transaction_of table.tag) table.spans c.args.number c.in-Some.held found table.span_counts c.lower.new.counts c.self.invariant.of_spans lowers) in
    record { of_spans = true_counts; of_senders = c.self.invariant.of_senders }
