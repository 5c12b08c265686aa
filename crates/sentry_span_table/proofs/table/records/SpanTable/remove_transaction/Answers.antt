use Rattle.std.proofs.Common.{◌≡◌, ◌∙◌, ap, sym, subst, ℕ, List, Some, None}
use Rattle.std.specs.Prelude.{Option}
use Rattle.sentry_plain.specs.Tables.{value_at}
use Rattle.sentry_plain.specs.Counts.{Counts, Lowers}
use Rattle.sentry_span_table.specs.TrueCounts.{sender_of}
use Rattle.sentry_span_table.specs.declared.table.records.TransactionRecord.{TransactionRecord}
use Rattle.sentry_plain.proofs.CountLemmas.{goes, is_there, none_goes}
use Rattle.sentry_span_table.proofs.table.records.SpanTable.remove_transaction.Goals as goal

-- nothing stood there
pub invariant_of-self : goal.invariant_of-self
invariant_of-self c =
    let table = c.self.inside in
    let none : value_at table.transactions c.args.number ≡ None = sym c.in_default.ensures.value in
    let true_counts = subst (λ (held : List (ℕ × TransactionRecord)). Counts (sender_of table.tag) table.sender_counts held)
    (sym c.remove.ensures.rest) (none_goes (sender_of table.tag) table.transactions c.args.number none table.sender_counts c.self.invariant.of_senders) in
    record { of_spans = c.self.invariant.of_spans; of_senders = true_counts }

-- its client is counted
pub lower-requires : goal.lower-requires
lower-requires c =
    let table = c.self.inside in
    let found : value_at table.transactions c.args.number ≡ Some c.in-Some.held = sym c.in-Some.ensures.value in
    let named = c.client_of-client.ensures ∙ ap (sender_of table.tag) c.get.ensures in
    λ number is.
    is_there (sender_of table.tag) table.transactions c.args.number c.in-Some.held found table.sender_counts c.self.invariant.of_senders number (sym named ∙ is)

-- and then is not
pub invariant_of-self-2 : goal.invariant_of-self-2
invariant_of-self-2 c =
    let table = c.self.inside in
    let found : value_at table.transactions c.args.number ≡ Some c.in-Some.held = sym c.in-Some.ensures.value in
    let named = c.client_of-client.ensures ∙ ap (sender_of table.tag) c.get.ensures in
    let lowers = subst (λ (name : Option ℕ). Lowers table.sender_counts c.lower.new.counts name) named c.lower.ensures in
    let true_counts = subst (λ (held : List (ℕ × TransactionRecord)). Counts (sender_of table.tag) c.lower.new.counts held)
    (sym c.remove.ensures.rest)
    (goes (sender_of table.tag) table.transactions c.args.number c.in-Some.held found table.sender_counts c.lower.new.counts c.self.invariant.of_senders lowers) in
    record { of_spans = c.self.invariant.of_spans; of_senders = true_counts }
