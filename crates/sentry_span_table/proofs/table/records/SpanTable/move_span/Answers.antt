use Rattle.std.proofs.Common.{◌≡◌, ◌∙◌, ap, sym, subst, refl, ℕ, List, Some}
use Rattle.std.specs.Prelude.{Option}
use Rattle.std.specs.Option.{is_some}
use Rattle.sentry_base.specs.declared.protocol.keys.TransactionKey.{TransactionKey}
use Rattle.sentry_plain.specs.Tables.{value_at}
use Rattle.sentry_plain.specs.Counts.{Counts, Lowers}
use Rattle.sentry_span_table.specs.TrueCounts.{own_number, sender_of, transaction_of}
use Rattle.sentry_span_table.specs.declared.table.records.SpanRecord.{SpanRecord}
use Rattle.sentry_span_table.specs.declared.table.records.SpanTable.{SpanTable}
use Rattle.sentry_plain.proofs.CountLemmas.{goes, is_there, stays}
use Rattle.sentry_span_table.proofs.SpanCountLemmas.{some_value}
use Rattle.sentry_span_table.proofs.table.records.SpanTable.move_span.Goals as goal

-- its transaction is counted
pub lower-requires : goal.lower-requires
lower-requires c =
    let table = c.self.inside in
    let some = some_value (value_at table.spans c.args.number)
    (ap (λ (held : SpanTable). is_some (value_at held.spans c.args.number)) c.self.view_is ∙ c.requires.span) in
    let named = c.own_number-counted.ensures
    ∙ ap (λ (key : TransactionKey). own_number table.tag key.tag key.number) (c.in_ok-from.ensures.key some.0 some.1) in
    λ number is.
    is_there (transaction_of table.tag) table.spans c.args.number some.0 some.1 table.span_counts c.self.invariant.of_spans number
    (sym named ∙ is)

-- and then is not; the client of the transaction that keeps it stays
pub invariant_of-self-2 : goal.invariant_of-self-2
invariant_of-self-2 c =
    let table = c.self.inside in
    let held = c.get_mut-2.result.now in
    let found : value_at table.transactions c.args.transaction ≡ Some held =
    sym c.in-Some.ensures.value ∙ ap Some (sym c.get_mut-2.ensures.value) in
    let some = some_value (value_at table.spans c.args.number)
    (ap (λ (held : SpanTable). is_some (value_at held.spans c.args.number)) c.self.view_is ∙ c.requires.span) in
    let named = c.own_number-counted.ensures
    ∙ ap (λ (key : TransactionKey). own_number table.tag key.tag key.number) (c.in_ok-from.ensures.key some.0 some.1) in
    let lowers = subst (λ (name : Option ℕ). Lowers table.span_counts c.lower.new.counts name) named c.lower.ensures in
    record {
      of_spans = subst (λ (left : List (ℕ × SpanRecord)). Counts (transaction_of table.tag) c.lower.new.counts left)
          (sym c.in_ok-from.ensures.rest)
          (goes (transaction_of table.tag) table.spans c.args.number some.0 some.1 table.span_counts c.lower.new.counts
          c.self.invariant.of_spans lowers);
      of_senders = stays (sender_of table.tag) table.transactions c.args.transaction held (record held { spans = c.move_into.new.kept })
          found refl table.sender_counts c.self.invariant.of_senders;
    }
