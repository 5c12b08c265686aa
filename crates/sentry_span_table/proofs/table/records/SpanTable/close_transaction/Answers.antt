use Rattle.std.proofs.Common.{◌≡◌, ◌∙◌, ap, sym, subst, ℕ, Some}
use Rattle.std.specs.Prelude.{Option}
use Rattle.sentry_plain.specs.Tables.{value_at}
use Rattle.sentry_plain.specs.Counts.{Lowers}
use Rattle.sentry_span_table.specs.TrueCounts.{sender_of}
use Rattle.sentry_plain.proofs.CountLemmas.{is_there, leaves}
use Rattle.sentry_span_table.proofs.table.records.SpanTable.close_transaction.Goals as goal

-- its client is counted
pub lower-requires : goal.lower-requires
lower-requires c =
    let table = c.self.inside in
    let held = c.get_mut-held.result.now in
    let found : value_at table.transactions c.args.number ≡ Some held =
    sym c.in-Some.ensures.value ∙ ap Some (sym c.get_mut-held.ensures.value) in
    λ number is.
    is_there (sender_of table.tag) table.transactions c.args.number held found table.sender_counts c.self.invariant.of_senders number
    (sym c.client_of-client.ensures ∙ is)

-- and then is not
pub invariant_of-self : goal.invariant_of-self
invariant_of-self c =
    let table = c.self.inside in
    let held = c.get_mut-held.result.now in
    let found : value_at table.transactions c.args.number ≡ Some held =
    sym c.in-Some.ensures.value ∙ ap Some (sym c.get_mut-held.ensures.value) in
    let lowers = subst (λ (name : Option ℕ). Lowers table.sender_counts c.lower.new.counts name) c.client_of-client.ensures c.lower.ensures in
    record {
      of_spans = c.self.invariant.of_spans;
      of_senders = leaves (sender_of table.tag) table.transactions c.args.number held c.close-kept.new.self found
          (ap (sender_of table.tag) c.close-kept.ensures.rest)
          table.sender_counts c.lower.new.counts c.self.invariant.of_senders lowers;
    }
