use Rattle.std.proofs.Common.{◌≡◌, ◌∙◌, ap, sym, refl, Some}
use Rattle.sentry_plain.specs.Tables.{value_at}
use Rattle.sentry_span_table.specs.TrueCounts.{transaction_of}
use Rattle.sentry_plain.proofs.CountLemmas.{stays}
use Rattle.sentry_span_table.proofs.table.records.SpanTable.set_finished.Goals as goal

-- its transaction stays
pub invariant_of-self : goal.invariant_of-self
invariant_of-self c =
    let table = c.self.inside in
    let held = c.get_mut-held.result.now in
    let found : value_at table.spans c.args.number ≡ Some held =
    sym c.in-Some.ensures.value ∙ ap Some (sym c.get_mut-held.ensures.value) in
    record {
      of_spans = stays (transaction_of table.tag) table.spans c.args.number held
          (record held { span = record held.span { timestamp = Some c.args.moment } })
          found refl table.span_counts c.self.invariant.of_spans;
      of_senders = c.self.invariant.of_senders;
    }
