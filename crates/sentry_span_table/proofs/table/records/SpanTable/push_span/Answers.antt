use Rattle.std.proofs.Common.{◌≡◌, ◌∙◌, ap, sym, refl, Some}
use Rattle.sentry_plain.specs.Tables.{value_at}
use Rattle.sentry_span_table.specs.TrueCounts.{sender_of}
use Rattle.sentry_plain.proofs.CountLemmas.{stays}
use Rattle.sentry_span_table.proofs.table.records.SpanTable.push_span.Goals as goal

-- its client stays
pub invariant_of-self-2 : goal.invariant_of-self-2
invariant_of-self-2 c =
    let table = c.self.inside in
    let held = c.get_mut-held.result.now in
    let found : value_at table.transactions c.args.number ≡ Some held =
    sym c.in-Some.ensures.value ∙ ap Some (sym c.get_mut-held.ensures.value) in
    record {
      of_spans = c.self.invariant.of_spans;
      of_senders = stays (sender_of table.tag) table.transactions c.args.number held (record held { spans = c.push.new.self })
          found refl table.sender_counts c.self.invariant.of_senders;
    }
