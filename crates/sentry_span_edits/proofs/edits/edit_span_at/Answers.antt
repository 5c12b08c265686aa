use Rattle.std.proofs.Common.{◌≡◌, ◌∙◌, ap, sym, refl, Some}
use Rattle.sentry_plain.specs.Tables.{value_at}
use Rattle.sentry_span_table.specs.TrueCounts.{transaction_of}
use Rattle.sentry_plain.proofs.CountLemmas.{stays}
use Rattle.sentry_span_edits.proofs.edits.edit_span_at.Goals as goal

-- its transaction stays
pub invariant_of-spans-2 : goal.invariant_of-spans-2
invariant_of-spans-2 c =
    let table = c.spans.inside in
    let held = c.get_mut-held.result.now in
    let found : value_at table.spans c.args.number ≡ Some held =
    sym c.in-Some.ensures.value ∙ ap Some (sym c.get_mut-held.ensures.value) in
    record {
      of_spans = stays (transaction_of table.tag) table.spans c.args.number held (record held { span = c.edit_span.new.span })
          found refl table.span_counts c.spans.invariant.of_spans;
      of_senders = c.spans.invariant.of_senders;
    }
