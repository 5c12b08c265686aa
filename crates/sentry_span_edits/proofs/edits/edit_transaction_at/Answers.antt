use Rattle.std.proofs.Common.{◌≡◌, ◌∙◌, ap, sym, refl, Some}
use Rattle.sentry_plain.specs.Tables.{value_at}
use Rattle.sentry_span_edits.specs.Edits.{edit_unfinished}
use Rattle.sentry_span_table.specs.TrueCounts.{sender_of}
use Rattle.sentry_plain.proofs.CountLemmas.{stays}
use Rattle.sentry_span_table.proofs.SpanCountLemmas.{same_client}
use Rattle.sentry_span_edits.proofs.edits.edit_transaction_at.Goals as goal

-- its client stays
pub invariant_of-spans-2 : goal.invariant_of-spans-2
invariant_of-spans-2 c =
    let table = c.spans.inside in
    let held = c.get_mut-2.result.now in
    let found : value_at table.transactions c.args.number ≡ Some held =
    sym c.in-Some.ensures.value ∙ ap Some (sym c.get_mut-2.ensures.value) in
    let same = ap (sender_of table.tag) c.in_ok-edit_held.ensures.ok
    ∙ same_client (edit_unfinished c.args.edit) (λ unfinished. refl) table.tag held.unfinished in
    record {
      of_spans = c.spans.invariant.of_spans;
      of_senders = stays (sender_of table.tag) table.transactions c.args.number held c.edit_held.new.held
          found same table.sender_counts c.spans.invariant.of_senders;
    }
