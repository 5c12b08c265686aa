use Rattle.std.proofs.Common.{◌≡◌, ◌∙◌, ap, sym, refl, Some}
use Rattle.sentry_plain.specs.Tables.{value_at}
use Rattle.sentry_span_table.specs.SpanTables.{rename_unfinished}
use Rattle.sentry_span_table.specs.TrueCounts.{client_of, sender_of}
use Rattle.sentry_plain.proofs.CountLemmas.{stays}
use Rattle.sentry_span_table.proofs.SpanCountLemmas.{same_client}
use Rattle.sentry_span_table.proofs.table.records.SpanTable.set_name.Goals as goal

-- its client stays
pub invariant_of-self-2 : goal.invariant_of-self-2
invariant_of-self-2 c =
    let table = c.self.inside in
    let held = c.get_mut-held.result.now in
    let found : value_at table.transactions c.in-Some.key.number ≡ Some held =
    sym c.in-Some-get_mut.ensures.value ∙ ap Some (sym c.get_mut-held.ensures.value) in
    let after = c.set_unfinished_name.new.unfinished in
    let same : client_of table.tag after ≡ client_of table.tag held.unfinished =
    ap (client_of table.tag) c.set_unfinished_name.ensures
    ∙ same_client (rename_unfinished c.args.name) (λ unfinished. refl) table.tag held.unfinished in
    record {
      of_spans = c.self.invariant.of_spans;
      of_senders = stays (sender_of table.tag) table.transactions c.in-Some.key.number held (record held { unfinished = after })
          found same table.sender_counts c.self.invariant.of_senders;
    }
