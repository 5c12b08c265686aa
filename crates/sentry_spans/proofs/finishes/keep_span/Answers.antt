use Rattle.std.proofs.Common.{◌≡◌, ◌∙◌, ap, sym, subst, ℕ, List}
use Rattle.std.specs.Prelude.{Some}
use Rattle.sentry_plain.specs.Tables.{value_at}
use Rattle.sentry_span_table.specs.SpanLists.{with_span_finished}
use Rattle.sentry_span_table.specs.declared.table.records.SpanFate.{SpanFate}
use Rattle.sentry_span_table.specs.declared.table.records.SpanRecord.{SpanRecord}
use Rattle.sentry_state.specs.SpanChanges.{finished_span, with_span, with_transaction}
use Rattle.sentry_state.specs.Worlds.{World, Stands}
use Rattle.sentry_state.proofs.SpanKeeping.{transaction_in_table, span_in_table}
use Rattle.sentry_spans.specs.Spans.{with_fate}
use Rattle.sentry_spans.proofs.finishes.keep_span.Goals as goal

-- the copy comes to the transaction, and then the span is finished
pub returns-clause-in_world : goal.returns-clause-in_world
returns-clause-in_world g c = λ world held kept s at there fate.
    let same : Some c.in-Some.held.now ≡ Some held = c.in-Some.ensures.in_world world s ∙ at in
    let is : c.in-Some.held.now ≡ held = cc in
    let copy = c.in_ok-copy.ensures ∙ ap (λ (found : SpanRecord). (finished_span c.args.moment found).span) is in
    let pushed =
    c.in_ok-push_span.ensures.in_world world kept s (transaction_in_table c.args.state.now world s c.args.transaction kept there) fate in
    let found =
    ap (λ (spans : List (ℕ × SpanRecord)). value_at spans c.args.key.number) c.in_ok-push_span.ensures.spans
    ∙ span_in_table c.args.state.now world s c.args.key held at in
    let done = c.set_span_finished.ensures _ held pushed found in
    let number = c.args.transaction.number in
    let after = with_span c.args.key.number (finished_span c.args.moment held) world in
    subst (λ (w : World g.row.P.Denot g.row.C.Denot). Stands c.set_span_finished.new.self w)
    ((λ i. with_transaction number (with_span_finished (copy i) kept) after)
    ∙ sym (ap (λ (f : SpanFate). with_fate f (with_transaction number (with_span_finished (finished_span c.args.moment held).span kept) after)) fate))
    done
