-- What an engine has of a transaction that is edited.
use Rattle.std.proofs.Common.{◌≡◌, refl, ap, List, Bool, true, false, cond}
use Rattle.std.specs.Prelude.{Option, Some, None, is_some, ◌==◌}
use Rattle.std.specs.Option.{option_map}
use Rattle.sentry_base.specs.declared.protocol.span.Span.{Span}
use Rattle.sentry_span_edits.specs.Edits.{edit_held, edit_transaction, edit_unfinished}
use Rattle.sentry_span_edits.specs.declared.edit.SpanEdit.{SpanEdit}
use Rattle.sentry_span_table.specs.SpanLists.{TransactionHistory, kept_spans, stored_transaction, spans_left}
use Rattle.sentry_plain.specs.Tables.{value_at}
use Rattle.sentry_base.specs.declared.protocol.keys.SpanKey.{SpanKey}
use Rattle.sentry_span_table.specs.SpanTables.{span_in}
use Rattle.sentry_span_table.specs.declared.table.records.SpanTable.{SpanTable}
use Rattle.sentry_span_table.specs.declared.table.records.Unfinished.{Unfinished}

-- a change of what is unfinished leaves the spans that are kept
spans_stay : (change : Unfinished → Unfinished) (unfinished : Option Unfinished) (kept : List Span)
    → spans_left unfinished kept ≡ spans_left (option_map change unfinished) kept
spans_stay change None kept = refl
spans_stay change (Some unfinished) kept = refl

-- an edit of what the engine has is what the engine has after the edit
pub held_edited : (edit : SpanEdit) (state : TransactionHistory)
    → edit_held edit (stored_transaction state) ≡ stored_transaction (edit_transaction edit state)
held_edited edit state =
    ap (λ spans. record (stored_transaction (edit_transaction edit state)) { spans = spans })
    (spans_stay (edit_unfinished edit) state.unfinished (kept_spans state.tracing state.max_spans state.finished))

some_under : {X : Type 0} (b : Bool) (found : Option X) → is_some (cond b found None) ≡ true → is_some found ≡ true
some_under true found h = h
some_under false found h = absurd cc

-- a span that the table holds stands under the number of its key
pub span_under_number : (table : SpanTable) (key : SpanKey) → is_some (span_in table key) ≡ true
    → is_some (value_at table.spans key.number) ≡ true
span_under_number table key h = some_under (key.tag == table.tag) (value_at table.spans key.number) h
