use Rattle.std.proofs.Common.{ap, sym, subst}
use Rattle.std.specs.Prelude.{Option}
use Rattle.sentry_span_table.specs.SpanLists.{TransactionHistory}
use Rattle.sentry_span_table.specs.declared.table.records.SpanFate.TheVariants.{Lost, Gone}
use Rattle.sentry_state.specs.Outcomes.{transaction_at}
use Rattle.sentry_state.specs.SpanChanges.{finished_span, with_span}
use Rattle.sentry_state.specs.Worlds.{World, Stands}
use Rattle.sentry_state.proofs.SpanKeeping.{no_transaction, span_in_table, transaction_state}
use Rattle.sentry_spans.specs.Spans.{with_span_in}
use Rattle.sentry_spans.proofs.SpanCalls.{joins, joins_none, stands_without, stands_gone}
use Rattle.sentry_spans.proofs.finishes.finish_in_transaction.Goals as goal

-- the transaction is not held
pub returns-in_default-clause-in_world : goal.returns-in_default-clause-in_world
returns-in_default-clause-in_world g c = λ world held s at.
    let none = no_transaction (transaction_at world c.args.transaction) (c.in_default.ensures.in_world world s) in
    let after = with_span c.args.key.number (finished_span c.args.moment held) world in
    let done = c.set_span_finished.ensures world held s (span_in_table c.args.state.now world s c.args.key held at) in
    subst (λ (w : World g.row.P.Denot g.row.C.Denot). Stands c.set_span_finished.new.self w)
    (sym (joins_none world after c.args.transaction (finished_span c.args.moment held).span none)) done

-- it keeps the span
pub returns-in_ok-keep_span-in-Kept-clause-in_world : goal.returns-in_ok-keep_span-in-Kept-clause-in_world
returns-in_ok-keep_span-in-Kept-clause-in_world g c = λ world held s at.
    let found = transaction_state (transaction_at world c.args.transaction) c.in-Some.kept.now (c.in-Some.ensures.in_world world s) in
    let fate = sym (c.in-Kept.ensures.fate found.0 found.2) in
    let span = (finished_span c.args.moment held).span in
    let after = with_span c.args.key.number (finished_span c.args.moment held) world in
    let kept = c.in_ok-keep_span-in-Kept.ensures.in_world world held found.0 s at found.1 fate in
    subst (λ (w : World g.row.P.Denot g.row.C.Denot). Stands c.keep_span.new.state w)
    (sym (ap (λ (o : Option TransactionHistory). with_span_in c.args.transaction span o after) found.1)) kept

-- it keeps no more
pub returns-in-Lost-clause-in_world : goal.returns-in-Lost-clause-in_world
returns-in-Lost-clause-in_world g c = λ world held s at.
    let found = transaction_state (transaction_at world c.args.transaction) c.in-Some.kept.now (c.in-Some.ensures.in_world world s) in
    let lost = sym (c.in-Lost.ensures.fate found.0 found.2) in
    let span = (finished_span c.args.moment held).span in
    let after = with_span c.args.key.number (finished_span c.args.moment held) world in
    let done = c.set_span_finished-in-Lost.ensures world held s (span_in_table c.args.state.now world s c.args.key held at) in
    let without = stands_without c.set_span_finished-in-Lost.new.self after done c.args.transaction span found.0 c.in-Lost.client found.1 lost in
    let recorded = c.lose_span.ensures _ without in
    subst (λ (w : World g.row.P.Denot g.row.C.Denot). Stands c.lose_span.new.state w)
    (sym (joins world after c.args.transaction span found.0 (Lost c.in-Lost.client) found.1 lost)) recorded

-- it is finished, or traces nothing
pub returns-in-Gone-clause-in_world : goal.returns-in-Gone-clause-in_world
returns-in-Gone-clause-in_world g c = λ world held s at.
    let found = transaction_state (transaction_at world c.args.transaction) c.in-Some.kept.now (c.in-Some.ensures.in_world world s) in
    let gone = sym (c.in-Gone.ensures.fate found.0 found.2) in
    let span = (finished_span c.args.moment held).span in
    let after = with_span c.args.key.number (finished_span c.args.moment held) world in
    let done = c.set_span_finished-in-Gone.ensures world held s (span_in_table c.args.state.now world s c.args.key held at) in
    let without = stands_gone c.set_span_finished-in-Gone.new.self after done c.args.transaction span found.0 found.1 gone in
    subst (λ (w : World g.row.P.Denot g.row.C.Denot). Stands c.set_span_finished-in-Gone.new.self w)
    (sym (joins world after c.args.transaction span found.0 Gone found.1 gone)) without
