use Rattle.std.proofs.Common.{◌∙◌, ap, sym, subst}
use Rattle.std.specs.Prelude.{Ok}
use Rattle.sentry_spans.specs.Ends as call
use Rattle.sentry_spans.proofs.EndLemmas.{end_is, kept_in_world, refused_for_memory}
use Rattle.sentry_spans.proofs.SendLemmas.{may_lack_memory, replied}
use Rattle.sentry_spans.proofs.ends.end_span.Goals as goal
use Rattle.sentry_state.proofs.SpanKeeping.{span_in_table, transaction_in_table}
use Rattle.sentry_state.specs.Worlds.{World, Stands}

-- there is no room for it
pub returns-in_err-move_span : goal.returns-in_err-move_span
returns-in_err-move_span g c =
    refused_for_memory c.args.state.now c.move_span.new.self c.from_residual.result _ c.from_residual.ensures.0
    c.from_residual.ensures.1 c.in_err-move_span.ensures.err (λ world s.
    let held = c.in-Some.held.now in
    let at = sym (c.in-Some.ensures.in_world world s) in
    let found = kept_in_world c.args.state.now world s held.transaction c.if-not-can_move.ensures.in_table in
    let fate = c.if-not-can_move.ensures.keeps world s found.0 found.1 in
    may_lack_memory _ _ _ _ (end_is c.args.key c.args.moment world held found.0 at c.if-not-can_move.ensures.unfinished
    (c.if-not-can_move.ensures.unnamed world s) found.1 fate))

-- it moved
pub returns : goal.returns
returns g c = λ world s.
    let held = c.in-Some.held.now in
    let at = sym (c.in-Some.ensures.in_world world s) in
    let found = kept_in_world c.args.state.now world s held.transaction c.if-not-can_move.ensures.in_table in
    let fate = c.if-not-can_move.ensures.keeps world s found.0 found.1 in
    let is = end_is c.args.key c.args.moment world held found.0 at c.if-not-can_move.ensures.unfinished
    (c.if-not-can_move.ensures.unnamed world s) found.1 fate in
    let done = c.in_ok-move_span.ensures.in_world world held found.0 s
    (span_in_table c.args.state.now world s c.args.key held at)
    (transaction_in_table c.args.state.now world s held.transaction found.0 found.1) fate in (
      ap (λ o. o.answer) is ∙ ap Ok (sym c.out.ensures),
      subst (λ (w : World g.row.P.Denot g.row.C.Denot). Stands c.move_span.new.self w) (sym (ap (λ o. o.after) is)) done,
    )
