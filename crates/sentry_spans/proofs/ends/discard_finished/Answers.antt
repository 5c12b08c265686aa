use Rattle.std.proofs.Common.{◌∙◌, sym, subst}
use Rattle.sentry_spans.specs.Discards.{discard}
use Rattle.sentry_spans.proofs.EndLemmas.{discard_answer-err, handed_on, stays}
use Rattle.sentry_spans.proofs.ends.discard_finished.Goals as goal
use Rattle.sentry_state.specs.declared.state.State.{State}
use Rattle.sentry_state.specs.Worlds.{World, Stands}

-- what is refused changes nothing
pub returns-in_err-discard : goal.returns-in_err-discard
returns-in_err-discard g c = λ world s.
    let refusal = c.in_err-discard.field-0.0 in
    let refused = c.in_err-discard.ensures.1 world s in (
      handed_on c.from_residual.result refusal c.from_residual.ensures.0 c.from_residual.ensures.1
          ∙ discard_answer-err (discard c.args.span world).answer refusal refused,
      subst (λ (w : World g.row.P.Denot g.row.C.Denot). Stands c.discard.new.state w)
          (sym (stays c.args.span world refusal refused))
          (subst (λ (engine : State g.row.P.Denot g.row.C.Denot). Stands engine world) (sym c.in_err-discard.ensures.0) s),
    )
