use Rattle.std.proofs.Common.{ap, sym, ◌∙◌, Some, refl}
use Rattle.sentry_plain.specs.Tables.{value_at}
use Rattle.sentry_hub_table.proofs.TallyLemmas.{forgotten}
use Rattle.sentry_hub_table.proofs.tally.Tally.forget.Goals as goal

-- an entry of 0 goes
pub returns : goal.returns
returns c =
    let rest = c.remove.ensures.rest in
    forgotten c.args.self.now _ c.args.number (sym c.in-Some.ensures ∙ ap Some c.if-count-ne0.false) refl rest refl
    (λ n. ap (λ counts. value_at counts n) (sym rest) ∙ c.remove.ensures.updates n)
