use Rattle.std.proofs.Common.{◌≡◌, ◌∙◌, ap, sym}
use Rattle.std.proofs.lemmas.Bool.{eqb-true}
use Rattle.std.proofs.lemmas.List.{nil_from_length}
use Rattle.sentry_pipeline.specs.Pipeline.{fill_defaults}
use Rattle.sentry_pipeline.proofs.DefaultLemmas.{filled_nil}
use Rattle.sentry_pipeline.proofs.pipeline.attributes.fill_defaults.Goals as goal

-- no attributes share the defaults
pub returns-then-is_empty-clause-fills : goal.returns-then-is_empty-clause-fills
returns-then-is_empty-clause-fills c =
    let all : fill_defaults c.args.defaults.now c.args.attributes.now ≡ c.args.defaults.now =
    ap (fill_defaults c.args.defaults.now)
    (nil_from_length c.args.attributes.now (eqb-true _ 0 (sym c.is_empty.ensures ∙ c.if-is_empty.true)))
    ∙ filled_nil c.args.defaults.now c.iter-entries.ensures.ordered in
    c.in_ok-attributes.ensures.cases (λ x y same. same) ∙ sym all
