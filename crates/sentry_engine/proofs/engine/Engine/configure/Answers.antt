use Rattle.std.proofs.Common.{◌≡◌, ◌∙◌, ap, sym, refl, Bool, true, false, [], ◌∷◌}
use Rattle.std.specs.List.{list_any}
use Rattle.std.specs.Prelude.{◌||◌}
use Rattle.sentry_calls.specs.Hubs.{is_clear}
use Rattle.sentry_engine.proofs.engine.Engine.configure.Goals as goal

alone : (b : Bool) → (b || false) ≡ false → b ≡ false
alone true h = h
alone false h = refl

pub configure_one-requires : goal.configure_one-requires
configure_one-requires g c =
    let none : list_any is_clear c.args.edits.items ≡ false =
    ap (list_any is_clear) (sym c.deref.ensures.value) ∙ (sym c.one_clears.ensures ∙ c.if-one_clears.false) in
    let one : c.args.edits.items ≡ c.in-Ok.edit ∷ [] = c.in-Ok.ensures.one in
    alone (is_clear c.in-Ok.edit) (ap (list_any is_clear) (sym one) ∙ none)

pub configure_all-requires : goal.configure_all-requires
configure_all-requires g c =
    let none : list_any is_clear c.args.edits.items ≡ false =
    ap (list_any is_clear) (sym c.deref.ensures.value) ∙ (sym c.one_clears.ensures ∙ c.if-one_clears.false) in
    ap (λ edits. list_any is_clear edits.items) c.in-Err.ensures.back ∙ none
