use Rattle.std.proofs.Common.{◌≡◌, ◌∙◌, ◌∷◌, sym, ap, arith, subst, zero, suc}
use Rattle.std.specs.List.Sorted.{IsStrictlySortedBy}
use Rattle.std.specs.Map.{keys_of}
use Rattle.sentry_plain.proofs.BodyLemmas.{inside, sorted_first, sorted_other}
use Rattle.sentry_plain.proofs.PartLemmas.{at_place, value_in}
use Rattle.sentry_plain.specs.Parts.{part_at}
use Rattle.sentry_plain.specs.Texts.{text_cmp, value_at}
use Rattle.sentry_plain.proofs.text_map.entries.Body.get.Goals as goal

pub get-requires : goal.get-requires
get-requires g c = sorted_first c.args.self.now c.requires

pub index-requires : goal.index-requires
index-requires g c =
    omega (arith, inside c.args.key.now c.args.self.now.first c.args.self.now.others.items c.in-Some.place c.in-Some.ensures, c.args.self.now.others.ok.0)

pub get-requires-in-Some-2 : goal.get-requires-in-Some-2
get-requires-in-Some-2 g c =
    let body = c.args.self.now in
    let within = inside c.args.key.now body.first body.others.items c.in-Some.place c.in-Some.ensures in
    let here : c.get-in-Some.result.now ≡ part_at body.others.items c.in-Some.place =
    c.get-in-Some.ensures ∙ c.index.ensures ∙ at_place body.others.items c.in-Some.place c.index.result.now within in
    subst (λ m. IsStrictlySortedBy text_cmp (keys_of m)) (sym here) (sorted_other body c.in-Some.place c.requires)

pub returns-in-None : goal.returns-in-None
returns-in-None g c =
    c.get.ensures ∙ sym (value_in c.args.key.now (c.args.self.now.first ∷ c.args.self.now.others.items) zero c.in-None.ensures)

pub returns-in-Some : goal.returns-in-Some
returns-in-Some g c =
    let body = c.args.self.now in
    let within = inside c.args.key.now body.first body.others.items c.in-Some.place c.in-Some.ensures in
    let here : c.get-in-Some.result.now ≡ part_at body.others.items c.in-Some.place =
    c.get-in-Some.ensures ∙ c.index.ensures ∙ at_place body.others.items c.in-Some.place c.index.result.now within in
    c.get-in-Some-2.ensures
    ∙ ap (λ m. value_at m c.args.key.now) here
    ∙ sym (value_in c.args.key.now (body.first ∷ body.others.items) (suc c.in-Some.place) c.in-Some.ensures)
