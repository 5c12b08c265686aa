use Rattle.std.proofs.Common.{◌≡◌, ◌∙◌, arith, refl, sym, subst}
use Rattle.std.specs.List.Sorted.{IsStrictlySortedBy}
use Rattle.std.specs.Map.{keys_of}
use Rattle.sentry_plain.proofs.BodyLemmas.{inside, puts_first, puts_other, sorted_first, sorted_other}
use Rattle.sentry_plain.proofs.PartLemmas.{at_place}
use Rattle.sentry_plain.specs.Parts.{part_at}
use Rattle.sentry_plain.specs.Texts.{text_cmp}
use Rattle.sentry_plain.proofs.text_map.entries.Body.insert.Goals as goal

pub insert-requires : goal.insert-requires
insert-requires g c = sorted_first c.args.self.now c.requires

pub index_mut-requires : goal.index_mut-requires
index_mut-requires g c =
    omega (arith, inside c.as_str.result.now c.args.self.now.first c.args.self.now.others.items c.in-Some.place c.in-Some.ensures, c.args.self.now.others.ok.0)

pub insert_shared-requires : goal.insert_shared-requires
insert_shared-requires g c =
    let body = c.args.self.now in
    let within = inside c.as_str.result.now body.first body.others.items c.in-Some.place c.in-Some.ensures in
    let here : c.index_mut.result.now ≡ part_at body.others.items c.in-Some.place =
    c.index_mut.ensures.value ∙ at_place body.others.items c.in-Some.place c.index_mut.result.now within in
    subst (λ m. IsStrictlySortedBy text_cmp (keys_of m)) (sym here) (sorted_other body c.in-Some.place c.requires)

pub returns-in-None : goal.returns-in-None
returns-in-None g c =
    let put = c.insert.ensures in
    let both = puts_first c.insert.result c.args.self.now _ c.args.key c.as_str.result.now c.args.value c.requires c.as_str.ensures c.in-None.ensures put.ok put.count put.one put.err refl in
    record { ok = both.0; err = both.1 }

pub returns-in-Some : goal.returns-in-Some
returns-in-Some g c =
    let put = c.insert_shared.ensures in
    let both = puts_other c.insert_shared.result c.args.self.now _ c.args.key c.as_str.result.now c.args.value c.in-Some.place c.index_mut.result.now c.insert_shared.new.share
    c.requires c.as_str.ensures c.in-Some.ensures c.index_mut.ensures.value put.ok put.count put.one put.err refl refl in
    record { ok = both.0; err = both.1 }
