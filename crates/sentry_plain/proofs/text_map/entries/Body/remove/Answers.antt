use Rattle.std.proofs.Common.{◌∙◌, ◌∷◌, ◌++◌, refl, sym, zero}
use Rattle.sentry_plain.proofs.BodyLemmas.{inside, order_without, removes_other, sorted_first, sorted_other}
use Rattle.sentry_plain.proofs.PartLemmas.{value_in, without_in}
use Rattle.sentry_plain.specs.Parts.{joined}
use Rattle.sentry_plain.proofs.text_map.entries.Body.remove.Goals as goal

pub remove-requires : goal.remove-requires
remove-requires g c = sorted_first c.args.self.now c.requires

pub remove_in-requires-clause-inside : goal.remove_in-requires-clause-inside
remove_in-requires-clause-inside g c = inside c.args.key.now c.args.self.now.first c.args.self.now.others.items c.in-Some.place c.in-Some.ensures

pub remove_in-requires-clause-order : goal.remove_in-requires-clause-order
remove_in-requires-clause-order g c = sorted_other c.args.self.now c.in-Some.place c.requires

pub returns-in-None : goal.returns-in-None
returns-in-None g c =
    let body = c.args.self.now in
    let rest = (λ i. c.remove.ensures.rest i ++ joined body.others.items) ∙ sym (without_in c.args.key.now (body.first ∷ body.others.items) zero c.in-None.ensures) in
    record {
      value = c.remove.ensures.value ∙ sym (value_in c.args.key.now (body.first ∷ body.others.items) zero c.in-None.ensures);
      rest = rest;
      all = order_without body _ c.args.key.now c.requires rest c.requires.filled;
      err = tt;
    }

pub returns-in-Some : goal.returns-in-Some
returns-in-Some g c =
    let less = c.remove_in.ensures in
    let four = removes_other c.remove_in.result c.args.self.now _ c.args.key.now c.in-Some.place c.requires c.in-Some.ensures less.value less.ok less.err less.filled refl in
    record { value = four.0; rest = four.1.0; all = four.1.1.0; err = four.1.1.1 }
