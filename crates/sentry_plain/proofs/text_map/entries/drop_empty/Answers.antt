use Rattle.std.proofs.Common.{◌≡◌, ◌∙◌, ◌<◌, ap, arith, length, subst, sym}
use Rattle.sentry_plain.proofs.PartLemmas.{at_place, filled_here, joined_remove}
use Rattle.sentry_plain.specs.Parts.{AllFilled, joined, part_at}
use Rattle.sentry_plain.proofs.text_map.entries.drop_empty.Goals as goal

pub returns-then-len-gt0-clause-filled : goal.returns-then-len-gt0-clause-filled
returns-then-len-gt0-clause-filled g c =
    let parts = c.args.parts.now.items in
    let here : c.get.result.now ≡ part_at parts c.args.place = c.get.ensures ∙ c.index.ensures ∙ at_place parts c.args.place c.index.result.now c.requires.inside in
    let some : 0 < length (part_at parts c.args.place) = omega (arith, ap length here, c.len.ensures, c.if-len-gt0.true) in
    filled_here parts c.args.place c.requires.filled some

pub returns : goal.returns
returns g c =
    let parts = c.args.parts.now.items in
    let here : c.get.result.now ≡ part_at parts c.args.place = c.get.ensures ∙ c.index.ensures ∙ at_place parts c.args.place c.index.result.now c.requires.inside in
    let none : length (part_at parts c.args.place) ≡ 0 = omega (arith, ap length here, c.len.ensures, c.if-len-gt0.false) in
    record {
      same = ap joined c.remove.ensures.items ∙ joined_remove parts c.args.place none;
      filled = subst AllFilled (sym c.remove.ensures.items) c.requires.filled;
    }
