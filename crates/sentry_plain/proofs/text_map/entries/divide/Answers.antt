use Rattle.std.proofs.Common.{◌≡◌, ◌∙◌, ◌+◌, ◌-◌, ◌<◌, ◌/◌, ◌++◌, ap, arith, drop, insert, length, set, suc, subst, sym, take}
use Rattle.std.proofs.lemmas.List.{length-drop, take-append-drop, take_all}
use Rattle.sentry_plain.proofs.PartLemmas.{at_place, filled_insert, filled_set, joined_halves, some_drop, some_take}
use Rattle.sentry_plain.specs.Parts.{AllFilled, joined, part_at}
use Rattle.sentry_plain.proofs.text_map.entries.divide.Goals as goal

pub returns : goal.returns
returns g c =
    let parts = c.args.parts.now.items in
    let place = c.args.place in
    let entries = c.as_slice-entries.result.now in
    let half = length entries / 2 in
    let lower = c.in_ok-lower.lower in
    let upper = c.in_ok-upper.upper in
    let here : entries ≡ part_at parts place =
    c.as_slice-entries.ensures ∙ c.get.ensures ∙ c.index.ensures ∙ at_place parts place c.index.result.now c.requires.inside in
    let lower_is : lower ≡ take half entries = c.in_ok-lower.ensures ∙ c.in_ok-of_clones.ensures in
    let upper_is : upper ≡ drop half entries = c.in_ok-upper.ensures ∙ c.in_ok-of_clones-2.ensures ∙ take_all (length entries - half) (drop half entries) (omega (arith, length-drop half entries)) in
    let some_lower : 0 < length lower = subst (λ p. 0 < length p) (sym lower_is) (some_take half entries (omega (arith, c.if-entries-lt-FULL.false)) (omega (arith, c.if-entries-lt-FULL.false))) in
    let some_upper : 0 < length upper = subst (λ p. 0 < length p) (sym upper_is) (some_drop half entries (omega (arith, c.if-entries-lt-FULL.false))) in
    let next : place + 1 ≡ suc place = omega arith in
    let items : c.insert.new.self.items ≡ insert parts (suc place) upper = c.in_ok-insert.ensures.items ∙ ap (λ n. insert parts n upper) next in
    record {
      same = ap (λ ps. joined (set ps place lower)) items ∙ joined_halves parts place lower upper c.requires.inside ((λ i. lower_is i ++ upper_is i) ∙ take-append-drop half entries ∙ here);
      filled = subst (λ ps. AllFilled (set ps place lower)) (sym items)
          (filled_set (insert parts (suc place) upper) place lower (filled_insert parts (suc place) upper c.requires.filled some_upper) some_lower);
    }
