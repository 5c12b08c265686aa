use Rattle.std.proofs.Common.{◌≡◌, ◌∙◌, ap, set}
use Rattle.sentry_plain.proofs.PartLemmas.{at_place}
use Rattle.sentry_plain.specs.Parts.{joined, part_at}
use Rattle.sentry_plain.specs.Texts.{value_at, without}
use Rattle.sentry_plain.proofs.text_map.entries.remove_in.Goals as goal

pub returns : goal.returns
returns g c =
    let parts = c.args.parts.now.items in
    let here : c.index_mut.result.now ≡ part_at parts c.args.place =
    c.index_mut.ensures.value ∙ at_place parts c.args.place c.index_mut.result.now c.requires.inside in
    record {
      value = c.in_ok-value.ensures.value ∙ ap (λ m. value_at m c.args.key.now) here;
      ok = c.drop_empty.ensures.same ∙ ap (λ p. joined (set parts c.args.place p)) (c.in_ok-value.ensures.ok ∙ ap (λ m. without m c.args.key.now) here);
      err = tt;
      filled = c.drop_empty.ensures.filled;
    }
