use Rattle.std.proofs.Common.{◌∙◌, sym, subst, Some}
use Rattle.std.proofs.lemmas.Cmp.{nat_list_cmp_total}
use Rattle.sentry_plain.specs.Places.{IsAt, IsGap}
use Rattle.sentry_plain.specs.Texts.{text_cmp}
use Rattle.sentry_plain.proofs.SortedLemmas.{lookup_at, lookup_gap, without_at, without_gap}
use Rattle.sentry_plain.proofs.text_map.part.remove_listed.Goals as goal

pub returns-in-Ok-clause-value : goal.returns-in-Ok-clause-value
returns-in-Ok-clause-value g c =
    (λ i. Some (c.remove-value.ensures.value i).1)
    ∙ sym (lookup_at text_cmp nat_list_cmp_total c.args.entries.now.items c.args.key.now c.in-Ok.place c.remove-value.result c.requires
    (subst (λ l. IsAt text_cmp l c.args.key.now c.in-Ok.place) c.as_slice.ensures.value c.in-Ok.ensures.found))

pub returns-in-Ok-clause-rest : goal.returns-in-Ok-clause-rest
returns-in-Ok-clause-rest g c =
    c.remove-value.ensures.items
    ∙ sym (without_at text_cmp nat_list_cmp_total c.args.entries.now.items c.args.key.now c.in-Ok.place c.requires
    (subst (λ l. IsAt text_cmp l c.args.key.now c.in-Ok.place) c.as_slice.ensures.value c.in-Ok.ensures.found))

pub returns-in-Err-clause-value : goal.returns-in-Err-clause-value
returns-in-Err-clause-value g c =
    sym (lookup_gap text_cmp nat_list_cmp_total c.args.entries.now.items c.args.key.now c.in-Err.field-0
    (subst (λ l. IsGap text_cmp l c.args.key.now c.in-Err.field-0) c.as_slice.ensures.value c.in-Err.ensures.absent))

pub returns-in-Err-clause-rest : goal.returns-in-Err-clause-rest
returns-in-Err-clause-rest g c =
    sym (without_gap text_cmp nat_list_cmp_total c.args.entries.now.items c.args.key.now c.in-Err.field-0
    (subst (λ l. IsGap text_cmp l c.args.key.now c.in-Err.field-0) c.as_slice.ensures.value c.in-Err.ensures.absent))
