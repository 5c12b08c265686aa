use Rattle.std.proofs.Common.{◌∙◌, sym, subst}
use Rattle.std.proofs.lemmas.Cmp.{nat_list_cmp_total}
use Rattle.sentry_plain.specs.Places.{IsAt, IsGap}
use Rattle.sentry_plain.specs.Texts.{text_cmp}
use Rattle.sentry_plain.proofs.EntryLemmas.{set_here}
use Rattle.sentry_plain.proofs.SortedLemmas.{put_gap}
use Rattle.sentry_plain.proofs.text_map.part.insert_listed.Goals as goal

pub returns-in-Ok-clause-ok : goal.returns-in-Ok-clause-ok
returns-in-Ok-clause-ok g c =
    set_here c.args.entries.now.items c.args.key c.args.value c.in-Ok.place c.requires
    (subst (λ l. IsAt text_cmp l c.args.key c.in-Ok.place) c.as_slice.ensures.value
    (subst (λ k. IsAt text_cmp c.as_slice.result.now k c.in-Ok.place) c.as_str.ensures c.in-Ok.ensures.found))

pub returns-in_ok-insert-in-Err-clause-ok : goal.returns-in_ok-insert-in-Err-clause-ok
returns-in_ok-insert-in-Err-clause-ok g c =
    c.in_ok-insert-in-Err.ensures.items
    ∙ sym (put_gap text_cmp nat_list_cmp_total c.args.entries.now.items c.args.key c.args.value c.in-Err.place
    (subst (λ l. IsGap text_cmp l c.args.key c.in-Err.place) c.as_slice.ensures.value
    (subst (λ k. IsGap text_cmp c.as_slice.result.now k c.in-Err.place) c.as_str.ensures c.in-Err.ensures.absent)))
