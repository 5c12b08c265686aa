use Rattle.std.proofs.Common.{sym}
use Rattle.std.proofs.lemmas.Cmp.{nat_list_cmp_total}
use Rattle.sentry_plain.specs.Texts.{text_cmp}
use Rattle.sentry_plain.proofs.SortedLemmas.{lookup_at, lookup_gap}
use Rattle.sentry_plain.proofs.text_map.part.get_listed.Goals as goal

pub returns-in-Ok : goal.returns-in-Ok
returns-in-Ok g c =
    sym (lookup_at text_cmp nat_list_cmp_total c.args.entries.now c.args.key.now c.in-Ok.place c.index-entries-place.result c.requires c.in-Ok.ensures.found)

pub returns-in-Err : goal.returns-in-Err
returns-in-Err g c = sym (lookup_gap text_cmp nat_list_cmp_total c.args.entries.now c.args.key.now c.in-Err.field-0 c.in-Err.ensures.absent)
