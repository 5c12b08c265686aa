use Rattle.std.proofs.Common.{◌≡◌, List, ap, subst, true, arith}
use Rattle.std.specs.Prelude.{count_by, ◌==◌}
use Rattle.std.specs.Bool.{OnFalse}
use Rattle.sentry_plain.specs.Counts.{count_at}
use Rattle.sentry_plain.proofs.NumberLemmas.{same_number}
use Rattle.sentry_hub_table.specs.declared.tally.Key.{Key}
use Rattle.sentry_hub_table.specs.declared.tally.Tally.{Tally}
use Rattle.sentry_hub_table.specs.Entries.{is_key}
use Rattle.sentry_hub_table.proofs.TallyLemmas.{late_alone}
use Rattle.sentry_hub_table.proofs.tally.Tally.lower.Goals.{else-key-self-via-then-key-self+else-lower_entry, else-key-self-via-else-key-self}
use Rattle.sentry_hub_table.proofs.tally.Tally.lower.Goals as goal

-- a record at whose number nothing stands is counted in the list
pub unreachable-requires : goal.unreachable-requires
unreachable-requires c =
    let tally = c.args.self.now in
    let key = c.in-Some.key in
    let some = c.requires key c.in-Some.is in
    let gone : count_by (is_key key) c.else-key-self.self.late.items ≡ 0 =
    subst (λ (late : List Key). count_by (is_key key) late ≡ 0) c.as_slice.ensures.value c.in_default-find_late.ensures in
    let same : count_by (is_key key) c.else-key-self.self.late.items ≡ count_by (is_key key) tally.late.items =
    elim c.else-key-self.branch [
      | else-key-self-via-then-key-self+else-lower_entry w ↦ ap (λ (t : Tally). count_by (is_key key) t.late.items) w.self-is
      | else-key-self-via-else-key-self w ↦ ap (λ (t : Tally). count_by (is_key key) t.late.items) w.self-is
    ] in
    let none : (key.tag == tally.tag) ≡ true → count_at tally.counts key.number ≡ 0 = λ own.
    elim c.else-key-self.branch [
      | else-key-self-via-then-key-self+else-lower_entry w ↦
          (subst (λ b. OnFalse b ((count_at tally.counts key.number ≡ 0) × (w.lower_entry.new.counts ≡ tally.counts)))
          w.if-lower_entry.false w.lower_entry.ensures.none).0
      | else-key-self-via-else-key-self w ↦ absurd (w.if-key-self.false (same_number key.tag tally.tag own))
    ] in
    let alone = late_alone tally key none in
    omega arith
