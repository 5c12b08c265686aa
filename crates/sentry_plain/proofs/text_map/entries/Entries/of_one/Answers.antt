use Rattle.std.proofs.Common.{ap, length, sym}
use Rattle.sentry_plain.proofs.BodyLemmas.{counted_alone}
use Rattle.sentry_plain.proofs.EntryLemmas.{one_sorted}
use Rattle.sentry_plain.proofs.text_map.entries.Entries.of_one.Goals as goal

pub invariant_of-result : goal.invariant_of-result
invariant_of-result g c = counted_alone _ 1 c.new.ensures.items (one_sorted _ c.args.key c.args.value c.in_ok-of_one.ensures) (ap length (sym c.in_ok-of_one.ensures))
