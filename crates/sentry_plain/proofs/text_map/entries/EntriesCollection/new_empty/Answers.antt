use Rattle.std.proofs.Common.{ap, length, sym}
use Rattle.sentry_plain.proofs.BodyLemmas.{counted_alone}
use Rattle.sentry_plain.proofs.EntryLemmas.{empty_sorted}
use Rattle.sentry_plain.proofs.text_map.entries.EntriesCollection.new_empty.Goals as goal

pub invariant_of-result : goal.invariant_of-result
invariant_of-result g c = counted_alone _ 0 c.new-2.ensures.items (empty_sorted _ c.new.ensures) (ap length (sym c.new.ensures))
