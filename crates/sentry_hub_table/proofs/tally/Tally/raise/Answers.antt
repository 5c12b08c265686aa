use Rattle.std.proofs.Common.{arith}
use Rattle.sentry_hub_table.proofs.TallyLemmas.{entry_at_most}
use Rattle.sentry_hub_table.proofs.tally.Tally.raise.Goals as goal

-- no entry counts more than there is room for
pub raise_entry-requires : goal.raise_entry-requires
raise_entry-requires c =
    let most = entry_at_most c.args.self.now.counts c.in-Some.key.number in
    let room = c.requires in
    let capacity = c.capacity-most.ensures in
    omega arith
