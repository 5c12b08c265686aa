use Rattle.std.proofs.Common.{length}
use Rattle.sentry_framing.proofs.Parts.{Taken}
use Rattle.sentry_framing.proofs.receiver.read_items.Given as goal

abbrev pub invariant-loop-rest : goal.invariant-loop-rest
invariant-loop-rest l = Taken l.text l.rest l.items.items

abbrev pub decreases-loop-rest : goal.decreases-loop-rest
decreases-loop-rest l = length l.rest
