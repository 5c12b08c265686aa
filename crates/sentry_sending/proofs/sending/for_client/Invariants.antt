use Rattle.std.proofs.Common.{◌≡◌, ◌++◌}
use Rattle.std.specs.Vec.Iter.{into_iter_items}
use Rattle.sentry_sending.specs.Sending.{for_client}
use Rattle.sentry_sending.proofs.sending.for_client.Given as goal

-- the envelopes that are left complete those that are sent
abbrev pub invariant-loop-envelope : goal.invariant-loop-envelope
invariant-loop-envelope l =
    l.sent ++ for_client l.key l.report (into_iter_items l.envelope-iterator) ≡ for_client l.key l.fn.report l.fn.envelopes.items
