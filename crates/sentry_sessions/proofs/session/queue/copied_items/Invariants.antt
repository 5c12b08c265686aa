use Rattle.std.proofs.Common.{◌≡◌, ◌++◌, map, drop}
use Rattle.sentry_base.specs.declared.protocol.envelope.EnvelopeItem.TheVariants as item
use Rattle.sentry_sessions.proofs.session.queue.copied_items.Given as goal

-- the updates that are left complete the items
abbrev pub invariant-loop-update : goal.invariant-loop-update
invariant-loop-update l =
    l.items.items ++ map item.SessionUpdate (drop l.update-index l.updates) ≡ map item.SessionUpdate l.updates
