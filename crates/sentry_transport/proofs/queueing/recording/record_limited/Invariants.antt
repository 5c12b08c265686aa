use Rattle.std.proofs.Common.{◌≡◌, map, drop}
use Rattle.sentry_base.specs.declared.protocol.losses.Reason.TheVariants.{RatelimitBackoff}
use Rattle.sentry_base.specs.RecordLosses.{item_losses}
use Rattle.sentry_transport.specs.Limits.{limited_items}
use Rattle.sentry_transport.specs.QueueHistories.{is_limited_by, recorder_after}
use Rattle.sentry_transport.proofs.queueing.recording.record_limited.Given as goal

-- the items that are left complete what is recorded
abbrev pub invariant-loop-item : goal.invariant-loop-item
invariant-loop-item l =
    recorder_after (map (item_losses RatelimitBackoff) (limited_items (is_limited_by l.limits.until l.now) (drop l.item-index l.items))) l.recorder
    ≡ recorder_after (map (item_losses RatelimitBackoff) (limited_items (is_limited_by l.limits.until l.now) l.items)) l.fn.recorder
