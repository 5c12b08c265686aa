use Rattle.std.proofs.Common.{sym, ap, ◌∙◌, not}
use Rattle.sentry_transport.specs.QueueHistories.{Queue, is_limited_by}
use Rattle.sentry_transport.proofs.RecordingLemmas.{leaves_if_empty, leaves_if_left, offered_by_steps}
use Rattle.sentry_transport.proofs.queueing.queue_core.QueueCore.enqueue_left.Goals.{then-came_empty-via-then-came_empty, then-came_empty-via-else-came_empty+then-not-is_empty}
use Rattle.sentry_transport.proofs.queueing.queue_core.QueueCore.enqueue_left.Goals as goal

pub returns-then-came_empty : goal.returns-then-came_empty
returns-then-came_empty c =
    let limits = c.self.inside.limits.until in
    let limited = is_limited_by limits c.args.now in
    let left = c.without_limited-left in
    let done = offered_by_steps c.args.self.now c.record_limited.new.self c.enqueue.new.self c.args.envelope left.result c.args.now limits
    c.record_limited.ensures (ap (λ (queue : Queue). queue.limits) c.self.view_is) left.ensures in
    elim c.then-came_empty.branch [
      | then-came_empty-via-then-came_empty w ↦ done (leaves_if_empty limited c.args.envelope (sym c.is_empty-came_empty.ensures ∙ w.if-came_empty.true)) c.enqueue.ensures
      | then-came_empty-via-else-came_empty+then-not-is_empty w ↦
          done (leaves_if_left limited c.args.envelope left.result left.ensures (ap not (sym w.is_empty.ensures) ∙ ap not w.if-not-is_empty.true)) c.enqueue.ensures
    ]
