use Rattle.sentry_plain.specs.Tables.{value_at}
use Rattle.sentry_lock.proofs.Walks.{drains_next}
use Rattle.sentry_lock.proofs.locked.Core.drain_next.Goals as goal

pub returns-clause-drained : goal.returns-clause-drained
returns-clause-drained g c =
    let self = c.args.self.now in
    let next = c.drain_label.new.self in
    let number = c.in-Some.number in
    drains_next self.tag c.args.last number self.engine next.engine self.drainers next.drainers
    (value_at self.drainers number) c.in-Some.ensures
    c.drain_label.ensures.drained
