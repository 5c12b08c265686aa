use Rattle.std.proofs.Common.{◌≡◌, ◌∙◌, ap, ◌++◌}
use Rattle.c_base.specs.Outboxes.{Stacktraces, waiting}
use Rattle.c_base.specs.Queues.{noted}
use Rattle.c_base.proofs.outbox.Outbox.keep.Goals as goal

-- no stack traces
pub returns : goal.returns
returns c =
    c.keep.ensures
    ∙ ap (λ (none : Stacktraces). waiting c.args.self.now ++ noted none c.args.sent) c.new-none.ensures
