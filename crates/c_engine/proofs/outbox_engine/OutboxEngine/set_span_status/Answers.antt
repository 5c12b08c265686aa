use Rattle.sentry_span_edits.specs.Setters as setters
use Rattle.c_engine.specs.Calls.{anything}
use Rattle.c_engine.specs.Keys.{either_key}
use Rattle.c_engine.proofs.Calling.{some_status}
use Rattle.c_engine.proofs.outbox_engine.OutboxEngine.set_span_status.Goals as goal

pub returns : goal.returns
returns c =
    some_status c.args.self.now c.put_span_status.new.self c.put_span_status.result anything
    (λ status. setters.set_status (either_key c.args.is_span c.args.number) status)
    c.args.name.now c.in_ok-text.field-0.now c.in_ok-status.status c.in_ok-text.ensures.text c.in_ok-status.ensures.status
    c.put_span_status.ensures
