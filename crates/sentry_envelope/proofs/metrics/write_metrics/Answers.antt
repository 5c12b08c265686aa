use Rattle.json.specs.Json.{array}
use Rattle.sentry_framing.specs.Json.{items_of}
use Rattle.sentry_envelope.specs.Metrics.{metric_json}
use Rattle.sentry_framing.proofs.Written.{made, puts}
use Rattle.sentry_envelope.proofs.metrics.write_metrics.Goals as goal

pub returns : goal.returns
returns c =
    made c.in_ok-begin_object.ensures
    (puts (array (items_of metric_json c.args.metrics.now)) c.in_ok-key.ensures c.in_ok-write_items.ensures)
    c.in_ok-end_object.ensures
