use Rattle.json.specs.Json.{array}
use Rattle.sentry_framing.specs.Json.{items_of}
use Rattle.sentry_envelope.specs.Logs.{log_json}
use Rattle.sentry_framing.proofs.Written.{made, puts}
use Rattle.sentry_envelope.proofs.logs.write_logs.Goals as goal

pub returns : goal.returns
returns c =
    made c.in_ok-begin_object.ensures
    (puts (array (items_of log_json c.args.logs.now)) c.in_ok-key.ensures c.in_ok-write_items.ensures)
    c.in_ok-end_object.ensures
