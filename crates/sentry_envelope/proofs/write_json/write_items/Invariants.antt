use Rattle.std.proofs.Common.{drop}
use Rattle.sentry_framing.specs.Json.{Left}
use Rattle.sentry_framing.proofs.Lists.{left_of}
use Rattle.sentry_envelope.proofs.write_json.write_items.Given as goal

abbrev pub invariant-loop-item : goal.invariant-loop-item
invariant-loop-item g l =
    Left l.initial.out l.out (left_of g.T.WriteJson.json (drop l.item-index l.items)) (left_of g.T.WriteJson.json l.items)
