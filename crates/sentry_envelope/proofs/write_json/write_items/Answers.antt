use Rattle.std.proofs.Common.{ap}
use Rattle.sentry_framing.proofs.Written.{same_json}
use Rattle.sentry_framing.proofs.Lists.{all_left, next_item, no_item, whole_list}
use Rattle.sentry_envelope.proofs.write_json.write_items.Goals as goal

pub loop-item-init : goal.loop-item-init
loop-item-init g c = all_left _ _

pub loop-item-preserved : goal.loop-item-preserved
loop-item-preserved g c =
    let json = g.T.WriteJson.json in
    next_item json c.args.items.now c.loop-item.item-index _ c.loop-item-test.true c.loop-item.invariant
    (same_json (json c.item-item.result) c.in_ok-write.ensures (ap json c.item-item.is))

pub returns : goal.returns
returns g c =
    whole_list c.in_ok-begin_array.ensures (no_item g.T.WriteJson.json c.args.items.now c.loop-item.item-index c.loop-item-test.false c.loop-item.invariant) c.in_ok-end_array.ensures
