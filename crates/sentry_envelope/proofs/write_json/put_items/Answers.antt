use Rattle.std.proofs.Common.{◌<◌, length, rules}
use Rattle.json.specs.Json.{array}
use Rattle.sentry_framing.specs.Json.{items_of}
use Rattle.sentry_framing.proofs.Written.{puts}
use Rattle.sentry_envelope.proofs.Lists.{same_members}
use Rattle.sentry_envelope.proofs.Members.{put_items-some}
use Rattle.sentry_envelope.proofs.write_json.put_items.Goals as goal

pub returns : goal.returns
returns g c =
    let json = g.T.WriteJson.json in
    let some : 0 < length c.args.items.now = search (rules, c.if-is_empty.false, c.is_empty.ensures) in
    same_members (puts (array (items_of json c.args.items.now)) c.in_ok-key.ensures c.in_ok-write_items.ensures) (put_items-some json c.args.key.now c.args.items.now some)
