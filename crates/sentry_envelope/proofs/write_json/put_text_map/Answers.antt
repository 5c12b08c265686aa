use Rattle.std.proofs.Common.{◌<◌, length, rules}
use Rattle.sentry_envelope.specs.Members.{map_json}
use Rattle.sentry_framing.proofs.Written.{puts}
use Rattle.sentry_envelope.proofs.Lists.{same_members}
use Rattle.sentry_envelope.proofs.Members.{put_map-some}
use Rattle.sentry_envelope.proofs.write_json.put_text_map.Goals as goal

pub returns : goal.returns
returns g c =
    let json = g.T.WriteJson.json in
    let some : 0 < length c.args.map.now = search (rules, c.if-is_empty.false, c.is_empty.ensures) in
    same_members (puts (map_json json c.args.map.now) c.in_ok-key.ensures c.in_ok-write_text_map.ensures) (put_map-some json c.args.key.now c.args.map.now some)
