use Rattle.std.proofs.Common.{◌<◌, length, codes, rules}
use Rattle.sentry_envelope.specs.Members.{map_json}
use Rattle.sentry_envelope.specs.Attributes.{attribute_json}
use Rattle.sentry_framing.proofs.Written.{puts}
use Rattle.sentry_envelope.proofs.Lists.{same_members}
use Rattle.sentry_envelope.proofs.Members.{put_map-some}
use Rattle.sentry_envelope.proofs.attributes.put_attributes.Goals as goal

pub returns : goal.returns
returns c =
    let some : 0 < length c.args.attributes.now = search (rules, c.if-is_empty.false, c.is_empty.ensures) in
    same_members (puts (map_json attribute_json c.args.attributes.now) c.in_ok-key.ensures c.in_ok-write_attributes.ensures) (put_map-some attribute_json (codes "attributes") c.args.attributes.now some)
