use Rattle.json.specs.Json.{no_members}
use Rattle.json.specs.Tree.{members_tokens}
use Rattle.sentry_framing.specs.Json.{Left}
use Rattle.sentry_envelope.specs.Attributes.{attribute_json}
use Rattle.sentry_envelope.specs.Members.{put_entries}
use Rattle.sentry_envelope.proofs.attributes.write_attributes.Given as goal

abbrev pub invariant-loop-key : goal.invariant-loop-key
invariant-loop-key l =
    Left l.initial.out l.out (members_tokens (put_entries attribute_json l.key-iterator no_members))
    (members_tokens (put_entries attribute_json l.attributes no_members))
