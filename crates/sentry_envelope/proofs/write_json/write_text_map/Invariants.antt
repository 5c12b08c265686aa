use Rattle.json.specs.Json.{no_members}
use Rattle.json.specs.Tree.{members_tokens}
use Rattle.sentry_framing.specs.Json.{Left}
use Rattle.sentry_envelope.specs.Members.{put_entries}
use Rattle.sentry_envelope.proofs.write_json.write_text_map.Given as goal

abbrev pub invariant-loop-key : goal.invariant-loop-key
invariant-loop-key g l =
    Left l.initial.out l.out (members_tokens (put_entries g.T.WriteJson.json l.key-iterator no_members))
    (members_tokens (put_entries g.T.WriteJson.json l.map no_members))
