use Rattle.sentry_plain.specs.Texts.{by_bytes}
use Rattle.sentry_plain.specs.ValueView.{data_of}
use Rattle.sentry_envelope.specs.Members.{put_others}
use Rattle.sentry_envelope.specs.Values.{value_json}
use Rattle.sentry_envelope.proofs.Members.{Leads}
use Rattle.sentry_envelope.proofs.own_members.put_others.Given as goal

abbrev pub invariant-loop-key : goal.invariant-loop-key
invariant-loop-key g l =
    Leads l.initial.out l.out (put_others (g.R.OwnMembers.own l.owner) value_json (by_bytes data_of l.key-iterator)) (put_others (g.R.OwnMembers.own l.owner) value_json l.values)
