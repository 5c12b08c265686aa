use Rattle.std.proofs.Common.{◌≡◌, ◌<◌, length, codes, rules}
use Rattle.json.specs.Json.{array, object, no_members, member}
use Rattle.sentry_framing.proofs.Written.{made, puts}
use Rattle.sentry_envelope.specs.Events.{exceptions_json}
use Rattle.sentry_envelope.proofs.Lists.{same_members}
use Rattle.sentry_envelope.proofs.Stacktraces.{put_exceptions-some, put_exceptions-none}
use Rattle.sentry_envelope.proofs.events.put_exceptions.Goals as goal

pub returns-then-is_empty : goal.returns-then-is_empty
returns-then-is_empty c =
    let none : length c.args.exceptions.now ≡ 0 = search (rules, c.if-is_empty.true, c.is_empty.ensures) in
    same_members c.in_ok-put_stacktrace_at.ensures (put_exceptions-none c.args.stacktraces.now c.args.exceptions.now none)

pub returns : goal.returns
returns c =
    let some : 0 < length c.args.exceptions.now = search (rules, c.if-is_empty.false, c.is_empty.ensures) in
    let list = array (exceptions_json c.args.stacktraces.now 0 c.args.exceptions.now) in
    same_members
    (puts (object (member (codes "values") list no_members)) c.in_ok-key.ensures
    (made c.in_ok-begin_object.ensures (puts list c.in_ok-key-2.ensures c.in_ok-write_exceptions.ensures) c.in_ok-end_object.ensures))
    (put_exceptions-some c.args.stacktraces.now c.args.exceptions.now some)
