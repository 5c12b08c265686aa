use Rattle.std.proofs.Common.{◌≡◌, Option, Some, codes, rules, sym, ap}
use Rattle.sentry_plain.specs.declared.value.Value.{Value}
use Rattle.sentry_framing.specs.Json.{optional}
use Rattle.sentry_framing.proofs.Written.{puts}
use Rattle.sentry_envelope.specs.Events.{stacktrace_json}
use Rattle.sentry_envelope.proofs.Lists.{same_members}
use Rattle.sentry_envelope.proofs.events.put_stacktrace.Goals as goal

pub returns-in_ok-write_value-in-Some : goal.returns-in_ok-write_value-in-Some
returns-in_ok-write_value-in-Some c =
    let is : c.args.stacktrace.now ≡ Some c.in-Some.stacktrace = search (rules, c.in-Some.is) in
    same_members (puts (stacktrace_json c.in-Some.stacktrace) c.in_ok-key-in-Some.ensures c.in_ok-write_value-in-Some.ensures)
    (λ rest. ap (λ (o : Option Value). optional stacktrace_json (codes "stacktrace") o rest) (sym is))
