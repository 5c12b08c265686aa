use Rattle.std.proofs.Common.{take}
use Rattle.sentry_envelope.specs.Envelopes.{headers_json}
use Rattle.sentry_envelope.proofs.Sending.{HasSent}
use Rattle.sentry_envelope.proofs.envelopes.to_vec_with_stacktraces.Given as goal

abbrev pub invariant-loop-item : goal.invariant-loop-item
invariant-loop-item l = HasSent l.stacktraces (headers_json l.envelope.header) l.text.items (take l.item-index l.item-items)
