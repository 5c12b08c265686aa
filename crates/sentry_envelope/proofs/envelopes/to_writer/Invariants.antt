use Rattle.std.proofs.Common.{[], drop, take}
use Rattle.sentry_framing.proofs.SendingLemmas.{Progress}
use Rattle.sentry_envelope.specs.Envelopes.{envelope_text}
use Rattle.sentry_envelope.proofs.Sending.{items_text, AreReadable}
use Rattle.sentry_envelope.proofs.envelopes.to_writer.Given as goal

-- what was written, and the items that are left, are the text; a receiver can read the items so far
abbrev pub invariant-loop-item : goal.invariant-loop-item
invariant-loop-item g l =
    Progress (g.W.Write.contents l.fn.writer) (g.W.Write.contents l.writer) (envelope_text l.envelope) (items_text (drop l.item-index l.item-items))
    × AreReadable [] (take l.item-index l.item-items)
