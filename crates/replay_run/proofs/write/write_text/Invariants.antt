use Rattle.sentry_framing.proofs.SendingLemmas.{Progress}
use Rattle.replay_run.proofs.write.write_text.Given as goal

-- what was written, and then what is left, is the text
abbrev pub invariant-loop : goal.invariant-loop
invariant-loop g l = Progress (g.W.Write.contents l.fn.writer) (g.W.Write.contents l.writer) l.fn.text l.rest
