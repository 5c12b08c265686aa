use Rattle.sentry_framing.proofs.Parts.{Counted}
use Rattle.sentry_framing.proofs.receiver.number_of.Given as goal

abbrev pub invariant-loop-digit : goal.invariant-loop-digit
invariant-loop-digit l = Counted l.digits l.digit-index l.n
