use Rattle.sentry_writers.proofs.stamps.+push_digits.Given as goal

abbrev pub decreases-push_digits : goal.decreases-push_digits
decreases-push_digits a = a.width
