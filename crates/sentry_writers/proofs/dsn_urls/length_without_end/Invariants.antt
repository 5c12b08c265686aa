use Rattle.std.proofs.Common.{◌≡◌, ◌≤◌, take, length}
use Rattle.sentry_writers.specs.DsnUrls.{is_slash_or_not, without_end}
use Rattle.sentry_writers.proofs.dsn_urls.length_without_end.Given as goal

-- what is left still ends as the path does
abbrev pub invariant-loop-end : goal.invariant-loop-end
invariant-loop-end l = (l.end ≤ length l.path) × (without_end (is_slash_or_not l.slashes) (take l.end l.path) ≡ without_end (is_slash_or_not l.slashes) l.path)

abbrev pub decreases-loop-end : goal.decreases-loop-end
decreases-loop-end l = l.end
