-- The words of labels after a change.
use Rattle.std.proofs.Common.{◌≡◌, ap, ◌∙◌, ℕ}
use Rattle.std.specs.Prelude.{Option, Some, None}
use Rattle.sentry_plain.specs.Tables.{value_at, replace_at}
use Rattle.sentry_client_reports.specs.LossCounts.{CountedPart}
use Rattle.sentry_plain.proofs.ChangeLemmas.{changed_same}
use Rattle.sentry_lock.specs.Words.{Drainers, HasNoOpenWords}

pub none_there : (drainers : Drainers) (n : ℕ) → value_at drainers n ≡ None → HasNoOpenWords drainers n
none_there drainers n at drainer e = absurd cc

pub ended_there : (drainers : Drainers) (n : ℕ) → value_at drainers n ≡ Some None → HasNoOpenWords drainers n
ended_there drainers n at drainer e = absurd cc

pub ended_stays : (drainers : Drainers) (n : ℕ) (now : Option CountedPart) → value_at drainers n ≡ Some None → now ≡ None
    → replace_at drainers n now ≡ drainers
ended_stays drainers n now at is = ap (replace_at drainers n) is ∙ changed_same drainers n None at
