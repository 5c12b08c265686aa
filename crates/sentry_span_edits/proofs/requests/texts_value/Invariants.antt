use Rattle.std.proofs.Common.{◌≡◌, [], map}
use Rattle.sentry_plain.specs.Texts.{merge}
use Rattle.sentry_plain.specs.Values.{text}
use Rattle.sentry_span_edits.proofs.requests.texts_value.Given as goal

-- what is still to be put in leads to the whole
abbrev pub invariant-loop-key : goal.invariant-loop-key
invariant-loop-key l =
    merge (map (λ e. (e.0, text e.1)) l.key-iterator) l.values
    ≡ merge (map (λ e. (e.0, text e.1)) l.texts) []
