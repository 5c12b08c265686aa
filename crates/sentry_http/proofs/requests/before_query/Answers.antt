use Rattle.std.proofs.Common.{◌≡◌, sym, ap, ◌∙◌, ℕ, ◌<◌, true, arith}
use Rattle.std.specs.List.{position}
use Rattle.std.proofs.lemmas.Bool.Decides.{nat_tests}
use Rattle.std.proofs.lemmas.List.Quantifiers.{position-Some}
use Rattle.std.proofs.lemmas.Str.{IsCharBoundary-before_ascii}
use Rattle.sentry_http.specs.Requests.{begins_query}
use Rattle.sentry_http.proofs.requests.before_query.Goals as goal

is_ascii : (b : ℕ) → begins_query b ≡ true → b < 128
is_ascii b h = grind (arith, nat_tests)

pub range-requires-clause-end_boundary : goal.range-requires-clause-end_boundary
range-requires-clause-end_boundary c =
    let found = position-Some begins_query c.args.url.now c.in-Some.start 0 (sym (c.in-Some.ensures ∙ ap (position begins_query) c.as_bytes.ensures.value)) in
    IsCharBoundary-before_ascii c.args.url.now c.in-Some.start found.0 (is_ascii _ found.1)
