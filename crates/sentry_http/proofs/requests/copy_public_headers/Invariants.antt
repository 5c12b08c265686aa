use Rattle.std.proofs.Common.{◌≡◌, [], map, drop}
use Rattle.sentry_trace.specs.HeaderLists.{header_of}
use Rattle.sentry_http.specs.Requests.{put_public}
use Rattle.sentry_http.proofs.requests.copy_public_headers.Given as goal

-- what is still to be put in leads to the whole
abbrev pub invariant-loop-header : goal.invariant-loop-header
invariant-loop-header l =
    put_public (map header_of (drop l.header-index l.headers)) l.copies ≡ put_public (map header_of l.headers) []
