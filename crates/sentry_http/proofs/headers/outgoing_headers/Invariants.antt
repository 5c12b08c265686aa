use Rattle.std.proofs.Common.{◌≡◌, ◌++◌, map, drop}
use Rattle.sentry_trace.specs.HeaderLists.{header_of}
use Rattle.sentry_trace.specs.TraceHeaders.{headers_left}
use Rattle.sentry_http.specs.Requests.{baggage}
use Rattle.sentry_http.proofs.headers.outgoing_headers.Given as goal

-- the headers so far, and the baggage of those that are left
abbrev pub invariant-loop-header : goal.invariant-loop-header
invariant-loop-header l =
    l.made ++ baggage (map header_of (drop l.header-index l.incoming))
    ≡ headers_left l.fn.trace ++ baggage (map header_of l.incoming)
