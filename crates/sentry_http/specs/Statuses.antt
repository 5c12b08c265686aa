-- What the code of a response says of its transaction.
use Rattle.std.specs.Prelude.{ℕ, ◌==◌, ◌&&◌, nat_le, Bool, if◌then◌else◌}
use Rattle.sentry_base.specs.declared.protocol.context.SpanStatus.{SpanStatus}
use Rattle.sentry_base.specs.declared.protocol.context.SpanStatus.TheVariants.{Ok, DeadlineExceeded, Unauthenticated, PermissionDenied, NotFound, ResourceExhausted, InvalidArgument, Unimplemented, Unavailable, InternalError, UnknownError, Cancelled, AlreadyExists, FailedPrecondition}

-- the client is at fault
abbrev pub client_status : ℕ → SpanStatus
client_status code =
    if code == 401 then Unauthenticated
    else if code == 403 then PermissionDenied
    else if code == 404 then NotFound
    else if code == 409 then AlreadyExists
    else if code == 413 then FailedPrecondition
    else if code == 429 then ResourceExhausted
    else if code == 499 then Cancelled
    else InvalidArgument

-- the server is
abbrev pub server_status : ℕ → SpanStatus
server_status code =
    if code == 501 then Unimplemented
    else if code == 503 then Unavailable
    else if code == 504 then DeadlineExceeded
    else InternalError

-- the code lies from one to the other
abbrev pub is_between : ℕ → ℕ → ℕ → Bool
is_between low high code = nat_le low code && nat_le code high

-- the status of a transaction whose response has this code
abbrev pub span_status : ℕ → SpanStatus
span_status code =
    if is_between 100 399 code then Ok
    else if is_between 400 499 code then client_status code
    else if is_between 500 599 code then server_status code
    else UnknownError
