-- What a thread was refused where no call could answer it.
use Rattle.std.specs.Prelude.{Option, Some, None, ◌+◌, ◌-◌, ◌^◌, min, Result, Ok, Err}
use Rattle.sentry_base.specs.declared.protocol.refusal.Refusal.{Refusal}
use Rattle.sentry_thread_hub.specs.declared.thread_hub.Refused.{Refused}

abbrev pub nothing_refused : Refused
nothing_refused = record { count = 0; first = None }

-- the first refusal stays
abbrev pub first_of : Option Refusal → Refusal → Option Refusal
first_of None refusal = Some refusal
first_of (Some earlier) refusal = Some earlier

-- one more refusal
abbrev pub and_refused : Refusal → Refused → Refused
and_refused refusal before = record {
  count = min (before.count + 1) (2 ^ 64 - 1);
  first = first_of before.first refusal;
}

-- what was refused once a call has answered this
abbrev pub after_outcome : Result (Unit {0}) Refusal → Refused → Refused
after_outcome (Ok done) before = before
after_outcome (Err refusal) before = and_refused refusal before
