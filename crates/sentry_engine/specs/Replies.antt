-- Answers in other forms.
use Rattle.std.specs.Prelude.{Result, Ok, Err}
use Rattle.sentry_base.specs.declared.protocol.refusal.Refusal.{Refusal}
use Rattle.sentry_state.specs.declared.state.Out.{Out}

-- the answer without the value that a refusal hands back
abbrev pub without_value : {T X : Type 0} → Result (Out T) (Refusal × X) → Result (Out T) Refusal
without_value (Ok out) = Ok out
without_value (Err refused) = Err refused.0
