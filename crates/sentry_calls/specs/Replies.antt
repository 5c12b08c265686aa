-- Answers in other forms.
use Rattle.std.specs.Prelude.{◌≡◌, Result, Ok, Err}
use Rattle.sentry_base.specs.declared.protocol.refusal.Refusal.{Refusal}
use Rattle.sentry_state.specs.declared.state.Out.{Out}
use Rattle.sentry_state.specs.Outcomes.{Outcome}

-- an answer with another reply
abbrev pub map_answer : {T U : Type 0} → (T → U) → Result (Out T) Refusal → Result (Out U) Refusal
map_answer f (Ok out) = Ok (record { reply = f out.reply; sent = out.sent })
map_answer f (Err refusal) = Err refusal

abbrev pub map_reply : {P C T U : Type 0} → (T → U) → Outcome P C T → Outcome P C U
map_reply f outcome = record { answer = map_answer f outcome.answer; after = outcome.after }

-- the reply is what the function may give of the other reply, with the same envelopes; a refusal is the same refusal
abbrev pub IsMapped : {T U : Type 0} → (T → U → Type 0) → Result (Out T) Refusal → Result (Out U) Refusal → Type 0
IsMapped gives (Ok out) (Ok mapped) = gives out.reply mapped.reply × (mapped.sent ≡ out.sent)
IsMapped gives (Err refusal) (Err same) = same ≡ refusal
IsMapped gives (Ok out) (Err refusal) = ⊥
IsMapped gives (Err refusal) (Ok out) = ⊥
