-- It may go where the list in it may.
use denote.Exit.{Exit, unchanged, leaves, hidden, under}
use denote.Param.Send.{IsSend, Quiet, view_send, owning_send, struct_send}
use denote.Struct.Owning.{fields, shape, to}
use denote.Struct.Struct.{exits_of}
use Rattle.sentry_base.specs.contracts.send_envelopes.SendEnvelopes.{the_row}
use Rattle.sentry_base.specs.contracts.send_envelopes.SendEnvelopes.TheInside as inside
use Rattle.sentry_base.proofs.Crossing.{Envelopes_field_send}

quiet : {D X : Type 0} (view : D → X) (e : Exit X) → Quiet e → Quiet (hidden (under view e))
quiet view unchanged q = λ x w. tt
quiet view (leaves L l S s r₀) q = λ d. q (view d)

pub send : IsSend the_row
send =
    let O = inside.the_type in let s = Envelopes_field_send in
    view_send inside.the_row _ _ _ _ (owning_send O (s, tt) (λ d. tt) (λ k. quiet (to O) (exits_of k (fields O)) ((struct_send (shape O) (s, tt)).leaving k)))
