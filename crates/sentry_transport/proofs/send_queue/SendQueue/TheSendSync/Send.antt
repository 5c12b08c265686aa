-- It may go where the queue in it may.
use denote.RattleType.{RattleType}
use denote.Exit.{Exit, unchanged, leaves, hidden, under}
use denote.Param.Send.{IsSend, Quiet, view_send, owning_send, struct_send}
use denote.Struct.Owning.{fields, shape, to}
use denote.Struct.Struct.{exits_of}
use Rattle.sentry_transport.specs.contracts.send_queue.SendQueue.{the_row}
use Rattle.sentry_transport.specs.contracts.send_queue.SendQueue.TheInside as inside
use Rattle.sentry_transport.proofs.Crossing.{TimedQueue_field_send}

quiet : {D X : Type 0} (view : D → X) (e : Exit X) → Quiet e → Quiet (hidden (under view e))
quiet view unchanged q = λ x w. tt
quiet view (leaves L l S s r₀) q = λ d. q (view d)

pub send : (K : RattleType) → IsSend K → IsSend (the_row K)
send K k =
    let O = inside.the_type K in let s = TimedQueue_field_send K k in
    view_send (inside.the_row K) _ _ _ _ (owning_send O (s, tt) (λ d. tt) (λ k. quiet (to O) (exits_of k (fields O)) ((struct_send (shape O) (s, tt)).leaving k)))
