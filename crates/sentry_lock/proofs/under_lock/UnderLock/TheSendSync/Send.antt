-- The core is all that the struct owns, and it may go to another thread.
use denote.RattleType.{RattleType}
use denote.Exit.{Exit, unchanged, leaves, hidden, under}
use denote.Param.Send.{IsSend, IsSync, Quiet, view_send, owning_send, struct_send}
use denote.Struct.Owning.{fields, shape, to}
use denote.Struct.Struct.{exits_of}
use Rattle.sentry_lock.specs.contracts.under_lock.UnderLock.{the_row}
use Rattle.sentry_lock.specs.contracts.under_lock.UnderLock.TheInside as inside
use Rattle.sentry_lock.proofs.Sent.{Core_field_send}

quiet : {D X : Type 0} (view : D → X) (e : Exit X) → Quiet e → Quiet (hidden (under view e))
quiet view unchanged q = λ x w. tt
quiet view (leaves L l S s r₀) q = λ d. q (view d)

pub send : (P C T : RattleType) → IsSend P → IsSend C → IsSend T → IsSync P → IsSync C → IsSync T → IsSend (the_row P C T)
send P C T ps cs ts py cy ty =
    let O = inside.the_type P C T in let s = Core_field_send P C T ps py cs cy ts ty in
    view_send (inside.the_row P C T) _ _ _ _ (owning_send O (s, tt) (λ d. tt) (λ k. quiet (to O) (exits_of k (fields O)) ((struct_send (shape O) (s, tt)).leaving k)))
